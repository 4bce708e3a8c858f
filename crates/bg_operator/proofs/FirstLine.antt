-- Lemmas on the first line of the bytes.
use Rattle.std.proofs.Common.{append-nil, ◌≡◌, ℕ, ◌+◌, ◌-◌, ◌<◌, ◌≤◌, Bool, true, false, ◌&&◌, List, [], ◌∷◌, length, take, get_or, if◌then◌else◌, ◌==◌, refl, sym, ap, ◌∙◌, arith, suc, sub-one}
use Rattle.std.specs.Prelude.{nat_lt}
use Rattle.std.specs.Io.BufRead.{strip_last, ends_with_byte}
use Rattle.std.proofs.lemmas.List.{length-take, length-append}
use Rattle.std.proofs.lemmas.Bool.Decides.{nat_tests}
use Rattle.bg_operator.specs.declared.lines.Found.TheVariants.{TooLong}
use Rattle.bg_operator.specs.Lines.{onto_first, lines_of, line_of, before_break, after_break, has_break}
use Rattle.bg_operator.specs.Reading.{Gives}
use Rattle.bg_operator.specs.Taking.{TakesPieces}
use Rattle.bg_operator.proofs.Pieces.{taken_break, taken_front}

positive : (n : ℕ) → nat_lt 0 (suc n) ≡ true
positive n = grind (arith, nat_tests)

-- a carriage return is removed only from the end of the list
strip_more : (x y : ℕ) (ys : List ℕ) → strip_last 13 (x ∷ y ∷ ys) ≡ x ∷ strip_last 13 (y ∷ ys)
strip_more x y ys =
    let n = length ys in
    let split : (t : Bool) → (if t then x ∷ take n (y ∷ ys) else x ∷ y ∷ ys) ≡ x ∷ (if t then take n (y ∷ ys) else y ∷ ys) = λ t. elim t as (λ t. (if t then x ∷ take n (y ∷ ys) else x ∷ y ∷ ys) ≡ x ∷ (if t then take n (y ∷ ys) else y ∷ ys)) [ true ↦ refl | false ↦ refl ] in
    simp sub-one (rw (positive (suc n), positive n) (split (get_or (y ∷ ys) n 0 == 13)))

pub strip_length : (xs : List ℕ) → (length xs ≤ length (strip_last 13 xs) + 1) × (length (strip_last 13 xs) ≤ length xs)
strip_length xs = elim (ends_with_byte 13 xs) as (λ t. (length xs ≤ length (if t then take (length xs - 1) xs else xs) + 1) × (length (if t then take (length xs - 1) xs else xs) ≤ length xs)) [
  | true ↦ (omega (arith, length-take (length xs - 1) xs), omega (arith, length-take (length xs - 1) xs))
  | false ↦ (omega arith, omega arith)
]

-- before a break
onto_break : (x y : ℕ) (ys : List ℕ) → (y == 10) ≡ true → (x == 10) ≡ false → lines_of (x ∷ y ∷ ys) ≡ line_of (x ∷ y ∷ ys) ∷ lines_of (after_break (x ∷ y ∷ ys))
onto_break x y ys e f = rw (e, f) (elim (x == 13) as (λ t. (if t && true then [] ∷ lines_of ys else (x ∷ []) ∷ lines_of ys) ≡ (if t then [] else x ∷ []) ∷ lines_of ys) [ true ↦ refl | false ↦ refl ])

line_cons : (t : Bool) (x y : ℕ) (bs : List ℕ) → x ∷ (if t then strip_last 13 (y ∷ bs) else y ∷ bs) ≡ (if t then strip_last 13 (x ∷ y ∷ bs) else x ∷ y ∷ bs)
line_cons t x y bs = elim t as (λ t. x ∷ (if t then strip_last 13 (y ∷ bs) else y ∷ bs) ≡ (if t then strip_last 13 (x ∷ y ∷ bs) else x ∷ y ∷ bs)) [ true ↦ sym (strip_more x y bs) | false ↦ refl ]

onto_byte : (x y : ℕ) (ys : List ℕ) → (y == 10) ≡ false → (x == 10) ≡ false → lines_of (y ∷ ys) ≡ line_of (y ∷ ys) ∷ lines_of (after_break (y ∷ ys)) → lines_of (x ∷ y ∷ ys) ≡ line_of (x ∷ y ∷ ys) ∷ lines_of (after_break (x ∷ y ∷ ys))
onto_byte x y ys e f h =
    let rest = lines_of (y ∷ ys) in
    let skip : (if x == 13 && false then rest else onto_first x rest) ≡ onto_first x rest = elim (x == 13) as (λ t. (if t && false then rest else onto_first x rest) ≡ onto_first x rest) [ true ↦ refl | false ↦ refl ] in
    let line : x ∷ line_of (y ∷ ys) ≡ line_of (x ∷ y ∷ ys) = rw (e, f) (line_cons (has_break ys) x y (before_break ys)) in
    let after : after_break (y ∷ ys) ≡ after_break (x ∷ y ∷ ys) = sym (ap (λ t. if t then y ∷ ys else after_break (y ∷ ys)) f) in
    ap (λ t. if t then [] ∷ rest else (if x == 13 && (y == 10) then rest else onto_first x rest)) f
    ∙ ap (λ t. if x == 13 && t then rest else onto_first x rest) e
    ∙ skip
    ∙ ap (onto_first x) h
    ∙ ap (λ l. l ∷ lines_of (after_break (y ∷ ys))) line
    ∙ ap (λ l. line_of (x ∷ y ∷ ys) ∷ lines_of l) after

pub lines_first : (x : ℕ) (xs : List ℕ) → lines_of (x ∷ xs) ≡ line_of (x ∷ xs) ∷ lines_of (after_break (x ∷ xs))
lines_first x [] = elim (x == 10) as (λ t. (if t then [] ∷ [] else (if x == 13 && false then [] else (x ∷ []) ∷ [])) ≡ (if (if t then true else false) then strip_last 13 (if t then [] else x ∷ []) else (if t then [] else x ∷ [])) ∷ lines_of (if t then [] else [])) [ true ↦ refl | false ↦ elim (x == 13) as (λ t. (if t && false then [] else (x ∷ []) ∷ []) ≡ (x ∷ []) ∷ []) [ true ↦ refl | false ↦ refl ] ]
lines_first x (y ∷ ys) = elim (x == 10) as (λ t. (x == 10) ≡ t → lines_of (x ∷ y ∷ ys) ≡ line_of (x ∷ y ∷ ys) ∷ lines_of (after_break (x ∷ y ∷ ys))) [
  | true ↦ λ f. rw f refl
  | false ↦ λ f. (elim (y == 10) as (λ t. (y == 10) ≡ t → lines_of (x ∷ y ∷ ys) ≡ line_of (x ∷ y ∷ ys) ∷ lines_of (after_break (x ∷ y ∷ ys))) [
    | true ↦ λ e. onto_break x y ys e f
    | false ↦ λ e. onto_byte x y ys e f (lines_first y ys)
  ]) refl
] refl

-- ---- what is found after a line was taken

-- the first line and the rest, of some bytes
pub first_and_rest : (xs : List ℕ) → 0 < length xs → lines_of xs ≡ line_of xs ∷ lines_of (after_break xs)
first_and_rest [] some = absurd (omega arith)
first_and_rest (x ∷ xs) some = lines_first x xs

-- bytes with a break are not empty
some_of_break : (xs : List ℕ) → has_break xs ≡ true → 0 < length xs
some_of_break [] e = cc
some_of_break (x ∷ xs) e = omega arith

pub line_of_break : (line xs ys : List ℕ) → TakesPieces line xs (10 ∷ ys) → line_of xs ≡ strip_last 13 line
line_of_break line xs ys p =
    let facts = taken_break line xs ys p in
    ap (λ t. if t then strip_last 13 (before_break xs) else before_break xs) facts.0 ∙ ap (strip_last 13) facts.1

pub line_of_end : (line xs : List ℕ) → TakesPieces line xs [] → line_of xs ≡ line
line_of_end line xs p =
    let facts = taken_front line xs [] p in
    ap (λ t. if t then strip_last 13 (before_break xs) else before_break xs) facts.0 ∙ facts.1 ∙ append-nil line

-- a line that was not read to its end is at least as long as the bytes that were read, except for a
-- CR
pub line_of_room : (line xs ys : List ℕ) → TakesPieces line xs ys → length line ≤ length (line_of xs) + 1
line_of_room line xs ys p =
    let facts = taken_front line xs ys p in
    let long : length (before_break xs) ≡ length line + length (before_break ys) = ap length facts.1 ∙ length-append line (before_break ys) in
    elim (has_break xs) as (λ t. length line ≤ length (if t then strip_last 13 (before_break xs) else before_break xs) + 1) [
      | true ↦ let s = strip_length (before_break xs) in omega arith
      | false ↦ omega arith
    ]

pub gives_break : (line xs ys : List ℕ) → TakesPieces line xs (10 ∷ ys) → lines_of xs ≡ strip_last 13 line ∷ lines_of ys
gives_break line xs ys p =
    let facts = taken_break line xs ys p in
    first_and_rest xs (some_of_break xs facts.0) ∙ ap (λ l. l ∷ lines_of (after_break xs)) (line_of_break line xs ys p) ∙ ap (λ l. strip_last 13 line ∷ lines_of l) facts.2

pub gives_rest : (line xs ys : List ℕ) → TakesPieces line xs [] → ys ≡ [] → 0 < length line → lines_of xs ≡ line ∷ lines_of ys
gives_rest line xs ys p none some =
    let facts = taken_front line xs [] p in
    let more : 0 < length xs = omega (arith, ap length p.all, length-append line []) in
    first_and_rest xs more ∙ ap (λ l. l ∷ lines_of (after_break xs)) (line_of_end line xs p) ∙ ap (λ l. line ∷ lines_of l) (facts.2 ∙ sym none)

pub gives_long : (line xs ys zs : List ℕ) → TakesPieces line xs ys → 4098 ≤ length line → zs ≡ after_break ys → Gives TooLong line xs zs
gives_long line xs ys zs p long passed =
    let facts = taken_front line xs ys p in
    let some : 0 < length xs = omega (arith, ap length p.all, length-append line ys) in
    (line_of xs, first_and_rest xs some ∙ ap (λ l. line_of xs ∷ lines_of l) (facts.2 ∙ sym passed), omega (arith, line_of_room line xs ys p))
