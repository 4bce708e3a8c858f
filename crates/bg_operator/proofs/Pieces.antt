-- Lemmas on breaks in bytes that come in pieces.
use Rattle.std.proofs.Common.{Bool, ◌≡◌, ℕ, ◌+◌, ◌<◌, ◌≤◌, get_or, true, false, List, [], ◌∷◌, ◌++◌, length, take, drop, if◌then◌else◌, ◌==◌, refl, sym, ap, ◌∙◌, arith, Option, None, Some, append-nil, append_assoc, subst}
use Rattle.std.proofs.lemmas.List.{take-take, take_more, take-append-drop, drop-take}
use Rattle.std.proofs.lemmas.Bool.Decides.{nat_tests}
use Rattle.std.specs.Prelude.{OnSome}
use Rattle.std.specs.Io.KnownBytes.{Consumes, IsAtEnd, Keeps}
use Rattle.bg_operator.specs.Lines.{before_break, after_break, has_break}
use Rattle.bg_operator.specs.Reading.{Known}
use Rattle.bg_operator.specs.Taking.{Grows, TakesPieces}

pub has_break-append : (a b : List ℕ) → has_break (a ++ b) ≡ (if has_break a then true else has_break b)
has_break-append [] b = refl
has_break-append (x ∷ a) b = elim (x == 10) as (λ t. (if t then true else has_break (a ++ b)) ≡ (if (if t then true else has_break a) then true else has_break b)) [ true ↦ refl | false ↦ has_break-append a b ]

pub before_break-append : (a b : List ℕ) → before_break (a ++ b) ≡ (if has_break a then before_break a else a ++ before_break b)
before_break-append [] b = refl
before_break-append (x ∷ a) b =
    elim (x == 10) as (λ t. (if t then [] else x ∷ before_break (a ++ b)) ≡ (if (if t then true else has_break a) then (if t then [] else x ∷ before_break a) else x ∷ (a ++ before_break b))) [
      | true ↦ refl
      | false ↦ ap (λ l. x ∷ l) (before_break-append a b) ∙ elim (has_break a) as (λ t. x ∷ (if t then before_break a else a ++ before_break b) ≡ (if t then x ∷ before_break a else x ∷ (a ++ before_break b))) [ true ↦ refl | false ↦ refl ]
    ]

pub after_break-append : (a b : List ℕ) → after_break (a ++ b) ≡ (if has_break a then after_break a ++ b else after_break b)
after_break-append [] b = refl
after_break-append (x ∷ a) b =
    elim (x == 10) as (λ t. (if t then a ++ b else after_break (a ++ b)) ≡ (if (if t then true else has_break a) then (if t then a else after_break a) ++ b else after_break b)) [
      | true ↦ refl
      | false ↦ after_break-append a b
    ]

pub before_no_break : (a : List ℕ) → has_break a ≡ false → before_break a ≡ a
before_no_break [] h = refl
before_no_break (x ∷ a) h = (elim (x == 10) as (λ t. (if t then true else has_break a) ≡ false → (if t then [] else x ∷ before_break a) ≡ x ∷ a) [ true ↦ λ e. cc | false ↦ λ e. ap (λ l. x ∷ l) (before_no_break a e) ]) h

pub after_no_break : (a : List ℕ) → has_break a ≡ false → after_break a ≡ []
after_no_break [] h = refl
after_no_break (x ∷ a) h = (elim (x == 10) as (λ t. (if t then true else has_break a) ≡ false → (if t then a else after_break a) ≡ []) [ true ↦ λ e. cc | false ↦ λ e. after_no_break a e ]) h

first_false : (t u : Bool) → (if t then true else u) ≡ false → t ≡ false
first_false true u e = cc
first_false false u e = refl

-- the front of bytes without a break has no break
pub no_break_take : (n : ℕ) (a : List ℕ) → has_break a ≡ false → has_break (take n a) ≡ false
no_break_take n a none =
    let e : (if has_break (take n a) then true else has_break (drop n a)) ≡ false = sym (has_break-append (take n a) (drop n a)) ∙ ap has_break (take-append-drop n a) ∙ none in
    first_false (has_break (take n a)) (has_break (drop n a)) e

pub no_break_append : (a b : List ℕ) → has_break a ≡ false → has_break b ≡ false → has_break (a ++ b) ≡ false
no_break_append a b none also = has_break-append a b ∙ ap (λ t. if t then true else has_break b) none ∙ also

pub no_break_less : (k n : ℕ) (a : List ℕ) → k ≤ n → has_break (take n a) ≡ false → has_break (take k a) ≡ false
no_break_less k n a less none = ap has_break (sym (take-take k n a less)) ∙ no_break_take k (take n a) none

not_ten : (x : ℕ) → (x ≡ 10 → ⊥) → (x == 10) ≡ false
not_ten x other = grind (arith, nat_tests)

-- a further byte that is not a break
pub no_break_more : (xs : List ℕ) (i : ℕ) → i < length xs → has_break (take i xs) ≡ false → (get_or xs i 0 ≡ 10 → ⊥) → has_break (take (i + 1) xs) ≡ false
no_break_more xs i h none other =
    let x = get_or xs i 0 in
    let alone : has_break (x ∷ []) ≡ false = ap (λ t. if t then true else false) (not_ten x other) in
    ap has_break (take_more xs i 0 h) ∙ no_break_append (take i xs) (x ∷ []) none alone

-- ---- what was taken tells the first line

-- up to its break
pub taken_break : (line xs ys : List ℕ) → TakesPieces line xs (10 ∷ ys) → (has_break xs ≡ true) × (before_break xs ≡ line) × (after_break xs ≡ ys)
taken_break line xs ys p = (
  ap has_break p.all ∙ has_break-append line (10 ∷ ys) ∙ ap (λ t. if t then true else true) p.no_break,
  ap before_break p.all ∙ before_break-append line (10 ∷ ys) ∙ ap (λ t. if t then before_break line else line ++ []) p.no_break ∙ append-nil line,
  ap after_break p.all ∙ after_break-append line (10 ∷ ys) ∙ ap (λ t. if t then after_break line ++ (10 ∷ ys) else ys) p.no_break,
)

-- up to the limit of the room, or to the end
pub taken_front : (line xs ys : List ℕ) → TakesPieces line xs ys → (has_break xs ≡ has_break ys) × (before_break xs ≡ line ++ before_break ys) × (after_break xs ≡ after_break ys)
taken_front line xs ys p = (
  ap has_break p.all ∙ has_break-append line ys ∙ ap (λ t. if t then true else has_break ys) p.no_break,
  ap before_break p.all ∙ before_break-append line ys ∙ ap (λ t. if t then before_break line else line ++ before_break ys) p.no_break,
  ap after_break p.all ∙ after_break-append line ys ∙ ap (λ t. if t then after_break line ++ ys else after_break ys) p.no_break,
)

-- ---- how more is taken

grows_by : (old part new xs ys : List ℕ) → new ≡ old ++ part → xs ≡ part ++ ys → has_break part ≡ false → Grows old new xs ys
grows_by old part new xs ys new_is split none = record {
  all = ap (λ l. old ++ l) split ∙ sym (append_assoc old part ys) ∙ ap (λ l. l ++ ys) (sym new_is);
  no_break = λ h. ap has_break new_is ∙ no_break_append old part h none;
}

take_through_break : (at : ℕ) (piece : List ℕ) → drop at piece ≡ 10 ∷ drop (at + 1) piece → take (at + 1) piece ≡ take at piece ++ (10 ∷ [])
take_through_break at piece found =
    sym (take-append-drop at (take (at + 1) piece))
    ∙ ap (λ l. l ++ drop at (take (at + 1) piece)) (take-take at (at + 1) piece (omega arith))
    ∙ ap (λ l. take at piece ++ l) (drop-take at 1 piece ∙ ap (take 1) found)

-- a break for which there is room
pub takes_break : (old piece new xs ys : List ℕ) (at : ℕ) → new ≡ old ++ take at piece → drop at piece ≡ 10 ∷ drop (at + 1) piece
    → has_break (take at piece) ≡ false → xs ≡ take (at + 1) piece ++ ys → Grows old new xs (10 ∷ ys)
takes_break old piece new xs ys at new_is found none split =
    grows_by old (take at piece) new xs (10 ∷ ys) new_is
    (split ∙ ap (λ l. l ++ ys) (take_through_break at piece found) ∙ append_assoc (take at piece) (10 ∷ []) ys) none

-- bytes before a break, up to the room
pub takes_more : (old piece new xs ys : List ℕ) (at kept : ℕ) → kept ≤ at → new ≡ old ++ take kept piece
    → has_break (take at piece) ≡ false → xs ≡ take kept piece ++ ys → Grows old new xs ys
takes_more old piece new xs ys at kept less new_is none split =
    grows_by old (take kept piece) new xs ys new_is split (no_break_less kept at piece less none)

-- ---- how the rest of a line is passed over

-- a piece with the break
pub passes_break : (piece xs ys : List ℕ) (at : ℕ) → drop at piece ≡ 10 ∷ drop (at + 1) piece → has_break (take at piece) ≡ false
    → xs ≡ take (at + 1) piece ++ ys → ys ≡ after_break xs
passes_break piece xs ys at found none split =
    let all : xs ≡ take at piece ++ (10 ∷ ys) =
    split ∙ ap (λ l. l ++ ys) (take_through_break at piece found) ∙ append_assoc (take at piece) (10 ∷ []) ys in
    sym (taken_break (take at piece) xs ys (record { all = all; no_break = none })).2

-- a piece with no break
pub passes_more : (piece xs ys : List ℕ) (at : ℕ) → has_break (take at piece) ≡ false → xs ≡ take at piece ++ ys → after_break xs ≡ after_break ys
passes_more piece xs ys at none split = (taken_front (take at piece) xs ys (record { all = split; no_break = none })).2

-- ---- where the bytes are known

pub Known-kept : (P : List ℕ → List ℕ → Type 0) (first old new : Option (List ℕ)) → Known first old P → Keeps old new → Known first new P
Known-kept P None old new k e = tt
Known-kept P (Some xs) None new k e = absurd k
Known-kept P (Some xs) (Some ys) None k e = absurd e
Known-kept P (Some xs) (Some ys) (Some zs) k e = subst (P xs) (sym e) k

-- these bytes were taken
pub Known-taken : (P : List ℕ → List ℕ → Type 0) (old new : Option (List ℕ)) (part : List ℕ) → ((xs ys : List ℕ) → xs ≡ part ++ ys → P xs ys) → Consumes old new part → Known old new P
Known-taken P None new part f e = tt
Known-taken P (Some xs) None part f e = absurd e
Known-taken P (Some xs) (Some ys) part f e = f xs ys e

-- these bytes were read, after which there are none if t holds
pub Known-taken_to_end : (t : Bool) (P : List ℕ → List ℕ → Type 0) (old new : Option (List ℕ)) (part : List ℕ)
    → ((xs ys : List ℕ) → xs ≡ part ++ ys → (t ≡ true → ys ≡ []) → P xs ys) → Consumes old new part → (t ≡ true → OnSome old (IsAtEnd new)) → Known old new P
Known-taken_to_end t P None new part f e none = tt
Known-taken_to_end t P (Some xs) None part f e none = absurd e
Known-taken_to_end t P (Some xs) (Some ys) part f e none = f xs ys e none

pub Known-weaker : (P Q : List ℕ → List ℕ → Type 0) (first now : Option (List ℕ)) → ((xs ys : List ℕ) → P xs ys → Q xs ys) → Known first now P → Known first now Q
Known-weaker P Q None now f k = tt
Known-weaker P Q (Some xs) None f k = absurd k
Known-weaker P Q (Some xs) (Some ys) f k = f xs ys k

pub Known-both : (P Q S : List ℕ → List ℕ → Type 0) (first old new : Option (List ℕ)) → ((xs ys zs : List ℕ) → P xs ys → Q ys zs → S xs zs) → Known first old P → Known old new Q → Known first new S
Known-both P Q S None old new f k l = tt
Known-both P Q S (Some xs) None new f k l = absurd k
Known-both P Q S (Some xs) (Some ys) None f k l = absurd l
Known-both P Q S (Some xs) (Some ys) (Some zs) f k l = f xs ys zs k l
