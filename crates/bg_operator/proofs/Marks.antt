-- Lemmas on the part before the mark.
use Rattle.std.proofs.Common.{◌≡◌, ◌≢◌, ℕ, ◌+◌, ◌<◌, ◌≤◌, Bool, take, true, false, List, [], ◌∷◌, ◌++◌, length, if◌then◌else◌, ◌==◌, refl, sym, ap, ◌∙◌, arith, append_assoc, append-nil}
use Rattle.std.specs.Prelude.{codes, bytes_eq}
use Rattle.std.proofs.lemmas.List.{length-append}
use Rattle.std.proofs.lemmas.Bool.{false≢true}
use Rattle.std.proofs.lemmas.Bool.Decides.{nat_tests}
use Rattle.std.proofs.lemmas.Slice.Eq.{bytes_eq-Decides}
use Rattle.bg_operator.specs.Lines.{before_break, after_break, has_break, line_of}
use Rattle.bg_operator.specs.Taking.{Gathers, line_text, TakesLine}
use Rattle.bg_operator.specs.declared.taking.LineEnd.{LineEnd}
use Rattle.bg_operator.specs.declared.taking.LineEnd.TheVariants.{Break, End, Room}
use Rattle.bg_operator.specs.Parting.{at_mark, part_from, rest_from, part_of, rest_of}
use Rattle.bg_operator.proofs.Pieces.{before_no_break, taken_break, taken_front}
use Rattle.bg_operator.proofs.FirstLine.{line_of_break, line_of_end, line_of_room}

-- part of the bytes xs was read so far, and ys, which begin a line, are unread
pub record Parting (part xs ys : List ℕ) : Type 0 where
  pub front : part_of xs ≡ part ++ part_of ys
  pub rest : rest_of xs ≡ rest_of ys

-- whole was read so far of the bytes xs, and ys are unread
pub record Gathering (whole xs ys : List ℕ) : Type 0 where
  pub all : xs ≡ whole ++ ys

-- a piece is taken
pub gathers_piece : (at_end : Bool) (whole piece new xs ys : List ℕ) (kept : ℕ) → new ≡ whole ++ take kept piece → xs ≡ take kept piece ++ ys → (at_end ≡ true → ys ≡ []) → Gathers at_end whole new xs ys
gathers_piece at_end whole piece new xs ys kept new_is split none = record {
  all = ap (λ l. whole ++ l) split ∙ sym (append_assoc whole (take kept piece) ys) ∙ ap (λ l. l ++ ys) (sym new_is);
  none_left = none;
}

pub none_seen : (n : ℕ) (t : Bool) → t ≡ (n == 0) → t ≡ true → n ≡ 0
none_seen n t e is = grind (arith, nat_tests)

-- lists of different lengths differ
differs : (xs ys : List ℕ) → length xs ≢ length ys → bytes_eq xs ys ≡ false
differs xs ys h = (elim (bytes_eq xs ys) as (λ t. bytes_eq xs ys ≡ t → t ≡ false) [ true ↦ λ e. absurd (h (ap length ((bytes_eq-Decides xs ys).0 e))) | false ↦ λ e. refl ]) refl

-- the bytes that were read of a line decide whether it is the mark
pub mark_is : (room : ℕ) (end : LineEnd) (kept ys zs : List ℕ) → 5 ≤ room → TakesLine room end kept ys zs → bytes_eq (line_text end kept) (codes "---") ≡ at_mark ys
mark_is room Break kept ys zs big t = ap (λ l. bytes_eq l (codes "---")) (sym (line_of_break kept ys zs t))
mark_is room End kept ys zs big t = ap (λ l. bytes_eq l (codes "---")) (sym (line_of_end kept ys t.0))
mark_is room Room kept ys zs big t =
    differs kept (codes "---") (omega arith) ∙ sym (differs (line_of ys) (codes "---") (let long = line_of_room kept ys zs t.0 in omega arith))

-- the bytes that are unread after the mark
pub mark_rest : (room : ℕ) (end : LineEnd) (kept ys zs : List ℕ) → 5 ≤ room → TakesLine room end kept ys zs → at_mark ys ≡ true → zs ≡ after_break ys
mark_rest room Break kept ys zs big t m = sym (taken_break kept ys zs t).2
mark_rest room End kept ys zs big t m = t.1 ∙ sym (taken_front kept ys [] t.0).2
mark_rest room Room kept ys zs big t m =
    absurd (false≢true (sym (differs (line_of ys) (codes "---") (let long = line_of_room kept ys zs t.0 in omega arith)) ∙ m))

-- the bytes that were read of a line are at most as long as the line
taken_fits : (room : ℕ) (end : LineEnd) (kept ys zs : List ℕ) → TakesLine room end kept ys zs → length kept ≤ length (before_break ys)
taken_fits room Break kept ys zs t = omega (arith, ap length (taken_break kept ys zs t).1)
taken_fits room End kept ys zs t = omega (arith, ap length (taken_front kept ys [] t.0).1, length-append kept [])
taken_fits room Room kept ys zs t = omega (arith, ap length (taken_front kept ys zs t.0).1, length-append kept (before_break zs))

is_ten : (x : ℕ) → (x == 10) ≡ true → x ≡ 10
is_ten x e = grind (arith, nat_tests)

inner_part : (xs : List ℕ) → has_break xs ≡ true → part_from false xs ≡ before_break xs ++ (10 ∷ part_from true (after_break xs))
inner_part [] e = cc
inner_part (x ∷ xs) e = (elim (x == 10) as (λ t. (x == 10) ≡ t → part_from false (x ∷ xs) ≡ before_break (x ∷ xs) ++ (10 ∷ part_from true (after_break (x ∷ xs)))) [
  | true ↦ λ f. rw f (ap (λ n. n ∷ part_from true xs) (is_ten x f))
  | false ↦ λ f. let g : has_break xs ≡ true = sym (ap (λ t. if t then true else has_break xs) f) ∙ e in rw f (ap (λ l. x ∷ l) (inner_part xs g))
]) refl

inner_rest : (xs : List ℕ) → has_break xs ≡ true → rest_from false xs ≡ rest_from true (after_break xs)
inner_rest [] e = cc
inner_rest (x ∷ xs) e = (elim (x == 10) as (λ t. (x == 10) ≡ t → rest_from false (x ∷ xs) ≡ rest_from true (after_break (x ∷ xs))) [
  | true ↦ λ f. rw f refl
  | false ↦ λ f. let g : has_break xs ≡ true = sym (ap (λ t. if t then true else has_break xs) f) ∙ e in rw f (inner_rest xs g)
]) refl

last_part : (xs : List ℕ) → has_break xs ≡ false → (part_from false xs ≡ xs) × (rest_from false xs ≡ [])
last_part [] e = (refl, refl)
last_part (x ∷ xs) e = (elim (x == 10) as (λ t. (x == 10) ≡ t → (part_from false (x ∷ xs) ≡ x ∷ xs) × (rest_from false (x ∷ xs) ≡ [])) [
  | true ↦ λ f. absurd (false≢true (sym e ∙ ap (λ t. if t then true else has_break xs) f))
  | false ↦ λ f. let g : has_break xs ≡ false = sym (ap (λ t. if t then true else has_break xs) f) ∙ e in let h = last_part xs g in rw f (ap (λ l. x ∷ l) h.0, h.1)
]) refl

-- no line that starts here is the mark
starts_part : (xs : List ℕ) → at_mark xs ≡ false → (part_of xs ≡ part_from false xs) × (rest_of xs ≡ rest_from false xs)
starts_part [] e = (refl, refl)
starts_part (x ∷ xs) e = (ap (λ t. if t then [] else x ∷ part_from (x == 10) xs) e, ap (λ t. if t then after_break (x ∷ xs) else rest_from (x == 10) xs) e)

at_part : (xs : List ℕ) → at_mark xs ≡ true → (part_of xs ≡ []) × (rest_of xs ≡ after_break xs)
at_part [] e = (refl, refl)
at_part (x ∷ xs) e = (ap (λ t. if t then [] else x ∷ part_from (x == 10) xs) e, ap (λ t. if t then after_break (x ∷ xs) else rest_from (x == 10) xs) e)

-- the line with its break, or all bytes
part_of_break : (ys : List ℕ) → at_mark ys ≡ false → has_break ys ≡ true → part_of ys ≡ before_break ys ++ (10 ∷ part_of (after_break ys))
part_of_break ys m e = (starts_part ys m).0 ∙ inner_part ys e

part_of_last : (ys : List ℕ) → at_mark ys ≡ false → has_break ys ≡ false → part_of ys ≡ before_break ys
part_of_last ys m e = (starts_part ys m).0 ∙ (last_part ys e).0 ∙ sym (before_no_break ys e)

before_fits : (ys : List ℕ) → at_mark ys ≡ false → length (before_break ys) ≤ length (part_of ys)
before_fits ys m = (elim (has_break ys) as (λ t. has_break ys ≡ t → length (before_break ys) ≤ length (part_of ys)) [
  | true ↦ λ e. omega (arith, ap length (part_of_break ys m e), length-append (before_break ys) (10 ∷ part_of (after_break ys)))
  | false ↦ λ e. omega (arith, ap length (part_of_last ys m e))
]) refl

pub whole_at_mark : (room most : ℕ) (end : LineEnd) (part kept xs ys zs : List ℕ) → Parting part xs ys → 5 ≤ room → TakesLine room end kept ys zs → at_mark ys ≡ true → length part ≤ most
    → (part ≡ part_of xs) × (zs ≡ rest_of xs) × (length part ≤ most)
whole_at_mark room most end part kept xs ys zs p big t m fits =
    let a = at_part ys m in
    (sym (p.front ∙ ap (λ l. part ++ l) a.0 ∙ append-nil part), mark_rest room end kept ys zs big t m ∙ sym (p.rest ∙ a.1), fits)

pub whole_at_end : (room most : ℕ) (part kept new xs ys zs : List ℕ) → Parting part xs ys → TakesLine room End kept ys zs → at_mark ys ≡ false → new ≡ part ++ kept → length new ≤ most
    → (new ≡ part_of xs) × (zs ≡ rest_of xs) × (length new ≤ most)
whole_at_end room most part kept new xs ys zs p t m e fits =
    let facts = taken_front kept ys [] t.0 in
    let k : kept ≡ before_break ys = sym (facts.1 ∙ append-nil kept) in (
      e ∙ ap (λ l. part ++ l) (k ∙ sym (part_of_last ys m facts.0)) ∙ sym p.front,
      t.1 ∙ sym (p.rest ∙ (starts_part ys m).1 ∙ (last_part ys facts.0).1),
      fits,
    )

pub part_goes_on : (room : ℕ) (part kept new xs ys zs : List ℕ) → Parting part xs ys → TakesLine room Break kept ys zs → at_mark ys ≡ false → new ≡ (part ++ kept) ++ (10 ∷ []) → Parting new xs zs
part_goes_on room part kept new xs ys zs p t m e =
    let facts = taken_break kept ys zs t in
    record {
      front = p.front ∙ ap (λ l. part ++ l) (part_of_break ys m facts.0) ∙ ap (λ l. part ++ (l ++ (10 ∷ part_of (after_break ys)))) facts.1 ∙ ap (λ l. part ++ (kept ++ (10 ∷ part_of l))) facts.2
          ∙ sym (append_assoc part kept (10 ∷ part_of zs)) ∙ sym (append_assoc (part ++ kept) (10 ∷ []) (part_of zs)) ∙ ap (λ l. l ++ part_of zs) (sym e);
      rest = p.rest ∙ (starts_part ys m).1 ∙ inner_rest ys facts.0 ∙ ap rest_of facts.2;
    }

pub too_large : (room most : ℕ) (end : LineEnd) (part kept xs ys zs : List ℕ) → Parting part xs ys → TakesLine room end kept ys zs → at_mark ys ≡ false → most < length part + length kept → most < length (part_of xs)
too_large room most end part kept xs ys zs p t m far =
    omega (arith, ap length p.front, length-append part (part_of ys), before_fits ys m, taken_fits room end kept ys zs t)

pub too_large_by_break : (room most : ℕ) (part kept xs ys zs : List ℕ) → Parting part xs ys → TakesLine room Break kept ys zs → at_mark ys ≡ false → most ≤ length part + length kept → most < length (part_of xs)
too_large_by_break room most part kept xs ys zs p t m far =
    let facts = taken_break kept ys zs t in
    omega (arith, ap length p.front, length-append part (part_of ys), ap length (part_of_break ys m facts.0), length-append (before_break ys) (10 ∷ part_of (after_break ys)), ap length facts.1)

-- bytes that were read without a break are the last line, if they are short
pub whole_without_break : (room most : ℕ) (end : LineEnd) (part kept new xs ys zs : List ℕ) → Parting part xs ys → TakesLine room end kept ys zs → (end ≡ Break → ⊥) → at_mark ys ≡ false
    → new ≡ part ++ kept → length new ≤ most → most < room → (new ≡ part_of xs) × (zs ≡ rest_of xs) × (length new ≤ most)
whole_without_break room most Break part kept new xs ys zs p t other m e fits less = absurd (other refl)
whole_without_break room most End part kept new xs ys zs p t other m e fits less = whole_at_end room most part kept new xs ys zs p t m e fits
whole_without_break room most Room part kept new xs ys zs p t other m e fits less =
    let long : room ≤ length kept = t.1 in
    absurd (omega (arith, ap length e, length-append part kept))
