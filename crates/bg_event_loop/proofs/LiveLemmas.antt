-- The revisions of a book up to a place.
use Rattle.std.proofs.Common.{◌≡◌, ◌∙◌, ℕ, ◌+◌, ◌≤◌, ◌||◌, Bool, true, false, List, length, take, slice_get, get_or, Option, Some, None, arith, inl, inr, refl, sym, ap}
use Rattle.std.proofs.lemmas.List.{take_all}
use Rattle.std.proofs.lemmas.List.Folds.{list_any_at, list_any_more}
use Rattle.std.proofs.lemmas.Option.{get_or_from_slice_get, none-some, slice_get_cases, slice_get_within}
use Rattle.std.specs.List.{list_any}
use Rattle.std.specs.Option.{option_map_or}
use Rattle.bg_revisions.specs.declared.revision.Revision.{Revision}

-- a revision passes, so one of all does
pub passes_at : (p : Revision → Bool) (xs : List Revision) (i : ℕ) (x : Revision) → slice_get xs i ≡ Some x → p x ≡ true
    → list_any p xs ≡ true
passes_at p xs i x here is =
    list_any_at p xs i x (slice_get_within xs i x here) (ap p (get_or_from_slice_get xs i x x here) ∙ is)

-- none up to a place passes, and neither does the next one
pub none_more : (p : Revision → Bool) (xs : List Revision) (i : ℕ) (x : Revision) → slice_get xs i ≡ Some x → p x ≡ false
    → list_any p (take i xs) ≡ false → list_any p (take (i + 1) xs) ≡ false
none_more p xs i x here isnt none =
    list_any_more p xs i x (slice_get_within xs i x here) ∙ ap (λ b. b || p (get_or xs i x)) none
    ∙ ap p (get_or_from_slice_get xs i x x here) ∙ isnt

-- the revision at a place, if there is one, passes
pub any_at : (p : Revision → Bool) (xs : List Revision) (i : ℕ) → option_map_or p (slice_get xs i) false ≡ true
    → list_any p xs ≡ true
any_at p xs i is = go (slice_get xs i) refl is where
  go : (o : Option Revision) → slice_get xs i ≡ o → option_map_or p o false ≡ true → list_any p xs ≡ true
  go None here is = absurd (cc)
  go (Some x) here is = passes_at p xs i x here is

-- it does not, and neither does one before it
pub none_next : (p : Revision → Bool) (xs : List Revision) (i : ℕ) → option_map_or p (slice_get xs i) false ≡ false
    → list_any p (take i xs) ≡ false → list_any p (take (i + 1) xs) ≡ false
none_next p xs i isnt none = go (slice_get xs i) refl isnt where
  go : (o : Option Revision) → slice_get xs i ≡ o → option_map_or p o false ≡ false → list_any p (take (i + 1) xs) ≡ false
  go None here isnt =
      elim (slice_get_cases xs i).1 [
        | inl w ↦ absurd (none-some w.0 (sym here ∙ w.2))
        | inr w ↦ ap (list_any p) (take_all (i + 1) xs (omega (arith, w.0)) ∙ sym (take_all i xs w.0)) ∙ none
      ]
  go (Some x) here isnt = none_more p xs i x here isnt none

-- none of all passes
pub none_of_all : (p : Revision → Bool) (xs : List Revision) (i : ℕ) → length xs ≤ i → list_any p (take i xs) ≡ false
    → list_any p xs ≡ false
none_of_all p xs i all none = sym (ap (list_any p) (take_all i xs all)) ∙ none
