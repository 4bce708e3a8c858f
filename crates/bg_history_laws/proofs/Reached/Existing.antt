-- Which revisions exist after a deploy and after a removal, and how many.
use Rattle.std.proofs.Common.{◌≡◌, ◌≤◌, ◌+◌, ℕ, Bool, true, false, not, cond, ◌==◌, ◌&&◌, ◌||◌, nat_lt, List, [], ◌∷◌, length, filter, refl, arith}
use Rattle.std.specs.List.{list_any}
use Rattle.std.proofs.lemmas.Bool.Decides.{nat_tests}
use Rattle.std.proofs.lemmas.Map.Views.{any-filter_same}
use Rattle.bg_history.specs.declared.entry.Entry.{Entry}
use Rattle.bg_history.specs.declared.entry.Entry.TheVariants.{Deploy, Outcome}
use Rattle.bg_history.specs.declared.entry.Outcome.TheVariants.{Removed}
use Rattle.bg_history.specs.Sizes.{put, existing, Ascends}
use Rattle.bg_history.specs.Deadlines.{exists_in}
use Rattle.bg_history_laws.proofs.Lists.{member-put, member-above}

-- after a deploy of r, r and the revisions before it exist
pub exists-Deploy : (q r : ℕ) (name ports : List ℕ) (before : List Entry)
    → exists_in q (Deploy r name ports ∷ before) ≡ ((r == q) || exists_in q before)
exists-Deploy q r name ports before = member-put q r (existing before)

-- after the removal of r, the revisions before it except r exist
pub exists-Removed : (q r : ℕ) (before : List Entry) → exists_in q (Outcome (Removed r) ∷ before) ≡ (not (q == r) && exists_in q before)
exists-Removed q r before =
    any-filter_same (λ x. x == q) (λ x. not (x == r)) (not (q == r)) (λ x is. grind (arith, nat_tests)) (existing before)

-- putting a number into a list makes it longer by at most 1
pub length-put : (r : ℕ) (xs : List ℕ) → length (put r xs) ≤ length xs + 1
length-put r [] = omega arith
length-put r (x ∷ xs) = go (r == x) (nat_lt r x) (length-put r xs) where
  go : (same less : Bool) → length (put r xs) ≤ length xs + 1
      → length (cond same (x ∷ xs) (cond less (r ∷ x ∷ xs) (x ∷ put r xs))) ≤ length (x ∷ xs) + 1
  go true less rest = omega arith
  go false true rest = omega arith
  go false false rest = omega (arith, rest)

-- putting a number into an ascending list that has it doesn't make it longer
pub length-put_member : (r : ℕ) (xs : List ℕ) → Ascends xs → list_any (λ x. x == r) xs ≡ true → length (put r xs) ≡ length xs
length-put_member r [] ascends h = absurd (cc)
length-put_member r (x ∷ xs) ascends h =
    go (r == x) (nat_lt r x) refl refl (length-put_member r xs ascends.1) where
      go : (same less : Bool) → (r == x) ≡ same → nat_lt r x ≡ less → (list_any (λ x. x == r) xs ≡ true → length (put r xs) ≡ length xs)
          → length (cond same (x ∷ xs) (cond less (r ∷ x ∷ xs) (x ∷ put r xs))) ≡ length (x ∷ xs)
      go true less is lt rest = refl
      go false true is lt rest = absurd (grind (arith, nat_tests, member-above x r xs ascends.0))
      go false false is lt rest = let here : list_any (λ x. x == r) xs ≡ true = grind (arith, nat_tests) in omega (arith, rest here)

-- a filter makes no list longer
pub length-filtered : (p : ℕ → Bool) (xs : List ℕ) → length (filter p xs) ≤ length xs
length-filtered p [] = omega arith
length-filtered p (x ∷ xs) = go (p x) (length-filtered p xs) where
  go : (b : Bool) → length (filter p xs) ≤ length xs → length (cond b (x ∷ filter p xs) (filter p xs)) ≤ length (x ∷ xs)
  go true rest = omega (arith, rest)
  go false rest = omega (arith, rest)
