-- The next revision to remove.
use Rattle.std.proofs.Common.{◌≡◌, ◌<◌, ℕ, Bool, true, false, not, cond, ◌==◌, ◌&&◌, nat_lt, List, [], ◌∷◌, length, filter, find, Some, None, refl, arith}
use Rattle.std.proofs.lemmas.Bool.Decides.{nat_tests}
use Rattle.bg_history.specs.declared.entry.Entry.{Entry}
use Rattle.bg_strategy.specs.declared.strategy.Strategy.{Strategy}
use Rattle.bg_history.specs.Sizes.{existing}
use Rattle.bg_history.specs.Deadlines.{is_first, is_old, old_revisions, may_remove}
use Rattle.bg_history_laws.specs.Removals.{first_of}
use Rattle.bg_history_laws.proofs.Ended.Counts.{length-part}
use Rattle.bg_history_laws.proofs.Finding.{none-found, found-same}
use Rattle.bg_history_laws.proofs.Lists.{member}

-- the first number of a part is in the list
first-within : (p : ℕ → Bool) (q : ℕ) (xs : List ℕ) → first_of (filter p xs) ≡ Some q → member q xs ≡ true
first-within p q [] h = cc
first-within p q (x ∷ xs) h = here-or-later (p x) h (first-within p q xs) where
  here-or-later : (b : Bool) → first_of (cond b (x ∷ filter p xs) (filter p xs)) ≡ Some q
      → (first_of (filter p xs) ≡ Some q → member q xs ≡ true) → member q (x ∷ xs) ≡ true
  here-or-later true h later = let e : x ≡ q = cc in grind (arith, nat_tests)
  here-or-later false h later = grind (arith, nat_tests, later h)

-- the first number of one list is found in another that has it
find-first : (ys xs : List ℕ) → ((q : ℕ) → first_of ys ≡ Some q → member q xs ≡ true) → find (λ r. is_first r ys) xs ≡ first_of ys
find-first [] xs within = none-found (λ r. false) xs (λ q. refl)
find-first (q ∷ rest) xs within = found-same q xs (within q refl)

-- the same under a test that holds for all numbers or for none
find-guarded : (b : Bool) (p : ℕ → Bool) (xs : List ℕ) → find (λ r. b && is_first r (filter p xs)) xs ≡ cond b (first_of (filter p xs)) None
find-guarded true p xs = find-first (filter p xs) xs (λ q h. first-within p q xs h)
find-guarded false p xs = none-found (λ r. false) xs (λ q. refl)

-- the next revision to remove is the first of the old ones, if there are more than the strategy keeps
pub oldest-is_removed : (s : Strategy) (past : List Entry)
    → find (λ r. may_remove s r past) (existing past) ≡ cond (nat_lt s.history_limit (length (old_revisions s past))) (first_of (old_revisions s past)) None
oldest-is_removed s past = find-guarded (nat_lt s.history_limit (length (old_revisions s past))) (is_old s past) (existing past)

-- a list without its first number is shorter
pub length-without_first : (q : ℕ) (xs : List ℕ) → first_of xs ≡ Some q → length (filter (λ r. not (r == q)) xs) < length xs
length-without_first q [] h = cc
length-without_first q (x ∷ xs) h = let e : x ≡ q = cc in grind (arith, nat_tests, length-part (λ r. not (r == q)) xs)
