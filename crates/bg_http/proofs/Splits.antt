-- A list that is split at the elements that pass a test.
use Rattle.std.proofs.Common.{◌≡◌, ℕ, ◌+◌, ◌≤◌, Bool, true, false, cond, List, [], ◌∷◌, length, take, drop, refl, arith}
use Rattle.std.specs.Prelude.{Some, None, nat_lt}
use Rattle.std.specs.List.{slice_split, position, position_or_len}
use Rattle.std.proofs.lemmas.Bool.{ltb-true, ltb-false}
use Rattle.std.proofs.lemmas.List.Splits.{slice_split_first, slice_split_none}
use Rattle.std.proofs.lemmas.List.Sums.{fails_before_first}

-- if the first such element is at n, the first part ends before it, and the rest is split after it
pub split_at_first : (p : ℕ → Bool) (xs : List ℕ) (n : ℕ) → Some n ≡ position p xs → slice_split p xs ≡ take n xs ∷ slice_split p (drop (n + 1) xs)
split_at_first p xs n e = by_test (nat_lt (position_or_len p xs) (length xs)) refl e
  where
    by_test : (t : Bool) → nat_lt (position_or_len p xs) (length xs) ≡ t → Some n ≡ cond t (Some (position_or_len p xs)) None → slice_split p xs ≡ take n xs ∷ slice_split p (drop (n + 1) xs)
    by_test true less f =
        let same : n ≡ position_or_len p xs = cc in
        rw same (slice_split_first p xs 0 (ltb-true _ _ less))
    by_test false more f = cc

-- if there is no such element, the list is the only part
pub split_nowhere : (p : ℕ → Bool) (xs : List ℕ) → None ≡ position p xs → slice_split p xs ≡ xs ∷ []
split_nowhere p xs e = by_test (nat_lt (position_or_len p xs) (length xs)) refl e
  where
    by_test : (t : Bool) → nat_lt (position_or_len p xs) (length xs) ≡ t → None ≡ cond t (Some (position_or_len p xs)) None → slice_split p xs ≡ xs ∷ []
    by_test true less f = cc
    by_test false more f =
        let none : length xs ≤ position_or_len p xs = ltb-false _ _ more in
        slice_split_none p xs (λ k d below. fails_before_first p xs k d (omega arith))
