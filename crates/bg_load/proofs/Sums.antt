-- Sums over lists of which each part is small, or is no more than another one.
use Rattle.std.proofs.Common.{ℕ, ◌+◌, ◌*◌, ◌<◌, ◌≤◌, suc, zero, List, [], ◌∷◌, length, get_or, arith}
use Rattle.std.specs.List.{sum_by}
use Rattle.std.proofs.lemmas.List.Sums.{sum_by-cons}

-- a bound on each part gives one on the sum
pub sum_by-le-length : {X : Type 0} (f : X → ℕ) (m : ℕ) → ((x : X) → f x ≤ m) → (xs : List X)
    → sum_by f xs ≤ length xs * m
sum_by-le-length f m le [] = omega arith
sum_by-le-length f m le (x ∷ xs) =
    omega (arith, sum_by-cons f x xs, le x, sum_by-le-length f m le xs)

-- a sum is at most that of two others, if each part is
pub sum_by-le-both : {X : Type 0} (f g h : X → ℕ) (d : X) (xs : List X)
    → ((k : ℕ) → k < length xs → f (get_or xs k d) ≤ g (get_or xs k d) + h (get_or xs k d))
    → sum_by f xs ≤ sum_by g xs + sum_by h xs
sum_by-le-both f g h d [] le = omega arith
sum_by-le-both f g h d (x ∷ xs) le =
    omega (
      arith,
      sum_by-cons f x xs,
      sum_by-cons g x xs,
      sum_by-cons h x xs,
      le zero (omega arith),
      sum_by-le-both f g h d xs (λ k less. le (suc k) (omega arith)),
    )

-- a sum is at most another one, if each part is
pub sum_by-le-each : {X : Type 0} (f g : X → ℕ) (d : X) (xs : List X)
    → ((k : ℕ) → k < length xs → f (get_or xs k d) ≤ g (get_or xs k d)) → sum_by f xs ≤ sum_by g xs
sum_by-le-each f g d [] le = omega arith
sum_by-le-each f g d (x ∷ xs) le =
    omega (
      arith,
      sum_by-cons f x xs,
      sum_by-cons g x xs,
      le zero (omega arith),
      sum_by-le-each f g d xs (λ k less. le (suc k) (omega arith)),
    )

-- it is less, if one part is less too
pub sum_by-lt-each : {X : Type 0} (f g : X → ℕ) (d : X) (xs : List X) (i : ℕ)
    → ((k : ℕ) → k < length xs → f (get_or xs k d) ≤ g (get_or xs k d)) → i < length xs
    → f (get_or xs i d) < g (get_or xs i d) → sum_by f xs < sum_by g xs
sum_by-lt-each f g d [] i le h less = absurd (omega arith)
sum_by-lt-each f g d (x ∷ xs) zero le h less =
    omega (
      arith,
      sum_by-cons f x xs,
      sum_by-cons g x xs,
      less,
      sum_by-le-each f g d xs (λ k inside. le (suc k) (omega arith)),
    )
sum_by-lt-each f g d (x ∷ xs) (suc i) le h less =
    omega (
      arith,
      sum_by-cons f x xs,
      sum_by-cons g x xs,
      le zero (omega arith),
      sum_by-lt-each f g d xs i (λ k inside. le (suc k) (omega arith)) (omega arith) less,
    )
