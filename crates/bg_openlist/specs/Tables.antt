-- The list of a function's values.
use Rattle.std.specs.Prelude.{ℕ, zero, suc, List, [], ◌∷◌}

-- the values of f at n numbers, from a on
unfoldable pub table : {Y : Type 0} → (ℕ → Y) → ℕ → ℕ → List Y
table f a zero = []
table f a (suc n) = f a ∷ table f (suc a) n
