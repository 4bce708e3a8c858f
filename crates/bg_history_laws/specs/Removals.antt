-- The next revision to remove.
use Rattle.std.specs.Prelude.{ℕ, List, [], ◌∷◌, Option, Some, None}

-- the first number of a list
abbrev pub first_of : List ℕ → Option ℕ
first_of [] = None
first_of (q ∷ rest) = Some q
