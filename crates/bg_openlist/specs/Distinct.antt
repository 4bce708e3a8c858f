-- Lists in which no number occurs twice.
use Rattle.std.specs.Prelude.{ℕ, ◌≢◌, ⊤, List, [], ◌∷◌}

-- x is not in the list
abbrev pub Fresh : ℕ → List ℕ → Type 0
Fresh x [] = ⊤
Fresh x (y ∷ ys) = (y ≢ x) × Fresh x ys

-- no number occurs twice
abbrev pub Distinct : List ℕ → Type 0
Distinct [] = ⊤
Distinct (x ∷ xs) = Fresh x xs × Distinct xs
