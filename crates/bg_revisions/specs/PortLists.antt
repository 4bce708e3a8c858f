-- The form of a revision's ports.
use Rattle.std.specs.Prelude.{ℕ, Bool, true, not, ◌==◌, ◌&&◌, nat_le, List, [], ◌∷◌, length}
use Rattle.std.specs.List.{list_all, list_any}

-- no number occurs twice
abbrev pub are_distinct : List ℕ → Bool
are_distinct [] = true
are_distinct (x ∷ xs) = not (list_any (λ y. y == x) xs) && are_distinct xs

-- exactly `replicas` distinct numbers from 1 to 65535
abbrev pub are_ports : ℕ → List ℕ → Bool
are_ports replicas ports =
    (length ports == replicas) && list_all (λ p. nat_le 1 p && nat_le p 65535) ports
    && are_distinct ports
