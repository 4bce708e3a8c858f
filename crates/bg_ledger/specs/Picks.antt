-- The names that a caller picks if it passes `Brand` and new blanks to a function that is generic over `Names`.
use Rattle.std.specs.Prelude.{◌≤◌, ℕ, List, get_or, max, min}
use Rattle.std.proofs.Common.{lit≤}
use Rattle.std.proofs.Math.Nat.{le-max_left, max-le, min-le_right}
use Rattle.bg_ledger.specs.declared.names.Names.{Ghosts}

-- the number itself if it lies from 1 to 2048; else the nearer of 1 and 2048
abbrev pub seats_in_range : ℕ → ℕ
seats_in_range n = max 1 (min n 2048)

pub seats_in_range-bounds : (n : ℕ) → (1 ≤ seats_in_range n) × (seats_in_range n ≤ 2048)
seats_in_range-bounds n = (le-max_left 1 (min n 2048), max-le (lit≤ tt) (min-le_right n 2048))

-- the names of the blanks, and n seats
abbrev pub names_of : {X : Type 0} → ℕ → List ℕ → Ghosts X
names_of n blanks = record {
  seats = seats_in_range n;
  name = λ i. get_or blanks i 0;
  in_range = seats_in_range-bounds n;
}
