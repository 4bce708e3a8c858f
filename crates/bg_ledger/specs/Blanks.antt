-- Blanks, and the seats that they are for.
use Rattle.std.specs.Prelude.{◌≡◌, ◌+◌, ◌<◌, ℕ, List, length, get_or}
use Rattle.bg_ledger.specs.declared.names.Names.{Ghosts}

-- the blanks are for the seats from this index on
pub record AreFrom {X : Type 0} (names : Ghosts X) (index : ℕ) (blanks : List ℕ) : Type 0 where
  pub count : index + length blanks ≡ 2048
  pub each : (i : ℕ) → i < length blanks → get_or blanks i 0 ≡ names.name (index + i)

-- the blanks are for all seats
pub record AreAllFor {X : Type 0} (names : Ghosts X) (blanks : List ℕ) : Type 0 where
  pub count : length blanks ≡ 2048
  pub each : (i : ℕ) → i < 2048 → get_or blanks i 0 ≡ names.name i
