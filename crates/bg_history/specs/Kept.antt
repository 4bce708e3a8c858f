-- The content of a history.
use Rattle.std.specs.Prelude.{ℕ, List}
use Rattle.bg_history.specs.declared.entry.Entry.{Entry}

-- the name and the ports of a revision
pub record Template : Type 0 where
  pub name : List ℕ
  pub ports : List ℕ

-- the opening: the number of seats, and the template of revision 1
pub record Opening : Type 0 where
  pub seats : ℕ
  pub template : Template

-- a history: its opening, the number of dropped closed requests of each seat, its entries (newest first), and the
-- number of places reserved for more
pub record Kept : Type 0 where
  pub opening : Opening
  pub closed : List ℕ
  pub past : List Entry
  pub spare : ℕ
