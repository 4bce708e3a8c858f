-- The loads of the connections of an event loop: each at its key.
use Rattle.std.specs.Prelude.{◌≡◌, ◌==◌, if◌then◌else◌, ℕ, ◌≤◌, Bool, List, slice_index_or, sum_by, Option, Some, None}
use Rattle.bg_load.specs.declared.connection.Connection.{Connection}
use Rattle.bg_load.specs.declared.settings.LoadSettings.{LoadSettings}
use Rattle.bg_load.specs.declared.totals.Totals.{Totals}

-- the place of each key, the number of the next request, the settings, what the connections of the other loops of the port come
-- to, and whether large requests are paused
pub record Register : Type 0 where
  pub places : List (Option Connection)
  pub next : ℕ
  pub settings : LoadSettings
  pub others : Totals
  pub is_pausing : Bool

-- the connection that has a key
abbrev pub at : List (Option Connection) → ℕ → Option Connection
at places key = slice_index_or places key None

-- 1 if the place has the connection of a number, and otherwise 0
abbrev pub has_number : ℕ → Option Connection → ℕ
has_number number None = 0
has_number number (Some c) = if c.number == number then 1 else 0

-- each number is that of at most one connection, and a number from `next` on of none
pub record Holds (places : List (Option Connection)) (next : ℕ) : Type 0 where
  pub once : (number : ℕ) → sum_by (has_number number) places ≤ 1
  pub fresh : (number : ℕ) → next ≤ number → sum_by (has_number number) places ≡ 0
