-- How many connections the port has, what they may hold, and how long they may be silent.
use Rattle.std.specs.Prelude.{ℕ, ◌≤◌, ◌/◌, Bool, false, List, length, max, min, Option, Some, None}
use Rattle.bg_control_port.specs.Turns.{has_passed}
use Rattle.bg_control_port.specs.declared.connection.Connection.{Connection}
use Rattle.bg_control_port.specs.declared.connection.Stage.{Stage}
use Rattle.bg_control_port.specs.declared.connection.Stage.TheVariants as stage

-- the number of connections that a process may have which may open so many files: a quarter of them, at least 1
-- and at most 1,024
abbrev pub most_connections : ℕ → ℕ
most_connections descriptors = max 1 (min 1024 (descriptors / 4))

module _ {L : Type 0} where
  -- a reply was not taken whole, and nothing of it was taken for ten seconds
  abbrev pub is_given_up_at : ℕ → Stage L → ℕ → Bool
  is_given_up_at now stage.Awaits moved = false
  is_given_up_at now stage.Skips moved = false
  is_given_up_at now (stage.Came found number) moved = false
  is_given_up_at now (stage.Waits line place) moved = false
  is_given_up_at now stage.Asked moved = false
  is_given_up_at now (stage.Replies reply after) moved = has_passed 10000 moved now

  abbrev pub is_given_up : ℕ → Connection L → Bool
  is_given_up now c = is_given_up_at now c.stage c.moved

  abbrev pub is_given_up_in : ℕ → Option (Connection L) → Bool
  is_given_up_in now None = false
  is_given_up_in now (Some c) = is_given_up now c

  -- the number of bytes that are kept at a stage: while a line is awaited, a part of a line; while a line is skipped,
  -- nothing; and otherwise as much as a read brings behind a part of a line, and the rest of a reply
  abbrev pub IsBoundedAt : Stage L → List ℕ → Type 0
  IsBoundedAt stage.Awaits input = length input ≤ 4097
  IsBoundedAt stage.Skips input = length input ≤ 0
  IsBoundedAt (stage.Came found number) input = length input ≤ 12289
  IsBoundedAt (stage.Waits line place) input = length input ≤ 12289
  IsBoundedAt stage.Asked input = length input ≤ 12289
  IsBoundedAt (stage.Replies reply after) input = (length input ≤ 12289) × (length reply ≤ 65536)

  abbrev pub IsBounded : Option (Connection L) → Type 0
  IsBounded None = Unit {0}
  IsBounded (Some c) = IsBoundedAt c.stage c.input
