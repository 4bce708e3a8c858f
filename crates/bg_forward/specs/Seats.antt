-- The effect of a connection, and of a worker, on a seat.
use Rattle.std.specs.Prelude.{◌≡◌, ℕ, ◌+◌, ◌*◌, ◌≤◌, List, length, slice_get, Option, Some, None}
use Rattle.bg_rollout.specs.Changes.{seat_in}
use Rattle.bg_rollout.specs.declared.ticket.Ticket.{Ticket}
use Rattle.bg_ledger.specs.Holdings.{after_leave}
use Rattle.bg_ledger.specs.declared.holding.Holding.{Holding}

-- the calls of a connection: two if it entered, otherwise none
abbrev pub calls_made : Option Ticket → ℕ
calls_made None = 0
calls_made (Some t) = 2

-- a seat after a connection: a request with this ticket entered and left, or none did
abbrev pub seat_after : Holding → Option Ticket → Holding
seat_after seat None = seat
seat_after seat (Some t) = after_leave (seat_in seat t)

-- the seat is out, and has made two calls for each of at most `count` connections
pub record Worked (count : ℕ) (old new : Holding) : Type 0 where
  pub entered : ℕ
  pub most : entered ≤ count
  pub out : new.number ≡ 0
  pub index : new.index ≡ old.index
  pub calls : new.calls ≡ old.calls + 2 * entered

-- no seat holds a request
abbrev pub AllOut : List Holding → Type 0
AllOut seats = (i : ℕ) (seat : Holding) → slice_get seats i ≡ Some seat → seat.number ≡ 0

-- the same number of seats, each of which worked
pub record AllWorked (count : ℕ) (old new : List Holding) : Type 0 where
  pub as_many : length new ≡ length old
  pub each : (i : ℕ) (before after : Holding) → slice_get old i ≡ Some before
      → slice_get new i ≡ Some after → Worked count before after
