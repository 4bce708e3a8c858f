-- What requests make of the seats of a loop.
use Rattle.std.specs.Prelude.{◌≡◌, ℕ, ◌+◌, ◌*◌, Bool, true, false, List, length, nat_lt, slice_get, Some}
use Rattle.bg_forward.specs.Seats.{Worked}
use Rattle.bg_ledger.specs.Holdings.{after_leave}
use Rattle.bg_ledger.specs.declared.holding.Holding.{Holding}

-- the calls of the request that a seat holds: it has entered
abbrev pub one_if : Bool → ℕ
one_if true = 1
one_if false = 0

abbrev pub calls_inside : Holding → ℕ
calls_inside seat = one_if (nat_lt 0 seat.number)

-- the seat has its index, and has made two calls for each request that left, and one for the request that it holds
pub record Used (old new : Holding) : Type 0 where
  pub left : ℕ
  pub index : new.index ≡ old.index
  pub calls : new.calls + calls_inside old ≡ old.calls + 2 * left + calls_inside new

-- the same number of seats, each of which was used by some requests
pub record AllUsed (old new : List Holding) : Type 0 where
  pub as_many : length new ≡ length old
  pub each : (i : ℕ) (before after : Holding) → slice_get old i ≡ Some before
      → slice_get new i ≡ Some after → Used before after

-- the request that a seat holds leaves, if it holds one
abbrev pub emptied_if : Bool → Holding → Holding
emptied_if true seat = after_leave seat
emptied_if false seat = seat

abbrev pub emptied : Holding → Holding
emptied seat = emptied_if (nat_lt 0 seat.number) seat

-- the same number of seats, on each of which some requests entered, which have left
pub record AllServed (old new : List Holding) : Type 0 where
  pub as_many : length new ≡ length old
  pub each : (i : ℕ) (before after : Holding) → slice_get old i ≡ Some before
      → slice_get new i ≡ Some after → (count : ℕ) × Worked count before after
