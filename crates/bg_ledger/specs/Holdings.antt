-- What a seat and its record each have: an index, the number of answered calls, and the request with its revision
-- and port (0: no request).
use Rattle.std.specs.Prelude.{◌≡◌, ◌+◌, ◌<◌, ◌≤◌, ◌^◌, ℕ}
use Rattle.bg_ledger.specs.declared.holding.Holding.{Holding}

-- a new side: no request, and no answered call
abbrev pub fresh : ℕ → Holding
fresh index = record { index = index; calls = 0; number = 0; revision = 0; port = 0 }

-- the side after one more answered call, with this request
abbrev pub after_enter : Holding → ℕ → ℕ → ℕ → Holding
after_enter before number revision port =
    record before { calls = before.calls + 1; number = number; revision = revision; port = port }

-- the side after one more answered call, without a request
abbrev pub after_leave : Holding → Holding
after_leave before = record before { calls = before.calls + 1; number = 0; revision = 0; port = 0 }

-- the invariant of a seat of a book with `seats` seats: a seat with a request has room for one more call, and a seat
-- without one has no revision and no port
pub record IsInBounds (seats : ℕ) (seat : Holding) : Type 0 where
  pub index : seat.index < seats
  pub port : seat.port < 2 ^ 16
  pub room : 0 < seat.number → seat.calls ≤ 2 ^ 60
  pub no_revision : seat.number ≡ 0 → seat.revision ≡ 0
  pub no_port : seat.number ≡ 0 → seat.port ≡ 0
