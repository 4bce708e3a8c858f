-- Uploads that stand still while others are paused for them.
use Rattle.std.specs.Prelude.{◌≡◌, ℕ, ◌/◌, Bool, true, false, EachIndex, max, nat_lt, sum_by, Option, Some, None}
use Rattle.bg_load.specs.Loads.{is_moving_load, still_load}
use Rattle.bg_load.specs.Pauses.{pauses_of}
use Rattle.bg_load.specs.Registers.{Register, at}
use Rattle.bg_load.specs.Totals.{request_bytes_in, request_bytes_of}
use Rattle.bg_load.specs.declared.connection.Connection.{Connection}
use Rattle.bg_load.specs.declared.pauses.Pauses.TheVariants as pauses
use Rattle.bg_load.specs.declared.settings.LoadSettings.{LoadSettings}

-- the request of a place is large, goes on, and has made progress within the last 750 milliseconds
abbrev pub is_moving : ℕ → Option Connection → Bool
is_moving now None = false
is_moving now (Some c) = is_moving_load now c.load

-- since when the request of a place has made no progress, if it is large
abbrev pub still_since : Option Connection → Option ℕ
still_since None = None
still_since (Some c) = still_load c.load

-- the part of a loop in a quarter of what requests may take: each loop gives up its own uploads, so it goes on only down to that
abbrev pub quarter_of_loop : LoadSettings → ℕ
quarter_of_loop settings = settings.request_bytes / 4 / max 1 settings.loops

-- the loop is stalled: its younger large requests are paused, none of its own that go on is moving, and the requests of all loops
-- take more than a quarter of what they may
pub record IsStalled (r : Register) (now : ℕ) : Type 0 where
  pub pauses : pauses_of r ≡ pauses.Younger
  pub still : EachIndex r.places (λ key. is_moving now (at r.places key) ≡ false)
  pub much : nat_lt (r.settings.request_bytes / 4) (request_bytes_in r) ≡ true
  pub own : nat_lt (quarter_of_loop r.settings) (sum_by request_bytes_of r.places) ≡ true
