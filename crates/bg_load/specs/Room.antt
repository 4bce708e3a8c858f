-- Which connections are slow, are answered or are idle, and when the loops of a port are full.
use Rattle.std.specs.Prelude.{◌≡◌, ◌&&◌, ◌||◌, ℕ, ◌-◌, ◌*◌, ◌/◌, ◌<◌, ◌≤◌, Bool, false, All, List, length, max, nat_le, nat_lt, sum_by, Option, Some, None}
use Rattle.bg_load.specs.Loads.{answering_load, idle_load, slow_since}
use Rattle.bg_load.specs.Registers.{Register}
use Rattle.bg_load.specs.Totals.{connections_in, inside_in, response_bytes_in, response_bytes_of}
use Rattle.bg_load.specs.declared.among.Among.{Among}
use Rattle.bg_load.specs.declared.connection.Connection.{Connection}
use Rattle.bg_load.specs.declared.settings.LoadSettings.{LoadSettings}

-- since when the connection of a place has made no progress, if it is slow, and among these
abbrev pub slow_at : Among → ℕ → Option Connection → Option ℕ
slow_at which now None = None
slow_at which now (Some c) = slow_since which now c.load

-- since when the connection of a place has made no progress, if its response is written
abbrev pub answering_since : Option Connection → Option ℕ
answering_since None = None
answering_since (Some c) = answering_load c.load

-- since when the connection of a place has been idle
abbrev pub idle_since : Option Connection → Option ℕ
idle_since None = None
idle_since (Some c) = idle_load c.load

-- the number of connections of all loops that hold no seat
abbrev pub pending : Register → ℕ
pending r = connections_in r - inside_in r

-- responses take so much that no further connection is to be accepted for now
abbrev pub is_full_of_responses : Register → Bool
is_full_of_responses r = nat_lt r.settings.response_bytes (response_bytes_in r / 2)

-- the part of a loop in twice what responses may take: each loop closes its own connections only
abbrev pub part_of_loop : LoadSettings → ℕ
part_of_loop settings = 2 * settings.response_bytes / max 1 settings.loops

-- responses take too much, and those of this loop more than its part
abbrev pub has_too_many_responses : Register → Bool
has_too_many_responses r =
    is_full_of_responses r && nat_lt (part_of_loop r.settings) (sum_by response_bytes_of r.places)

-- no further connection is to be accepted for now
abbrev pub is_full : Register → Bool
is_full r = nat_le r.settings.connections (pending r) || is_full_of_responses r

-- THE LAW

-- the memory of the responses of a loop
abbrev pub own_response_bytes : Register → ℕ
own_response_bytes r = sum_by response_bytes_of r.places

-- the registers of the loops of a port, of which each was told what the others come to
pub record AreLoops (loops : List Register) (settings : LoadSettings) : Type 0 where
  pub count : length loops ≤ max 1 settings.loops
  pub same : All (λ r. r.settings ≡ settings) loops
  pub told : All (λ r. response_bytes_in r ≡ sum_by own_response_bytes loops) loops

-- while the responses of the loops take too much, those of one loop are more than its part
abbrev pub SomeLoopMakesRoom : List Register → LoadSettings → Type 0
SomeLoopMakesRoom loops settings =
    AreLoops loops settings → settings.response_bytes < sum_by own_response_bytes loops / 2
    → ¬ All (λ r. has_too_many_responses r ≡ false) loops
