-- The pauses of large requests while the requests of all loops of the port take too much memory. The eight oldest are those of
-- one loop: each loop lets its own go on.
use Rattle.std.specs.Prelude.{◌≡◌, ◌&&◌, ◌||◌, not, if◌then◌else◌, ℕ, ◌+◌, ◌*◌, ◌/◌, ◌<◌, ◌≤◌, Bool, true, false, List, EachIndex}
use Rattle.std.specs.Prelude.{nat_le, nat_lt, sum_by, Option, Some, None}
use Rattle.bg_load.specs.Activities.{is_large}
use Rattle.bg_load.specs.Changes.{turned_at}
use Rattle.bg_load.specs.Loads.{if_so, is_stuck_load}
use Rattle.bg_load.specs.Registers.{Holds, Register, at}
use Rattle.bg_load.specs.Totals.{paused_of, request_bytes_in, waiting_bytes_in}
use Rattle.bg_load.specs.declared.connection.Connection.{Connection}
use Rattle.bg_load.specs.declared.pauses.Pauses.{Pauses}
use Rattle.bg_load.specs.declared.pauses.Pauses.TheVariants as pauses
use Rattle.bg_load.specs.declared.settings.LoadSettings.{LoadSettings}

-- the request of a place is large
abbrev pub is_large_at : Option Connection → Bool
is_large_at None = false
is_large_at (Some c) = is_large c.load.activity

-- the request of a place is paused
abbrev pub is_paused : Option Connection → Bool
is_paused None = false
is_paused (Some c) = c.load.is_paused

-- 1 if the place has a large request that is older than a number: its own is lower; and otherwise 0
abbrev pub is_older_large : ℕ → Option Connection → ℕ
is_older_large number None = 0
is_older_large number (Some c) = if is_large c.load.activity && nat_lt c.number number then 1 else 0

-- how many large requests of the loop are older than a number
abbrev pub older : ℕ → List (Option Connection) → ℕ
older number places = sum_by (is_older_large number) places

-- by the rule, the request of a place is paused: it is large, and no such request goes on; or at least eight of those
-- requests are older
abbrev pub is_to_pause : Pauses → List (Option Connection) → Option Connection → Bool
is_to_pause which places None = false
is_to_pause pauses.Off places (Some c) = false
is_to_pause pauses.Younger places (Some c) = is_large c.load.activity && nat_le 8 (older c.number places)
is_to_pause pauses.All places (Some c) = is_large c.load.activity

-- the request of a place is paused, or goes on, as the rule says
abbrev pub IsAsRuled : Pauses → List (Option Connection) → Option Connection → Type 0
IsAsRuled which places p = is_paused p ≡ is_to_pause which places p

-- the number of bytes of requests below which no request is paused
abbrev pub enough : LoadSettings → ℕ
enough settings = settings.request_bytes / 4 * 3

-- large requests are paused: requests take more than they may, or some were paused before, and requests still take three
-- quarters of that
abbrev pub pauses_now : Register → Bool
pauses_now r =
    nat_lt r.settings.request_bytes (request_bytes_in r)
    || (r.is_pausing && nat_le (enough r.settings) (request_bytes_in r))

-- which large requests are paused, if some are
abbrev pub pauses_if : Bool → Register → Pauses
pauses_if false r = pauses.Off
pauses_if true r = if nat_lt (r.settings.request_bytes / 2) (waiting_bytes_in r) then pauses.All else pauses.Younger

abbrev pub pauses_of : Register → Pauses
pauses_of r = pauses_if r.is_pausing r

-- the loads, once it is known anew whether large requests are paused
abbrev pub looked : Register → Register
looked r = record r { is_pausing = pauses_now r }

-- a request of the loop is paused
abbrev pub has_paused : Register → Bool
has_paused r = nat_lt 0 (sum_by paused_of r.places)

-- the request of a place is large, and slower than its pace
abbrev pub is_stuck : ℕ → Option Connection → Bool
is_stuck now None = false
is_stuck now (Some c) = is_stuck_load now c.load

-- large requests are paused, and requests take three quarters of what they may, or more
abbrev pub seeks_stuck : Register → Bool
seeks_stuck r = r.is_pausing && nat_le (enough r.settings) (request_bytes_in r)

-- the number of a large request, if it is at least this one
abbrev pub large_from : ℕ → Option Connection → Option ℕ
large_from least None = None
large_from least (Some c) = if_so (is_large c.load.activity && nat_le least c.number) c.number

-- the request of a place is large, and its number is at least this one
abbrev pub is_large_from : ℕ → Option Connection → Bool
is_large_from least None = false
is_large_from least (Some c) = is_large c.load.activity && nat_le least c.number

-- 1 if the place has a large request that goes on, and otherwise 0
abbrev pub goes_on : Option Connection → ℕ
goes_on p = if is_large_at p && not (is_paused p) then 1 else 0

-- 1 if these differ, and otherwise 0
abbrev pub differ : Bool → Bool → ℕ
differ true other = if other then 0 else 1
differ false other = if other then 1 else 0

-- how many requests are paused, or go on, otherwise than the rule says
abbrev pub is_unruled : Pauses → List (Option Connection) → Option Connection → ℕ
is_unruled which places p = differ (is_paused p) (is_to_pause which places p)

abbrev pub unruled_count : Pauses → List (Option Connection) → ℕ
unruled_count which places = sum_by (is_unruled which places) places

-- the loads, once it is known anew whether large requests are paused, and after the request of a key was paused or resumed
abbrev pub regulated : Register → ℕ → ℕ → Register
regulated old key now = turned_at (looked old) key now

-- THE LAWS

-- of two requests, the second is older, and large
abbrev pub IsElderLarge : Connection → Connection → Type 0
IsElderLarge c elder = (is_large elder.load.activity ≡ true) × (elder.number < c.number)

-- each large request that is older than one that goes on goes on too
abbrev pub OldestGoOn : List (Option Connection) → Type 0
OldestGoOn places = (key other : ℕ) (c elder : Connection) → at places key ≡ Some c → at places other ≡ Some elder
    → goes_on (Some c) ≡ 1 → IsElderLarge c elder → goes_on (Some elder) ≡ 1

-- if each request is as the rule says: none is paused while no large one is to be paused; and of the large ones at most
-- eight go on while the younger ones are paused, which are the oldest, and none while all are
abbrev pub AreWithin : Pauses → List (Option Connection) → Type 0
AreWithin pauses.Off places = sum_by paused_of places ≡ 0
AreWithin pauses.Younger places = (sum_by goes_on places ≤ 8) × OldestGoOn places
AreWithin pauses.All places = sum_by goes_on places ≡ 0

abbrev pub FewGoOn : Pauses → Register → Type 0
FewGoOn which r =
    Holds r.places r.next → EachIndex r.places (λ key. IsAsRuled which r.places (at r.places key))
    → AreWithin which r.places

-- the rule stays the same, and one request less is otherwise than it says
pub record Settles (old new : Register) : Type 0 where
  pub rule : pauses_of (looked new) ≡ pauses_of (looked old)
  pub fewer : unruled_count (pauses_of (looked old)) new.places + 1
      ≡ unruled_count (pauses_of (looked old)) old.places

-- so it is if a request that was otherwise is paused or resumed
abbrev pub RegulatingSettles : Register → ℕ → ℕ → Type 0
RegulatingSettles old key now =
    ¬ IsAsRuled (pauses_of (looked old)) old.places (at old.places key) → Settles old (regulated old key now)
