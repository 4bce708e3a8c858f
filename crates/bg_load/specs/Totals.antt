-- What the connections of an event loop come to, and those of all loops of a port.
use Rattle.std.specs.Prelude.{◌≡◌, ℕ, ◌+◌, ◌*◌, ◌^◌, ◌<◌, ◌≤◌, List, min, sum_by, if◌then◌else◌, Option, Some, None}
use Rattle.bg_load.specs.Registers.{Register}
use Rattle.bg_load.specs.declared.activity.Activity.{Activity}
use Rattle.bg_load.specs.declared.activity.Activity.TheVariants as activity
use Rattle.bg_load.specs.declared.connection.Connection.{Connection}
use Rattle.bg_load.specs.declared.load.Load.{Load}
use Rattle.bg_load.specs.declared.totals.Totals.{Totals}

-- the memory in bytes that is counted for a request of which so many bytes came
abbrev pub request_weight : ℕ → ℕ
request_weight count = 2 * min count 1114112

-- the memory in bytes that is counted for a response
abbrev pub response_weight : ℕ → ℕ
response_weight weight = min weight 1099511627776

-- what a connection adds by what it does
abbrev pub activity_totals : Activity → Totals
activity_totals activity.Idle = record { connections = 1; inside = 0; request_bytes = 0; waiting_bytes = 0; response_bytes = 0; paused = 0 }
activity_totals (activity.Arriving bytes) = record { connections = 1; inside = 0; request_bytes = request_weight bytes; waiting_bytes = 0; response_bytes = 0; paused = 0 }
activity_totals (activity.Waiting bytes) = record { connections = 1; inside = 0; request_bytes = request_weight bytes; waiting_bytes = request_weight bytes; response_bytes = 0; paused = 0 }
activity_totals activity.Inside = record { connections = 1; inside = 1; request_bytes = 0; waiting_bytes = 0; response_bytes = 0; paused = 0 }
activity_totals (activity.Answering weight written) = record { connections = 1; inside = 0; request_bytes = 0; waiting_bytes = 0; response_bytes = response_weight weight; paused = 0 }
activity_totals (activity.Lingering bytes) = record { connections = 1; inside = 0; request_bytes = 0; waiting_bytes = 0; response_bytes = 0; paused = 0 }

abbrev pub load_totals : Load → Totals
load_totals load = record (activity_totals load.activity) { paused = if load.is_paused then 1 else 0 }

-- what no connections come to
abbrev pub no_totals : Totals
no_totals = record { connections = 0; inside = 0; request_bytes = 0; waiting_bytes = 0; response_bytes = 0; paused = 0 }

-- what a place adds
abbrev pub place_totals : Option Connection → Totals
place_totals None = no_totals
place_totals (Some c) = load_totals c.load

abbrev pub connections_of : Option Connection → ℕ
connections_of p = (place_totals p).connections

abbrev pub inside_of : Option Connection → ℕ
inside_of p = (place_totals p).inside

abbrev pub request_bytes_of : Option Connection → ℕ
request_bytes_of p = (place_totals p).request_bytes

abbrev pub waiting_bytes_of : Option Connection → ℕ
waiting_bytes_of p = (place_totals p).waiting_bytes

abbrev pub response_bytes_of : Option Connection → ℕ
response_bytes_of p = (place_totals p).response_bytes

abbrev pub paused_of : Option Connection → ℕ
paused_of p = (place_totals p).paused

-- the totals are the sums of what the places add
pub record AreSums (totals : Totals) (places : List (Option Connection)) : Type 0 where
  pub connections : totals.connections ≡ sum_by connections_of places
  pub inside : totals.inside ≡ sum_by inside_of places
  pub request_bytes : totals.request_bytes ≡ sum_by request_bytes_of places
  pub waiting_bytes : totals.waiting_bytes ≡ sum_by waiting_bytes_of places
  pub response_bytes : totals.response_bytes ≡ sum_by response_bytes_of places
  pub paused : totals.paused ≡ sum_by paused_of places

-- a part of a total may change from one number to another: it is in the total, and the total fits
pub record CanTurn (total before after : ℕ) : Type 0 where
  pub part : before ≤ total
  pub fits : total + after < 2 ^ 64

pub record CanChange (total before after : Totals) : Type 0 where
  pub connections : CanTurn total.connections before.connections after.connections
  pub inside : CanTurn total.inside before.inside after.inside
  pub request_bytes : CanTurn total.request_bytes before.request_bytes after.request_bytes
  pub waiting_bytes : CanTurn total.waiting_bytes before.waiting_bytes after.waiting_bytes
  pub response_bytes : CanTurn total.response_bytes before.response_bytes after.response_bytes
  pub paused : CanTurn total.paused before.paused after.paused

-- a part of each total has changed
pub record IsChanged (total before after new : Totals) : Type 0 where
  pub connections : new.connections + before.connections ≡ total.connections + after.connections
  pub inside : new.inside + before.inside ≡ total.inside + after.inside
  pub request_bytes : new.request_bytes + before.request_bytes ≡ total.request_bytes + after.request_bytes
  pub waiting_bytes : new.waiting_bytes + before.waiting_bytes ≡ total.waiting_bytes + after.waiting_bytes
  pub response_bytes : new.response_bytes + before.response_bytes ≡ total.response_bytes + after.response_bytes
  pub paused : new.paused + before.paused ≡ total.paused + after.paused

-- WHAT THE CONNECTIONS OF ALL LOOPS OF THE PORT COME TO

abbrev pub connections_in : Register → ℕ
connections_in r = sum_by connections_of r.places + r.others.connections

abbrev pub inside_in : Register → ℕ
inside_in r = sum_by inside_of r.places + r.others.inside

abbrev pub request_bytes_in : Register → ℕ
request_bytes_in r = sum_by request_bytes_of r.places + r.others.request_bytes

abbrev pub waiting_bytes_in : Register → ℕ
waiting_bytes_in r = sum_by waiting_bytes_of r.places + r.others.waiting_bytes

abbrev pub response_bytes_in : Register → ℕ
response_bytes_in r = sum_by response_bytes_of r.places + r.others.response_bytes
