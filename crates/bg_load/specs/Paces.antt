-- Whether a connection makes progress.
use Rattle.std.specs.Prelude.{ℕ, ◌-◌, Bool, false, ◌==◌, ◌&&◌, ◌||◌, if◌then◌else◌, nat_le, nat_lt, Option, Some, None}
use Rattle.bg_load.specs.declared.activity.Activity.{Activity}
use Rattle.bg_load.specs.declared.activity.Activity.TheVariants as activity
use Rattle.bg_load.specs.declared.progress.Pace.{Pace}
use Rattle.bg_load.specs.declared.progress.Progress.{Progress}

-- the pace of a request of which so many bytes came
abbrev pub request_pace : ℕ → Pace
request_pace count =
    if count == 0 then record { bytes = 1; within_millis = 1000; silent_millis = 1000 }
    else if nat_lt count 32768 then record { bytes = 4096; within_millis = 4000; silent_millis = 2000 }
    else record { bytes = 32768; within_millis = 4000; silent_millis = 2000 }

-- the pace of a response, and of a lingering close
abbrev pub response_pace : Pace
response_pace = record { bytes = 131072; within_millis = 2000; silent_millis = 250 }

-- the pace of a connection, if it is to make progress in what it does
abbrev pub pace_of : Activity → Option Pace
pace_of activity.Idle = None
pace_of (activity.Arriving bytes) = Some (request_pace bytes)
pace_of (activity.Waiting bytes) = None
pace_of activity.Inside = None
pace_of (activity.Answering weight written) = Some response_pace
pace_of (activity.Lingering bytes) = Some response_pace

-- the progress of a connection that moved so many bytes in all: it begins anew when enough of them are new
abbrev pub noted : Progress → ℕ → Pace → ℕ → Progress
noted progress bytes pace now =
    if nat_le pace.bytes (bytes - progress.bytes) then record { moment = now; bytes = bytes } else progress

-- the same by a pace, if there is one
abbrev pub noted_by : Option Pace → Progress → ℕ → ℕ → Progress
noted_by None progress bytes now = progress
noted_by (Some pace) progress bytes now = noted progress bytes pace now

-- a connection that moved so many bytes in all is slower than its pace
abbrev pub is_slower : Progress → ℕ → Pace → ℕ → Bool
is_slower progress bytes pace now =
    nat_le pace.within_millis (now - progress.moment)
    || (bytes == progress.bytes && nat_le pace.silent_millis (now - progress.moment))

-- the same by a pace, if there is one
abbrev pub is_slower_by : Option Pace → Progress → ℕ → ℕ → Bool
is_slower_by None progress bytes now = false
is_slower_by (Some pace) progress bytes now = is_slower progress bytes pace now
