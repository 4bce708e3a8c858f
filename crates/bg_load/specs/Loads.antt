-- The load of a connection: what it does, its progress in that, and whether it is paused.
use Rattle.std.specs.Prelude.{ℕ, ◌-◌, Bool, true, false, ◌&&◌, if◌then◌else◌, nat_lt, not, Option, Some, None}
use Rattle.bg_load.specs.Activities.{continues, is_answered, is_answering, is_arriving, is_idle, is_large, moved}
use Rattle.bg_load.specs.Paces.{is_slower_by, noted_by, pace_of}
use Rattle.bg_load.specs.declared.activity.Activity.{Activity}
use Rattle.bg_load.specs.declared.among.Among.{Among}
use Rattle.bg_load.specs.declared.among.Among.TheVariants as among
use Rattle.bg_load.specs.declared.load.Load.{Load}

-- what a connection does from now on
abbrev pub begun : Activity → ℕ → Load
begun new now = record {
  activity = new;
  progress = record { moment = now; bytes = moved new };
  is_paused = false;
}

-- it goes on with what it did: its progress is noted by the pace that it had, and a pause stays
abbrev pub continued : Load → Activity → ℕ → Load
continued load new now = record load {
  activity = new;
  progress = noted_by (pace_of load.activity) load.progress (moved new) now;
}

-- the load of a connection after it was observed
abbrev pub observed : Load → Activity → ℕ → Load
observed load new now = if continues load.activity new then continued load new now else begun new now

-- a request begins: it is arriving, and it is not the one that arrived before
abbrev pub begins : Load → Activity → Bool
begins load new = is_arriving new && not (continues load.activity new)

-- a request is paused; or it is resumed, and its pace is measured from then on
abbrev pub turned : Load → ℕ → Load
turned load now =
    if load.is_paused then record load { is_paused = false; progress = record { moment = now; bytes = load.progress.bytes } }
    else record load { is_paused = true }

-- it is slower than the pace of what it does
abbrev pub is_slow : Load → ℕ → Bool
is_slow load now = is_slower_by (pace_of load.activity) load.progress (moved load.activity) now

-- it is large, and slower than its pace, paused or not
abbrev pub is_stuck_load : ℕ → Load → Bool
is_stuck_load now load = is_large load.activity && is_slow load now

-- it is large, goes on, and has made progress within the last 750 milliseconds
abbrev pub is_moving_load : ℕ → Load → Bool
is_moving_load now load = is_large load.activity && not load.is_paused && nat_lt (now - load.progress.moment) 750

abbrev pub is_among : Among → Activity → Bool
is_among among.All activity = true
is_among among.Responses activity = is_answered activity

-- a number or a moment, if this is so
abbrev pub if_so : Bool → ℕ → Option ℕ
if_so so number = if so then Some number else None

-- since when it has made no progress, if it is slow, and among these; a request that is paused is not slow
abbrev pub slow_since : Among → ℕ → Load → Option ℕ
slow_since which now load =
    if_so (is_among which load.activity && not load.is_paused && is_slow load now) load.progress.moment

-- since when a large request has made no progress
abbrev pub still_load : Load → Option ℕ
still_load load = if_so (is_large load.activity) load.progress.moment

-- since when it has made no progress, if its response is written
abbrev pub answering_load : Load → Option ℕ
answering_load load = if_so (is_answering load.activity) load.progress.moment

-- since when it has been idle
abbrev pub idle_load : Load → Option ℕ
idle_load load = if_so (is_idle load.activity) load.progress.moment
