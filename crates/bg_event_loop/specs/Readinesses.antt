-- What is known of a connection that is watched for changes.
use Rattle.std.specs.Prelude.{ℕ, ◌||◌, nat_le}
use Rattle.bg_event_loop.specs.declared.events.Told.{Told}
use Rattle.bg_event_loop.specs.declared.readiness.Readiness.{Readiness}

-- an event came
abbrev pub told_more : Readiness → Told → Readiness
told_more ready told = record {
  input = (ready.input || told.input) || told.end;
  output = ready.output || told.output;
  end = ready.end || told.end;
  reset = ready.reset || told.reset;
}

-- a read of at most `most` bytes gave `count`
abbrev pub after_read : ℕ → ℕ → Readiness → Readiness
after_read count most ready = record ready { input = ready.end || nat_le most count }

-- a write of `most` bytes took `count`
abbrev pub after_write : ℕ → ℕ → Readiness → Readiness
after_write count most ready = record ready { output = nat_le most count }
