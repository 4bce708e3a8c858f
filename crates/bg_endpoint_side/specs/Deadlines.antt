-- The timeouts of a request that is forwarded.
use Rattle.std.specs.Prelude.{ℕ, ◌+◌, min}
use Rattle.bg_endpoint_side.specs.declared.deadlines.Deadlines.{Deadlines}
use Rattle.bg_endpoint_side.specs.declared.deadlines.Timeouts.{Timeouts}

-- so many milliseconds later
abbrev pub later : ℕ → ℕ → ℕ
later now millis = min (now + millis) 18446744073709551615

-- a request is dialled: the dial has five seconds, and all that follows has the timeout of the response
abbrev pub deadlines_from : Timeouts → ℕ → Deadlines
deadlines_from timeouts now = record {
  last = later now timeouts.response;
  until = min (later now 5000) (later now timeouts.response);
  idle = timeouts.idle;
}

-- something happened: the request is late in so many milliseconds, and with its last deadline
abbrev pub renewed : Deadlines → ℕ → ℕ → Deadlines
renewed deadlines millis now = record deadlines { until = min (later now millis) deadlines.last }
