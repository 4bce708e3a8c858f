-- The numbers of the events of an epoll set.
use Rattle.std.specs.Prelude.{ℕ, ◌+◌, ◌*◌, ◌/◌, ◌%◌, ◌-◌, ◌^◌, ◌==◌, if◌then◌else◌, min}
use Rattle.bg_event_loop.specs.declared.events.Source.{Source}
use Rattle.bg_event_loop.specs.declared.events.Source.TheVariants as source

-- the number of a listener or the key of a connection, and the kind of the source as the rest by four; none is so great that its
-- number does not fit
abbrev pub numbered : ℕ → ℕ → ℕ
numbered key kind = min (min (key * 4) (2 ^ 64 - 1) + kind) (2 ^ 64 - 1)

abbrev pub number_of : Source → ℕ
number_of source.Signal = 0
number_of (source.Listener number) = numbered number 1
number_of (source.Client key) = numbered key 2
number_of (source.Endpoint key) = numbered key 3

abbrev pub source_of : ℕ → Source
source_of number =
    if number % 4 == 0 then source.Signal
    else if number % 4 == 1 then source.Listener (number / 4)
    else if number % 4 == 2 then source.Client (number / 4)
    else source.Endpoint (number / 4)
