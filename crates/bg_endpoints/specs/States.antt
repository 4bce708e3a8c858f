-- What is known of ports: open requests, and marks.
use Rattle.std.specs.Prelude.{ℕ, ◌+◌, ◌*◌, ◌==◌, if◌then◌else◌, min, nat_lt, not, List, [], ◌∷◌, ◌++◌, filter, unwrap_or}
use Rattle.std.specs.List.{find}
use Rattle.bg_endpoints.specs.declared.port_state.PortState.{PortState}

-- how long the next mark lasts, in milliseconds: a second at first, then twice as long as before, up to ten seconds
abbrev pub next_pause : ℕ → ℕ
next_pause pause = if pause == 0 then 1000 else min (2 * pause) 10000

-- a mark begins now
abbrev pub with_mark : PortState → ℕ → PortState
with_mark s now = record s {
  pause = next_pause s.pause;
  marked_until = min (now + next_pause s.pause) 18446744073709551615;
}

-- a mark begins now, unless the one before has not ended
abbrev pub marked : PortState → ℕ → PortState
marked s now = if nat_lt now s.marked_until then s else with_mark s now

-- a port of which nothing is known
abbrev pub fresh : ℕ → PortState
fresh port = record { port = port; requests = 0; pause = 0; marked_until = 0 }

-- what is known of a port
abbrev pub state_of : List PortState → ℕ → PortState
state_of states port = unwrap_or (find (λ s. s.port == port) states) (fresh port)

-- the state takes the place of what was known of its port
abbrev pub with_state : List PortState → PortState → List PortState
with_state states s = filter (λ o. not (o.port == s.port)) states ++ s ∷ []
