-- What is known of a port after it took a request.
use Rattle.std.specs.Prelude.{ℕ}
use Rattle.bg_endpoints.specs.States.{marked}
use Rattle.bg_endpoint_side.specs.declared.outcome.Health.{Health}
use Rattle.bg_endpoint_side.specs.declared.outcome.Health.TheVariants as health
use Rattle.bg_endpoints.specs.declared.port_state.PortState.{PortState}

-- a failure marks the port, an answer ends the marks, and a request that ended without either changes nothing
abbrev pub after_request : PortState → Health → ℕ → PortState
after_request s health.Unknown now = s
after_request s health.Answers now = record s { pause = 0; marked_until = 0 }
after_request s health.Fails now = marked s now
