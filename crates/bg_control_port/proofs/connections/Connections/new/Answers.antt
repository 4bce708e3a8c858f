use Rattle.std.proofs.Common.{◌≡◌, List, Option, None, replicate, ap, ◌∙◌, arith}
use Rattle.bg_control_port.specs.Registers.{Register}
use Rattle.bg_control_port.specs.declared.connection.Connection.{Connection}
use Rattle.bg_control_port.proofs.connections.Connections.new.Goals as goal

abbrev register : {L : Type 0} → List (Option (Connection L)) → Register L
register places = record { places = places; next_number = 0; urgent_in_a_row = 0 }

pub returns : goal.returns
returns g c =
    let all : c.loop.counter ≡ 1024 = omega (arith, c.loop-test.false, c.loop.auto.counter-end) in
    ap register (c.loop.invariant ∙ ap (λ n. replicate n None) all)
