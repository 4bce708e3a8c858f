use Rattle.std.proofs.Common.{arith}
use Rattle.std.proofs.lemmas.Bool.{eq-eqb, ne_eqb}
use Rattle.bg_endpoint_side.proofs.KeptLemmas.{last_found, one_more}
use Rattle.bg_endpoint_side.specs.KeptLists.{has_port}
use Rattle.bg_endpoint_side.proofs.kept_connections.last_place_to.Goals as goal

pub returns-then-connections-place : goal.returns-then-connections-place
returns-then-connections-place c =
    last_found (has_port c.args.port) c.args.connections.now c.loop-place.place (record { key = 0; port = 0; since = 0 })
    (omega (arith, c.loop-place-test.true)) c.loop-place.invariant.0 c.loop-place.invariant.1
    (eq-eqb _ _ c.if-connections-place.true)

pub loop-place-preserved : goal.loop-place-preserved
loop-place-preserved c =
    one_more (has_port c.args.port) c.args.connections.now c.loop-place.place (record { key = 0; port = 0; since = 0 })
    (omega (arith, c.loop-place-test.true)) c.loop-place.invariant.0 c.loop-place.invariant.1
    (ne_eqb _ _ c.if-connections-place.false)
