use Rattle.bg_forward.proofs.Connected.{served_client}
use Rattle.bg_forward.proofs.Rounds.{round_served}
use Rattle.bg_forward.proofs.workers.work.Goals as goal

pub close-requires-clause-connection : goal.close-requires-clause-connection
close-requires-clause-connection g c =
    let received = rw c.in-Ok-Some.field-0-is at c.in-Ok-Some.ensures.received in
    let connection = rw c.new-client.ensures.stream at c.serve_received-served.ensures.client in
    rw c.into_inner-stream.ensures (served_client _ _ c.refusal_body-refusal_body.ensures _ _ _ _ _ _ received connection)

pub loop-preserved : goal.loop-preserved
loop-preserved g c =
    let served = c.serve_received-served.ensures in
    round_served c.loop.counter c.args.seat.now c.loop.seat c.serve_received-served.new.seat
    c.serve_received-served.result.entered c.loop.invariant served.out served.index served.calls
