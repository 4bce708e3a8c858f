use Rattle.bg_endpoint_side.specs.Forwarding.{Receives}
use Rattle.bg_both_sides.proofs.AnswerLemmas.{at_forwarded, at_streamed}
use Rattle.bg_endpoint_side.specs.StreamedSteps.{ReceivesStreamed}
use Rattle.bg_both_sides.specs.Sides.{Sides}
use Rattle.bg_both_sides.proofs.endpoint_side.EndpointSide.receive.Goals as goal

pub returns-in-Forwarding-clause-plain : goal.returns-in-Forwarding-clause-plain
returns-in-Forwarding-clause-plain c plain =
    let now = c.args.now in
    let after : Sides = record { client = c.follow.new.client; endpoint = c.follow.result.0 } in
    at_forwarded (λ f step. Receives f c.args.bytes.now now step) c.args.self c.in-Forwarding.request c.in-Forwarding.forwarded c.receive-step.result now
    c.args.client.now c.follow.result.1 c.follow.ensures.0 after c.in-Forwarding.is c.receive-step.ensures c.follow.ensures.1

pub returns-in-Streaming-clause-streamed : goal.returns-in-Streaming-clause-streamed
returns-in-Streaming-clause-streamed c streaming =
    let now = c.args.now in
    let after : Sides = record { client = c.follow_streamed.new.client; endpoint = c.follow_streamed.result.0 } in
    at_streamed (λ s step. ReceivesStreamed s c.args.bytes.now now step) c.args.self c.in-Streaming.request c.in-Streaming.streamed
    c.receive-step-in-Streaming.result now c.args.client.now c.follow_streamed.result.1 c.follow_streamed.ensures.0 after c.in-Streaming.is
    c.receive-step-in-Streaming.ensures c.follow_streamed.ensures.1
