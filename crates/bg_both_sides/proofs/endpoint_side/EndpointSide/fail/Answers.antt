use Rattle.std.proofs.Common.{◌≡◌}
use Rattle.bg_endpoint_side.specs.Forwarding.{failed}
use Rattle.bg_both_sides.proofs.AnswerLemmas.{at_forwarded, at_streamed}
use Rattle.bg_endpoint_side.specs.StreamedSteps.{failed_streamed}
use Rattle.bg_both_sides.specs.StreamedEvents.{IsOnceStreamed}
use Rattle.bg_both_sides.specs.EndpointEvents.{IsOnce}
use Rattle.bg_both_sides.specs.Sides.{Sides}
use Rattle.bg_both_sides.proofs.endpoint_side.EndpointSide.fail.Goals as goal

pub returns-in-Forwarding-clause-plain : goal.returns-in-Forwarding-clause-plain
returns-in-Forwarding-clause-plain c plain =
    let now = c.args.now in
    let after : Sides = record { client = c.follow.new.client; endpoint = c.follow.result.0 } in
    at_forwarded (λ f step. (step ≡ failed f now) × IsOnce f step) c.args.self c.in-Forwarding.request c.in-Forwarding.forwarded c.fail-step.result now
    c.args.client.now c.follow.result.1 c.follow.ensures.0 after c.in-Forwarding.is (c.fail-step.ensures.step, c.fail-step.ensures.once) c.follow.ensures.1

pub returns-in-Streaming-clause-streamed : goal.returns-in-Streaming-clause-streamed
returns-in-Streaming-clause-streamed c streaming =
    let now = c.args.now in
    let after : Sides = record { client = c.follow_streamed.new.client; endpoint = c.follow_streamed.result.0 } in
    at_streamed (λ s step. (step ≡ failed_streamed s now) × IsOnceStreamed s step) c.args.self c.in-Streaming.request c.in-Streaming.streamed
    c.fail-step-in-Streaming.result now c.args.client.now c.follow_streamed.result.1 c.follow_streamed.ensures.0 after c.in-Streaming.is
    (c.fail-step-in-Streaming.ensures.step, c.fail-step-in-Streaming.ensures.once) c.follow_streamed.ensures.1
