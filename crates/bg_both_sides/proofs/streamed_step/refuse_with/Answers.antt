use Rattle.bg_both_sides.specs.Sides.{Sides}
use Rattle.bg_both_sides.proofs.AnswerLemmas.{refused_telling}
use Rattle.bg_both_sides.proofs.streamed_step.refuse_with.Goals as goal

pub returns : goal.returns
returns c =
    let after : Sides = record { client = c.finish.new.client; endpoint = c.finish.result.0 } in
    refused_telling c.args.request.now c.args.fault.0 c.args.fault.1 c.args.now c.args.client.now c.finish.result.1 c.finish.ensures.0 after
    c.finish.ensures.1
