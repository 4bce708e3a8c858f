use Rattle.bg_relay.proofs.StepLemmas.{trailers_step}
use Rattle.bg_relay.proofs.steps.trailers_step.Goals as goal

pub returns-in-Ok-Some-clause-step : goal.returns-in-Ok-Some-clause-step
returns-in-Ok-Some-clause-step c room =
    trailers_step c.args.bytes.now c.in-Ok-Some.count room (rw c.in-Ok-Some.field-0-is at c.in-Ok-Some.ensures.within)
    (rw c.in-Ok-Some.field-0-is at c.in-Ok-Some.ensures.trailers)
