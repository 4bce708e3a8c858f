use Rattle.bg_http_read.specs.declared.body.BodyStage.TheVariants as stage
use Rattle.bg_relay.proofs.StepLemmas.{data_step, if_none_left, if_over_left}
use Rattle.bg_relay.proofs.steps.data_step.Goals as goal

pub returns-clause-step : goal.returns-clause-step
returns-clause-step c =
    if_over_left stage.Data c.args.bytes.now c.args.left c.args.room c.min.result c.min-count.result c.step_over.result
    c.min.ensures c.min-count.ensures c.step_over.ensures.some c.step_over.ensures.none
    (data_step c.args.bytes.now c.args.left c.min-count.result c.args.room)

pub returns-clause-waits : goal.returns-clause-waits
returns-clause-waits c =
    if_none_left stage.Data c.args.bytes.now c.args.left c.args.room c.min.result c.min-count.result c.step_over.result
    c.min.ensures c.min-count.ensures c.step_over.ensures.some
