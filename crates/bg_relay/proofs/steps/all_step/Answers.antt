use Rattle.std.proofs.Common.{◌≡◌, ◌<◌, [], arith, true}
use Rattle.bg_http_read.specs.declared.body.BodyStage.TheVariants as stage
use Rattle.bg_relay.specs.declared.steps.Step.{Step}
use Rattle.bg_relay.specs.Steps.{IsStep}
use Rattle.bg_relay.proofs.StepLemmas.{all_step, if_none, if_over, no_bytes}
use Rattle.bg_relay.proofs.steps.all_step.Goals as goal

pub returns-clause-step : goal.returns-clause-step
returns-clause-step c =
    let bytes = c.args.bytes.now in
    let room = c.args.room in
    let count = c.min.result in
    let step : Step = record { count = count; is_data = true; next = stage.ToTheEnd } in
    if_over (IsStep stage.ToTheEnd bytes room) count step c.step_over.result c.step_over.ensures.none c.step_over.ensures.some
    (λ some. all_step bytes count room some (omega (arith, c.min.ensures)) (omega (arith, c.min.ensures)))

pub returns-clause-waits : goal.returns-clause-waits
returns-clause-waits c =
    let bytes = c.args.bytes.now in
    let room = c.args.room in
    let count = c.min.result in
    let step : Step = record { count = count; is_data = true; next = stage.ToTheEnd } in
    if_none (0 < room → bytes ≡ []) count step c.step_over.result c.step_over.ensures.some
    (λ none some. no_bytes bytes (omega (arith, none, some, c.min.ensures)))
