use Rattle.std.proofs.Common.{rules}
use Rattle.bg_http_read.specs.declared.body.BodyStage.TheVariants as stage
use Rattle.bg_relay.proofs.StepLemmas.{any_room}
use Rattle.bg_relay.proofs.steps.next_step.Goals as goal

pub returns-in-Line-clause-step : goal.returns-in-Line-clause-step
returns-in-Line-clause-step c =
    any_room stage.Line c.args.stage c.args.bytes.now c.args.room c.line_step.result c.in-Line.is c.line_step.ensures.step

pub returns-in-Data-eq0-clause-step : goal.returns-in-Data-eq0-clause-step
returns-in-Data-eq0-clause-step c =
    any_room (stage.Data 0) c.args.stage c.args.bytes.now c.args.room c.line_end_step.result (search rules)
    c.line_end_step.ensures.step

pub returns-in-Trailers-clause-step : goal.returns-in-Trailers-clause-step
returns-in-Trailers-clause-step c =
    any_room stage.Trailers c.args.stage c.args.bytes.now c.args.room c.trailers_step.result c.in-Trailers.is
    c.trailers_step.ensures.step
