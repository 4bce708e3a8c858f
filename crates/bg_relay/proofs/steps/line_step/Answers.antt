use Rattle.std.proofs.Common.{drop}
use Rattle.bg_http_read.specs.Chunks.{ReadsLine}
use Rattle.bg_relay.proofs.StepLemmas.{line_step}
use Rattle.bg_relay.proofs.steps.line_step.Goals as goal

pub returns-in-Ok-Some-clause-step : goal.returns-in-Ok-Some-clause-step
returns-in-Ok-Some-clause-step c room =
    let within = rw c.in-Ok-Some.field-0-is at c.in-Ok-Some.ensures.within in
    let line : ReadsLine c.args.bytes.now c.in-Ok-Some.size (drop c.in-Ok-Some.count c.args.bytes.now) =
    rw c.in-Ok-Some.field-0-is at c.in-Ok-Some.ensures.line in
    line_step c.args.bytes.now c.in-Ok-Some.count c.in-Ok-Some.size room c.stage_after_line.result within line
    c.stage_after_line.ensures.last c.stage_after_line.ensures.chunk
