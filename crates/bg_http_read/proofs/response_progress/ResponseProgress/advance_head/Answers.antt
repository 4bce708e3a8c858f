use Rattle.std.proofs.Common.{drop}
use Rattle.bg_http_read.specs.Responses.{no_heads}
use Rattle.bg_http_read.specs.ResponsesFed.{responses}
use Rattle.bg_http_read.proofs.FedBodies.{fed_head}
use Rattle.bg_http_read.proofs.ResponseSteps.{advances_err}
use Rattle.bg_http_read.proofs.response_progress.ResponseProgress.advance_head.Goals as goal

pub returns-in_err-head-clause-answer : goal.returns-in_err-head-clause-answer
returns-in_err-head-clause-answer c request seen asked skips =
    advances_err request seen c.args.bytes.now _ _ c.in_err-head.field-0.0 c.from_residual.ensures.1
    (λ more. no_heads (c.in_err-head.ensures.refused request seen asked skips more))

pub returns-clause-answer : goal.returns-clause-answer
returns-clause-answer c request seen asked skips =
    let bytes = c.args.bytes.now in
    let found = rw c.in-Some.is at c.in_ok-head.ensures.head request seen asked skips in
    c.advance_body.ensures.answer request seen asked
    (fed_head (responses request) c.in-Some.head c.in-Some.framing c.in-Ok.part
    (drop c.in_ok-head.field-0.taken bytes) seen found c.in-Ok.ensures.head c.in-Ok.ensures.framing
    (rw c.body_of_response-ends.ensures at c.in-Ok.ensures.body))
