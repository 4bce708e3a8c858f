use Rattle.std.proofs.Common.{subst, sym}
use Rattle.bg_http_read.specs.Responses.{ResponseFails}
use Rattle.bg_http_read.specs.ResponsesFed.{IsFedStage}
use Rattle.bg_http_read.proofs.ResponseSteps.{read_here, refused_here}
use Rattle.bg_http_read.proofs.StreamFaults.{if_err_is}
use Rattle.bg_http_read.proofs.response_feed.ResponseFeed.end.Goals as goal

pub returns-in_err-response-clause-refused : goal.returns-in_err-response-clause-refused
returns-in_err-response-clause-refused c request seen fed =
    let waits = subst (λ w. IsFedStage request c.args.self.now.progress.stage w seen) (sym c.get.ensures) fed.stage_is in
    let e = c.in_err-response.field-0.0 in
    if_err_is (ResponseFails request seen) c.from_residual.result e c.from_residual.ensures.1
    (refused_here request e seen (c.in_err-response.ensures.answer request seen fed.to_head_is waits))

pub returns-in-Some-clause-response : goal.returns-in-Some-clause-response
returns-in-Some-clause-response c request seen fed =
    let waits = subst (λ w. IsFedStage request c.args.self.now.progress.stage w seen) (sym c.get.ensures) fed.stage_is in
    let answer = rw c.in-Some.is at c.in_ok-response.ensures.answer request seen fed.to_head_is waits in
    read_here request c.in-Some.response seen _ answer
