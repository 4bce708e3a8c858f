use Rattle.std.proofs.Common.{◌∙◌, subst, sym}
use Rattle.bg_http_read.specs.ResponsesFed.{IsFedStage, IsOpenStage, WantsStage}
use Rattle.bg_http_read.proofs.FedResponses.{fed_end}
use Rattle.bg_http_read.proofs.response_progress.ResponseProgress.close.Goals as goal

pub returns-in-Ok-clause-response : goal.returns-in-Ok-clause-response
returns-in-Ok-clause-response c request waits seen fed wants =
    let is = sym c.replace.ensures.value ∙ c.in-Body.is in
    let body = subst (λ s. IsFedStage request s waits seen) is fed in
    let missing = subst (λ s. WantsStage request s waits seen) is wants in
    fed_end request c.in-Body.part waits seen c.in-Ok.response body (subst IsOpenStage is c.requires) c.in-Ok.ensures
    (sym c.can_end.ensures ∙ c.if-not-can_end.false) missing.empty
