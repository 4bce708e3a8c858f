use Rattle.std.proofs.Common.{drop, subst, sym}
use Rattle.bg_http_read.specs.RequestsFed.{IsFedStage, LacksHead}
use Rattle.bg_http_read.proofs.RefusedHeads.{tells_ended}
use Rattle.bg_http_read.proofs.RequestSteps.{ends_cut_off, ends_err, read_here}
use Rattle.bg_http_read.proofs.request_feed.RequestFeed.end.Goals as goal

pub returns-in_err-step-clause-answer : goal.returns-in_err-step-clause-answer
returns-in_err-step-clause-answer c seen fed short =
    let waits = subst (λ w. IsFedStage c.args.self.now.progress.stage w seen) (sym c.get.ensures) fed.fed in
    ends_err _ seen _ c.in_err-step.field-0.0 c.from_residual.ensures.1
    (c.in_err-step.ensures.answer seen waits)

pub returns-in-Whole-clause-answer : goal.returns-in-Whole-clause-answer
returns-in-Whole-clause-answer c seen fed short =
    let waits = subst (λ w. IsFedStage c.args.self.now.progress.stage w seen) (sym c.get.ensures) fed.fed in
    read_here _ c.in-Whole.request seen _ (rw c.in-Whole.is at c.in_ok-step.ensures.answer seen waits)

pub returns-in-More-clause-answer : goal.returns-in-More-clause-answer
returns-in-More-clause-answer c seen fed short =
    let old = c.args.self.now.progress.stage in
    let waits = subst (λ w. IsFedStage old w seen) (sym c.get.ensures) fed.fed in
    ends_cut_off old c.advance.new.self.stage c.get.result.now seen (drop c.in_ok-step.field-0.taken c.get.result.now) c.in_ok-step.field-0.step
    waits (subst (LacksHead old) (sym c.get.ensures) short) (c.in_ok-step.ensures.answer seen waits) c.in-More.is

pub returns-in-More-clause-head : goal.returns-in-More-clause-head
returns-in-More-clause-head c seen fed =
    let old = c.args.self.now.progress.stage in
    let waits = subst (λ w. IsFedStage old w seen) (sym c.get.ensures) fed.fed in
    tells_ended old c.advance.new.self.stage seen (drop c.in_ok-step.field-0.taken c.get.result.now) c.in_ok-step.field-0.step
    (c.in_ok-step.ensures.answer seen waits) c.in-More.is
