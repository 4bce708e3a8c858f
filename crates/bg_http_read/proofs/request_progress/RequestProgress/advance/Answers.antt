use Rattle.std.proofs.Common.{IfErr, ap, subst, sym, ◌∙◌}
use Rattle.bg_http_read.specs.RefusedHeads.{TellsHead}
use Rattle.bg_http_read.specs.RequestsFed.{IsFedStage, known_head}
use Rattle.bg_http_read.specs.declared.head_end.HeadEnd.TheVariants as end
use Rattle.bg_http_read.proofs.FedRequests.{head_advances}
use Rattle.bg_http_read.proofs.RefusedHeads.{tells_body}
use Rattle.bg_http_read.proofs.request_progress.RequestProgress.advance.Goals as goal

pub returns-in-Head-clause-answer : goal.returns-in-Head-clause-answer
returns-in-Head-clause-answer c seen fed =
    head_advances _ seen c.args.bytes.now end.Blank c.args.self.now.stage c.advance_head.result c.advance_head.new.self.stage
    (sym c.replace.ensures.value ∙ c.in-Head.is) fed c.advance_head.ensures.answer

pub returns-in-Head-clause-head : goal.returns-in-Head-clause-head
returns-in-Head-clause-head c seen fed =
    let here = subst (λ s. IsFedStage s c.args.bytes.now seen) (sym c.replace.ensures.value ∙ c.in-Head.is) fed in
    subst (λ l. IfErr c.advance_head.result (λ e. TellsHead l e (known_head c.advance_head.new.self.stage))) (sym here)
    (c.advance_head.ensures.head (ap known_head c.replace.ensures.after))

pub returns-in-Body-clause-head : goal.returns-in-Body-clause-head
returns-in-Body-clause-head c seen fed =
    let here = subst (λ s. IsFedStage s c.args.bytes.now seen) (sym c.replace.ensures.value ∙ c.in-Body.is) fed in
    tells_body _ c.advance_body.result c.in-Body.part c.args.bytes.now seen (known_head c.advance_body.new.self.stage) here c.advance_body.ensures.head
