use Rattle.std.proofs.Common.{◌∙◌}
use Rattle.bg_audit.proofs.Answering.{settled-is, ends-is}
use Rattle.bg_audit.proofs.facts.Facts.is_settled.Goals as goal

pub returns : goal.returns
returns c = λ o past known reach.
    c.is_neither.ensures
    ∙ settled-is c.args.strategy.now past c.has_step-steps.result c.has_end-ends.result (c.has_step-steps.ensures o past known reach)
    (c.has_end-ends.ensures ∙ ends-is c.args.strategy.now o past c.args.self.now known (λ r. c.finds.ensures.number c.args.strategy.now o past r))
