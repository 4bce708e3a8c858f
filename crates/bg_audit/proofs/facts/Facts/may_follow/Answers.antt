use Rattle.std.proofs.Common.{◌∙◌}
use Rattle.bg_audit.proofs.Answering.{scales-down, removes-is}
use Rattle.bg_audit.proofs.facts.Facts.may_follow.Goals as goal

pub returns-in-ScaledDown : goal.returns-in-ScaledDown
returns-in-ScaledDown c = λ o past known reach.
    rw c.in-ScaledDown.is
    (c.may_scale_down.ensures ∙ scales-down c.args.strategy.now o past c.args.self.now c.in-ScaledDown.number known (c.finds.ensures.number c.args.strategy.now o past c.in-ScaledDown.number))

pub returns-in-Removed : goal.returns-in-Removed
returns-in-Removed c = λ o past known reach.
    rw c.in-Removed.is (c.may_remove.ensures ∙ removes-is c.args.strategy.now o past c.args.self.now c.in-Removed.number known)
