use Rattle.std.proofs.Common.{sym, ◌∙◌}
use Rattle.bg_rollout.proofs.Following.{step_told, no_step_told}
use Rattle.bg_rollout.proofs.rollout.Rollout.may_step.Goals as goal

pub returns-in-Some : goal.returns-in-Some
returns-in-Some g c =
    let b = c.args.self.now.routing in
    c.is_same.ensures ∙ step_told b.strategy b.opening b.past c.in-Some.next c.args.step c.holds_invariant.ensures.legal.allowed c.requires (sym c.next_step.ensures ∙ c.in-Some.is)

pub returns-in-None : goal.returns-in-None
returns-in-None g c =
    let b = c.args.self.now.routing in
    no_step_told b.strategy b.opening b.past c.args.step c.holds_invariant.ensures.legal.allowed c.requires (sym c.next_step.ensures ∙ c.in-None.is)
