use Rattle.std.proofs.Common.{sym, ap, ◌∙◌}
use Rattle.bg_promotion.specs.Core.{Core}
use Rattle.bg_promotion.proofs.Phases.{sizing_is_left}
use Rattle.bg_promotion.proofs.promotion.Core.phase.Goals as goal

pub returns-else-awaits_post-clause-settled : goal.returns-else-awaits_post-clause-settled
returns-else-awaits_post-clause-settled c = λ s past represents none.
    sizing_is_left s past
    (sym represents.halted_is ∙ ap (λ (k : Core). k.halted) (sym c.self.view_is) ∙ c.if-self.false)
    (sym represents.running_is ∙ ap (λ (k : Core). k.running) (sym c.self.view_is) ∙ c.if-not-self.false)
    (sym represents.ready_is ∙ ap (λ (k : Core). k.attempt.ready) (sym c.self.view_is) ∙ c.if-not-self-2.false)
    (sym (c.awaits_pre.ensures s past represents) ∙ c.if-awaits_pre.false)
    (sym (c.is_paused.ensures s past represents) ∙ c.if-is_paused.false)
    (sym (c.awaits_post.ensures s past represents) ∙ c.if-awaits_post.false)
    none
