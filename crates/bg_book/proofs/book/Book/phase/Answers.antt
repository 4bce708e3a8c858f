use Rattle.std.proofs.Common.{◌≡◌, Some, ap, ◌∙◌, subst}
use Rattle.bg_promotion.specs.Phases.{phase_of}
use Rattle.bg_rollout.specs.Routing.{Routing}
use Rattle.bg_rollout.specs.State.{State}
use Rattle.bg_book.proofs.book.Book.phase.Goals as goal

pub returns-clause-past : goal.returns-clause-past
returns-clause-past g c = subst (λ (v : Routing). phase_of v.strategy v.past ≡ Some c.phase.result) c.self.view_is (c.phase.ensures c.self.invariant.settled)

pub returns-clause-running : goal.returns-clause-running
returns-clause-running g c =
    subst (λ (v : Routing). v.running.phase ≡ Some c.phase.result) c.self.view_is
    (ap (λ (x : State). x.phase) c.holds_invariant.ensures.running ∙ c.phase.ensures c.self.invariant.settled)
