use Rattle.std.proofs.Common.{◌≡◌, true, Some, subst}
use Rattle.bg_history.specs.Steps.{is_settled}
use Rattle.bg_promotion.specs.Phases.{phase_of}
use Rattle.bg_rollout.specs.Invariant.{RolloutModel, model_of}
use Rattle.bg_rollout.proofs.Settlements.Reaching.{no_step_left}
use Rattle.bg_rollout.proofs.rollout.Rollout.phase.Goals as goal

pub returns : goal.returns
returns g c =
    let b = (model_of c.self.inside).routing in
    subst (λ (m : RolloutModel). is_settled m.routing.strategy m.routing.past ≡ true → phase_of m.routing.strategy m.routing.past ≡ Some c.phase.result) c.self.view_is
    (λ settled. c.phase.ensures.settled b.strategy b.past c.self.invariant.core (no_step_left b.strategy b.past settled))
