use Rattle.std.proofs.Common.{subst}
use Rattle.bg_history_laws.specs.Rollback.{CanRollBack}
use Rattle.bg_rollout.specs.Routing.{Routing}
use Rattle.bg_book.specs.Promises.{CallsRollBack}
use Rattle.bg_book.proofs.Promises.{calls-roll_back}
use Rattle.bg_book.proofs.laws.can_roll_back.Goals as goal

pub returns-clause-past : goal.returns-clause-past
returns-clause-past g c =
    let b = c.book.inside.rollout.routing in
    subst (λ (b : Routing). CanRollBack b.strategy b.opening b.past) c.book.view_is (c.can_roll_back.ensures b.strategy b.opening b.closed b.past c.holds_invariant.ensures.legal)

pub returns-clause-calls : goal.returns-clause-calls
returns-clause-calls g c =
    let b = c.book.inside.rollout.routing in
    let legal = c.holds_invariant.ensures.legal in
    subst CallsRollBack c.book.view_is
    (calls-roll_back b (c.can_roll_back.ensures b.strategy b.opening b.closed b.past legal) (c.reachable.ensures b.strategy b.opening b.past legal.allowed))
