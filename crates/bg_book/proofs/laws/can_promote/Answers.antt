use Rattle.std.proofs.Common.{subst, ◌≡◌, true}
use Rattle.bg_history.specs.AttemptBounds.{newest_of, is_running}
use Rattle.bg_history_laws.specs.FullPromotion.{CanPromote}
use Rattle.bg_rollout.specs.Routing.{Routing}
use Rattle.bg_book.specs.Promises.{CallsPromote}
use Rattle.bg_book.proofs.Promises.{calls-promote}
use Rattle.bg_book.proofs.laws.can_promote.Goals as goal

pub returns-clause-past : goal.returns-clause-past
returns-clause-past g c =
    let b = c.book.inside.rollout.routing in
    subst (λ (b : Routing). is_running b.past ≡ true → CanPromote 3 b.strategy b.opening (newest_of b.past) b.past) c.book.view_is
    (c.can_promote.ensures b.strategy b.opening b.closed b.past c.holds_invariant.ensures.legal)

pub returns-clause-calls : goal.returns-clause-calls
returns-clause-calls g c =
    let b = c.book.inside.rollout.routing in
    subst (λ (b : Routing). is_running b.past ≡ true → CallsPromote 3 b (newest_of b.past)) c.book.view_is
    (λ runs. calls-promote 3 b (newest_of b.past) (c.can_promote.ensures b.strategy b.opening b.closed b.past c.holds_invariant.ensures.legal runs))
