use Rattle.std.proofs.Common.{subst}
use Rattle.bg_book.specs.Promises.{LastLeaveScalesDown}
use Rattle.bg_book.proofs.laws.drained_is_scaled_down.Goals as goal

pub returns : goal.returns
returns g c =
    let b = c.book.inside.rollout.routing in
    subst LastLeaveScalesDown c.book.view_is
    (λ seats place seat left new new_seats step waits.
    c.drained_is_scaled_down.ensures b.strategy b.opening b.closed b.past seat.index seat.number seat.revision step.2.1.outcomes new.past c.holds_invariant.ensures.legal c.book.invariant.settled waits step.2.1.step)
