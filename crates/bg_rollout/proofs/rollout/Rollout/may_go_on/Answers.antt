use Rattle.std.proofs.Common.{ap}
use Rattle.bg_rollout.proofs.OpenRequests.GoingOn.{in_goes_on, out_goes_on}
use Rattle.bg_rollout.proofs.rollout.Rollout.may_go_on.Goals as goal

pub returns-then-not-is_in-clause-goes_on : goal.returns-then-not-is_in-clause-goes_on
returns-then-not-is_in-clause-goes_on g c =
    out_goes_on c.args.self.now.routing c.args.seat.now _ _ c.holds_invariant.ensures c.meet.ensures.met.known c.meet.ensures.seat c.is_in.ensures c.if-not-is_in.true

pub returns-else-past_limit-clause-goes_on : goal.returns-else-past_limit-clause-goes_on
returns-else-past_limit-clause-goes_on g c =
    in_goes_on c.args.self.now.routing c.meet.new.self.routing c.args.seat.now _ _ _ _ _ c.holds_invariant.ensures c.meet.ensures.met.known
    (ap (λ v. v.routing) c.meet.ensures.rollout) c.meet.ensures.seat c.is_in.ensures c.if-not-is_in.false c.revision.ensures.revision
    c.past_limit.ensures c.if-past_limit.false

pub returns-then-past_limit-clause-goes_on : goal.returns-then-past_limit-clause-goes_on
returns-then-past_limit-clause-goes_on g c =
    in_goes_on c.args.self.now.routing c.meet.new.self.routing c.args.seat.now _ _ _ _ _ c.holds_invariant.ensures c.meet.ensures.met.known
    (ap (λ v. v.routing) c.meet.ensures.rollout) c.meet.ensures.seat c.is_in.ensures c.if-not-is_in.false c.revision.ensures.revision
    c.past_limit.ensures c.if-past_limit.true
