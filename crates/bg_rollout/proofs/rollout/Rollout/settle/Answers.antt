use Rattle.std.proofs.Common.{sym, arith}
use Rattle.bg_history_laws.specs.Reachable.{Reachable}
use Rattle.bg_rollout.proofs.Settlements.Outcomes.{first_is_allowed}
use Rattle.bg_rollout.proofs.Settlements.Reaching.{reached_none, reached_more, place_left, work_left, follow_few}
use Rattle.bg_rollout.proofs.rollout.Rollout.settle.Goals as goal

pub loop-outcome-init : goal.loop-outcome-init
loop-outcome-init g c = (reached_none c.args.self.now.routing c.holds_invariant.ensures.lists c.holds_invariant.ensures.running, omega arith)

pub record_outcome-requires-clause-allowed : goal.record_outcome-requires-clause-allowed
record_outcome-requires-clause-allowed g c =
    let b = c.loop-outcome.self.routing in
    first_is_allowed b.strategy b.opening b.past c.in-Some.outcome (sym c.in-Some.ensures)

pub record_outcome-requires-clause-spare : goal.record_outcome-requires-clause-spare
record_outcome-requires-clause-spare g c =
    place_left c.args.self.now.routing c.loop-outcome.self.routing c.loop-outcome.count c.args.self.now.spare c.loop-outcome.self.spare c.in-Some.outcome c.loop-outcome.invariant.0
    (sym c.in-Some.ensures) c.requires c.loop-outcome.invariant.1

pub overflow_add-count : goal.overflow_add-count
overflow_add-count g c =
    let b = c.args.self.now.routing in
    let reach : Reachable b.strategy b.opening b.past = c.reachable.ensures b.strategy b.opening b.past c.holds_invariant.ensures.legal.allowed in
    let few = follow_few c.work_falls.ensures b.strategy b.past c.loop-outcome.invariant.0.outcomes c.loop-outcome.invariant.0.follow in
    let most = c.work_is_bounded.ensures b.strategy b.past reach.few in
    omega (arith, few, most, c.loop-outcome.invariant.0.count_is)

pub loop-outcome-smaller : goal.loop-outcome-smaller
loop-outcome-smaller g c = work_left c.work_falls.ensures c.loop-outcome.self.routing c.record_outcome.new.self.routing c.in-Some.outcome (sym c.in-Some.ensures) c.record_outcome.ensures.routing

pub loop-outcome-preserved : goal.loop-outcome-preserved
loop-outcome-preserved g c = (
  reached_more c.args.self.now.routing c.loop-outcome.self.routing c.record_outcome.new.self.routing c.loop-outcome.count c.in-Some.outcome c.loop-outcome.invariant.0
      (sym c.in-Some.ensures) c.record_outcome.ensures.routing,
  omega (arith, c.loop-outcome.invariant.1, c.record_outcome.ensures.spare),
)
