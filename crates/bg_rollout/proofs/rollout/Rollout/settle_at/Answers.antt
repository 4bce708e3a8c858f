use Rattle.bg_rollout.proofs.Settlements.Reaching.{reached_none}
use Rattle.bg_rollout.proofs.rollout.Rollout.settle_at.Goals as goal

pub returns-else-may_scale_down-clause-reached : goal.returns-else-may_scale_down-clause-reached
returns-else-may_scale_down-clause-reached g c = reached_none c.args.self.now.routing c.holds_invariant.ensures.lists c.holds_invariant.ensures.running
