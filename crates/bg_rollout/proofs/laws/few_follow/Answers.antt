use Rattle.std.proofs.Common.{arith}
use Rattle.bg_rollout.proofs.Settlements.Reaching.{follow_few}
use Rattle.bg_rollout.proofs.laws.few_follow.Goals as goal

pub returns : goal.returns
returns c s past outcomes follow = omega (arith, follow_few c.work_falls.ensures s past outcomes follow)
