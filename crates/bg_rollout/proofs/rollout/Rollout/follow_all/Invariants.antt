use Rattle.bg_rollout.proofs.Following.{Followed}
use Rattle.bg_rollout.proofs.rollout.Rollout.follow_all.Given as goal

abbrev pub invariant-loop-place : goal.invariant-loop-place
invariant-loop-place g l = Followed l.initial.self.routing l.self.routing l.entries l.place
