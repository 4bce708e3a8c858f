use Rattle.std.proofs.Common.{◌≡◌, ◌+◌}
use Rattle.bg_history_laws.specs.Work.{work}
use Rattle.bg_rollout.specs.Settling.{Reached}
use Rattle.bg_rollout.proofs.rollout.Rollout.settle.Given as goal

abbrev pub invariant-loop-outcome : goal.invariant-loop-outcome
invariant-loop-outcome g l =
    Reached l.initial.self.routing l.self.routing l.count
    × (l.self.spare + l.count ≡ l.initial.self.spare)

abbrev pub decreases-loop-outcome : goal.decreases-loop-outcome
decreases-loop-outcome g l = work l.self.routing.strategy l.self.routing.past
