use Rattle.std.proofs.Common.{ap}
use Rattle.bg_rollout.proofs.WholeStates.Compacting.{represents_compacted}
use Rattle.bg_rollout.specs.Compaction.{part_compacted}
use Rattle.bg_rollout.specs.Invariant.{model_of, parts_of}
use Rattle.bg_rollout.proofs.rollout.Rollout.compact.Goals as goal

pub invariant_of-self : goal.invariant_of-self
invariant_of-self g c =
    let b = (model_of c.self.inside).routing in
    rw c.compact.ensures.new
    (represents_compacted c.keeps_table.ensures b (parts_of c.self.inside) (c.compacts.ensures b.strategy b.opening b.closed b.past c.self.invariant.routing.legal) c.self.invariant)

pub returns-clause-new : goal.returns-clause-new
returns-clause-new g c = rw c.compact.ensures.new (ap part_compacted c.self.view_is)
