use Rattle.bg_load.proofs.RegisterLemmas.{freed}
use Rattle.bg_load.proofs.loads.Loads.leave.Goals as goal

pub invariant_of-self : goal.invariant_of-self
invariant_of-self c = rw c.set.ensures (freed c.self.inside.table c.self.inside.next c.args.key c.self.invariant)
