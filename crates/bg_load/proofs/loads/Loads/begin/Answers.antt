use Rattle.bg_load.proofs.RegisterLemmas.{numbered_holds}
use Rattle.bg_load.proofs.loads.Loads.begin.Goals as goal

pub invariant_of-self : goal.invariant_of-self
invariant_of-self c =
    rw c.set.ensures (numbered_holds c.self.inside.table c.self.inside.next c.args.key c.args.load c.self.invariant)
