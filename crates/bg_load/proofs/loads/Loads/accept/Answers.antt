use Rattle.std.proofs.Common.{◌+◌, ◌-◌, length}
use Rattle.bg_load.proofs.RegisterLemmas.{more}
use Rattle.bg_load.proofs.loads.Loads.accept.Goals as goal

pub invariant_of-self-2 : goal.invariant_of-self-2
invariant_of-self-2 c =
    rw c.in-Ok.ensures.grown
    (more c.self.inside.table c.self.inside.next (c.args.key + 1 - length c.self.inside.table) c.self.invariant)
