use Rattle.std.proofs.Common.{arith}
use Rattle.bg_scaledown.proofs.Room.{length-marks_without}
use Rattle.bg_scaledown.proofs.deadlines.Deadlines.clear.Goals as goal

pub invariant_of-self : goal.invariant_of-self
invariant_of-self c = rw c.drop_mark.ensures (omega (arith, length-marks_without c.args.revision c.self.inside.marks))
