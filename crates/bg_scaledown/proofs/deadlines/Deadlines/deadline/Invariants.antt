use Rattle.std.proofs.Common.{◌≡◌, drop}
use Rattle.bg_scaledown.specs.Due.{mark_of}
use Rattle.bg_scaledown.proofs.deadlines.Deadlines.deadline.Given as goal

abbrev pub invariant-loop-mark : goal.invariant-loop-mark
invariant-loop-mark l = mark_of l.revision (drop l.mark-index l.mark-items) ≡ mark_of l.revision l.mark-items
