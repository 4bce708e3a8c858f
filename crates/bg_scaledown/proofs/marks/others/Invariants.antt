use Rattle.std.proofs.Common.{◌≡◌, ◌≤◌, length, take}
use Rattle.bg_scaledown.specs.Due.{marks_without}
use Rattle.bg_scaledown.proofs.marks.others.Given as goal

abbrev pub invariant-loop-mark : goal.invariant-loop-mark
invariant-loop-mark l = (l.kept ≡ marks_without l.revision (take l.mark-index l.marks)) × (length l.kept ≤ l.mark-index)
