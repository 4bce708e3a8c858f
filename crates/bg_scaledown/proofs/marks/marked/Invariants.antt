use Rattle.std.proofs.Common.{◌≡◌, ◌∷◌, take}
use Rattle.bg_scaledown.specs.Due.{marks_without}
use Rattle.bg_scaledown.proofs.marks.marked.Given as goal

abbrev pub invariant-loop-mark : goal.invariant-loop-mark
invariant-loop-mark l = l.kept ≡ l.newest ∷ marks_without l.newest.revision (take l.mark-index l.marks)
