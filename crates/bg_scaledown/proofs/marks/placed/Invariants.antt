use Rattle.std.proofs.Common.{◌≡◌, ◌≤◌, ◌+◌, ◌++◌, cond, length, drop}
use Rattle.bg_scaledown.specs.Sorted.{inserted}
use Rattle.bg_scaledown.proofs.marks.placed.Given as goal

abbrev pub invariant-loop-other : goal.invariant-loop-other
invariant-loop-other l =
    (l.kept ++ cond l.is_placed (drop l.other-index l.marks) (inserted l.mark (drop l.other-index l.marks)) ≡ inserted l.mark l.marks)
    × (length l.kept ≤ l.other-index + cond l.is_placed 1 0)
