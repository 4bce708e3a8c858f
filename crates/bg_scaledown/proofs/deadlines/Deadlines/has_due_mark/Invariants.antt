use Rattle.std.proofs.Common.{◌≡◌, ◌+◌, ◌≤◌, drop}
use Rattle.bg_scaledown.specs.Due.{mark_of, rank_among}
use Rattle.bg_scaledown.proofs.deadlines.Deadlines.has_due_mark.Given as goal

abbrev pub invariant-loop-mark : goal.invariant-loop-mark
invariant-loop-mark l =
    (mark_of l.revision (drop l.mark-index l.mark-items) ≡ mark_of l.revision l.mark-items)
    × (l.rank + rank_among l.exempt l.revision (drop l.mark-index l.mark-items) ≡ rank_among l.exempt l.revision l.mark-items)
    × (l.rank ≤ l.mark-index)
