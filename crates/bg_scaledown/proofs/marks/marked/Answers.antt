use Rattle.std.proofs.Common.{arith}
use Rattle.bg_scaledown.proofs.Room.{marks_without-before}
use Rattle.bg_scaledown.proofs.marks.marked.Goals as goal

pub push-requires-then-mark-newest : goal.push-requires-then-mark-newest
push-requires-then-mark-newest c =
    rw c.loop-mark.invariant (omega (arith, marks_without-before c.args.newest.revision c.loop-mark.mark-index c.args.marks.now _ c.loop-mark-test.true c.if-mark-newest.true, c.requires.room))
