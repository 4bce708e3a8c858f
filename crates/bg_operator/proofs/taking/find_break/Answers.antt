use Rattle.std.proofs.Common.{arith}
use Rattle.bg_operator.proofs.Pieces.{no_break_more}
use Rattle.bg_operator.proofs.taking.find_break.Goals as goal

pub loop-i-preserved : goal.loop-i-preserved
loop-i-preserved c = no_break_more c.args.bytes.now c.loop-i.i (omega arith) c.loop-i.invariant c.if-byte-eq10.false
