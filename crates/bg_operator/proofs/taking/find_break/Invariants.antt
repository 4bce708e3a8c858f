use Rattle.std.proofs.Common.{◌≡◌, take, false}
use Rattle.bg_operator.specs.Lines.{has_break}
use Rattle.bg_operator.proofs.taking.find_break.Given as goal

-- no break came so far
abbrev pub invariant-loop-i : goal.invariant-loop-i
invariant-loop-i l = has_break (take l.i l.bytes) ≡ false
