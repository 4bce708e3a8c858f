use Rattle.std.proofs.Common.{◌≡◌, length}
use Rattle.bg_http_read.specs.HeadEnds.{after_bytes}
use Rattle.bg_http_read.proofs.head_end.HeadEnd.after_all.Given as goal

abbrev pub invariant-loop-rest : goal.invariant-loop-rest
invariant-loop-rest l = after_bytes l.end l.rest ≡ after_bytes l.fn.self l.bytes

abbrev pub decreases-loop-rest : goal.decreases-loop-rest
decreases-loop-rest l = length l.rest
