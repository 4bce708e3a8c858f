use Rattle.std.proofs.Common.{false}
use Rattle.bg_operator.specs.Reading.{Known}
use Rattle.bg_operator.specs.Taking.{PassesPiece}
use Rattle.bg_operator.proofs.taking.skip_line.Given as goal

abbrev pub invariant-loop : goal.invariant-loop
invariant-loop g l = Known (g.B.Read.remaining l.fn.reader) (g.B.Read.remaining l.reader) (PassesPiece false)
