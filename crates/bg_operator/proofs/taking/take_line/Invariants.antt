use Rattle.std.proofs.Common.{◌≤◌, vec_len}
use Rattle.bg_operator.specs.Reading.{Known}
use Rattle.bg_operator.specs.Taking.{TakesPieces}
use Rattle.bg_operator.proofs.taking.take_line.Given as goal

abbrev pub invariant-loop : goal.invariant-loop
invariant-loop g l = record {
  fits : vec_len l.line ≤ l.room;
  taken : Known (g.B.Read.remaining l.fn.reader) (g.B.Read.remaining l.reader) (TakesPieces l.line.items);
}
