use Rattle.std.proofs.Common.{◌≤◌, vec_len}
use Rattle.bg_operator.specs.Reading.{Known}
use Rattle.bg_operator.specs.Parting.{largest_strategy}
use Rattle.bg_operator.proofs.Marks.{Gathering}
use Rattle.bg_operator.proofs.strategy_part.whole_input.Given as goal

abbrev pub invariant-loop : goal.invariant-loop
invariant-loop g l = record {
  fits : vec_len l.whole ≤ largest_strategy;
  taken : Known (g.B.Read.remaining l.fn.reader) (g.B.Read.remaining l.reader) (Gathering l.whole.items);
}
