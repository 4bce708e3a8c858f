use Rattle.bg_operator.specs.Reading.{Known}
use Rattle.bg_script.specs.LineSteps.{MayFollow}
use Rattle.bg_script.proofs.LinesInOrder.{Goes}
use Rattle.bg_script.proofs.answering.answer_lines.Given as goal

abbrev pub invariant-loop : goal.invariant-loop
invariant-loop g l =
    Known (g.B.Read.remaining l.fn.reader) (g.B.Read.remaining l.reader)
    (Goes (g.S.LineStage.stage l.fn.stage) (g.W.Write.contents l.fn.writer) (g.W.Write.contents l.writer) (g.S.LineStage.stage l.stage) l.faulted)
    × MayFollow (g.S.LineStage.stage l.fn.stage) (g.S.LineStage.stage l.stage)
