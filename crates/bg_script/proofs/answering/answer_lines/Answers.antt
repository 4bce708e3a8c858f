use Rattle.std.proofs.Common.{◌||◌, true, sym, ◌∙◌}
use Rattle.std.proofs.lemmas.Bool.{and_parts}
use Rattle.bg_operator.specs.OperatorLines.{NextIs, last_speaks_http}
use Rattle.bg_script.specs.declared.answering.LinesEnd.TheVariants.{SpeaksHttp}
use Rattle.bg_script.specs.LineAnswers.{AnswersLines}
use Rattle.bg_script.specs.LineSteps.{is_connection}
use Rattle.bg_script.proofs.KnownInput.{Known-both}
use Rattle.bg_script.proofs.LinesInOrder.{Goes, ends_by_http, goes_on}
use Rattle.bg_script.proofs.StagesKept.{follows}
use Rattle.bg_script.proofs.answering.answer_lines.Goals as goal

pub loop-preserved : goal.loop-preserved
loop-preserved g c =
    let start = g.S.LineStage.stage c.args.stage.now in
    let stage = g.S.LineStage.stage c.loop.stage in
    let next = g.S.LineStage.stage c.after_line.new.stage in
    let first = g.W.Write.contents c.args.writer.now in
    let now = g.W.Write.contents c.loop.writer in
    let new = g.W.Write.contents c.after_line.new.writer in
    let faulted = c.loop.faulted in
    let fault = c.in-GoesOn.is_fault in
    let http = last_speaks_http c.next.new.self in (
      Known-both (Goes start first now stage faulted) (NextIs c.in_ok-read.field-0 http) (Goes start first new next (faulted || fault)) _ _ _
          (λ xs ys zs p q. goes_on start stage next first now new faulted fault http c.in-Some.read xs ys zs p (rw c.in-Some.is at q)
          (sym c.ends_connection-is_last.ensures ∙ c.if-is_last.false) (rw c.in-GoesOn.is at c.in_ok-is_fault.ensures.done))
          c.loop.invariant.0 c.in_ok-read.ensures,
      follows start stage next c.loop.invariant.1 c.in_ok-is_fault.ensures.next,
    )

pub returns-then-is_last-clause-answers : goal.returns-then-is_last-clause-answers
returns-then-is_last-clause-answers g c =
    let start = g.S.LineStage.stage c.args.stage.now in
    let stage = g.S.LineStage.stage c.loop.stage in
    let next = g.S.LineStage.stage c.after_line.new.stage in
    let first = g.W.Write.contents c.args.writer.now in
    let now = g.W.Write.contents c.loop.writer in
    let new = g.W.Write.contents c.after_line.new.writer in
    let faulted = c.loop.faulted in
    let http = last_speaks_http c.next.new.self in
    let both = and_parts (is_connection stage) http (sym c.ends_connection-is_last.ensures ∙ c.if-is_last.true) in
    Known-both (Goes start first now stage faulted) (NextIs c.in_ok-read.field-0 http) (AnswersLines start SpeaksHttp true first new next) _ _ _
    (λ xs ys zs p q. ends_by_http start stage next first now new faulted c.in-GoesOn.is_fault http c.in-Some.read xs ys zs p (rw c.in-Some.is at q)
    both.1 (rw c.in-GoesOn.is at c.in_ok-is_fault.ensures.done))
    c.loop.invariant.0 c.in_ok-read.ensures
