use Rattle.std.proofs.Common.{◌||◌, ℕ, Bool, List, IfOk, IfSome, refl, sym, subst}
use Rattle.std.specs.Io.KnownBytes.{Appends}
use Rattle.bg_operator.specs.Reading.{Known}
use Rattle.bg_script.specs.declared.answer.Answer.TheVariants.{Opened, OpenRefused}
use Rattle.bg_script.specs.declared.answering.FirstRevision.{FirstRevision}
use Rattle.bg_script.specs.declared.answering.LinesEnd.TheVariants as lines_end
use Rattle.bg_script.specs.AnswerTexts.{answer_text}
use Rattle.bg_script.specs.LineAnswers.{AnswersLines}
use Rattle.bg_script.specs.LineSteps.{Closed, Said, ScriptOpens, Stage}
use Rattle.bg_script.specs.Scripts.{Ran, RanOpened}
use Rattle.bg_script.specs.Stages.{closed_stage}
use Rattle.bg_script.proofs.KnownInput.{Known-both, Known-some, Known-then}
use Rattle.bg_script.proofs.LinesInOrder.{Goes}
use Rattle.bg_script.proofs.ScriptLines.{goes_past_open, goes_through, ran_to_its_end}
use Rattle.bg_script.proofs.replaying.run.Goals as goal

pub returns-in-Quit : goal.returns-in-Quit
returns-in-Quit g c =
    let start = Closed c.args.settings.now.strategy.now c.args.settings.now.seats in
    let stage = closed_stage c.answer_lines.new.stage in
    let first = g.W.Write.contents c.args.writer.now in
    let now = g.W.Write.contents c.loop.writer in
    let new = g.W.Write.contents c.answer_lines.new.writer in
    let faulted = c.loop.faulted in
    let later = c.in_ok-answered.answered.faulted in
    Known-some (Goes start first now start faulted) (AnswersLines start c.in_ok-answered.answered.end later now new stage) (Ran start first new (faulted || later)) _ _ _
    (λ xs ys zs p q. goes_through start start first now new faulted later xs ys p
    (ran_to_its_end start stage now new later c.in_ok-answered.answered.end ys zs c.in-Quit.is q))
    c.loop.invariant c.in_ok-answered.ensures.answers

pub returns-in-Ok : goal.returns-in-Ok
returns-in-Ok g c =
    let s = c.args.settings.now.strategy.now in
    let count = c.args.settings.now.seats in
    let start = Closed s count in
    let stage = closed_stage c.answer_lines.new.stage in
    let first = g.W.Write.contents c.args.writer.now in
    let now = g.W.Write.contents c.loop.writer in
    let mid = g.W.Write.contents c.answer_lines.new.writer in
    let last = g.W.Write.contents c.run_open.new.writer in
    let faulted = c.loop.faulted in
    let fault = c.in_ok-answered.answered.faulted in
    let later = c.in_ok-later-in-Ok.later in
    let revision = c.in-Open.first in
    let Opens = λ (f : FirstRevision) (t : Bool). (next : Stage) × ScriptOpens s count f.name f.ports (Said Opened) next
    × IfSome (g.B.Read.remaining c.answer_lines.new.reader) (RanOpened next mid last t) in
    let opened = subst (λ (f : FirstRevision). IfOk c.in-Ok.end (Opens f)) c.in-Open.first-is c.in-Ok.ensures.ok in
    let told : Opens revision later = subst (λ e. IfOk e (Opens revision)) c.in_ok-later-in-Ok.was opened in
    let next = told.0 in
    let Asked = λ (xs zs : List ℕ). (ys : List ℕ) × Goes start first now start faulted xs ys × AnswersLines start (lines_end.Open revision) fault now mid stage ys zs in
    let asked = Known-both (Goes start first now start faulted) (AnswersLines start c.in_ok-answered.answered.end fault now mid stage) Asked _ _ _
    (λ xs ys zs p q. (ys, p, subst (λ e. AnswersLines start e fault now mid stage ys zs) c.in-Open.is q))
    c.loop.invariant c.in_ok-answered.ensures.answers in
    Known-then Asked (RanOpened next mid last later) (Ran start first last ((faulted || fault) || later)) _ _
    (λ xs zs p r. goes_through start next first r.begun last (faulted || fault) later xs zs
    (goes_past_open s count stage next first now mid r.begun faulted fault revision Opened xs p.0 zs p.1 p.2 (c.in_ok-answered.ensures.next.closed refl) told.1 refl r.said)
    r.ran)
    asked told.2

pub loop-preserved : goal.loop-preserved
loop-preserved g c =
    let s = c.args.settings.now.strategy.now in
    let count = c.args.settings.now.seats in
    let start = Closed s count in
    let stage = closed_stage c.answer_lines.new.stage in
    let first = g.W.Write.contents c.args.writer.now in
    let now = g.W.Write.contents c.loop.writer in
    let mid = g.W.Write.contents c.answer_lines.new.writer in
    let new = g.W.Write.contents c.write_answer.new.writer in
    let faulted = c.loop.faulted in
    let fault = c.in_ok-answered.answered.faulted in
    let revision = c.in-Open.first in
    let refused = OpenRefused c.in-Err.fault in
    let kept = c.in-Err.ensures.unchanged in
    let opens = subst (λ (f : FirstRevision). ScriptOpens s count f.name f.ports (Said refused) start) c.in-Open.first-is c.in-Err.ensures.err in
    let wrote : Appends mid new (answer_text refused) =
    subst (λ w. Appends (g.W.Write.contents w) new (answer_text refused)) kept.1 c.in_ok-write_answer-in-Err.ensures in
    subst (λ r. Known (g.B.Read.remaining c.args.reader.now) (g.B.Read.remaining r) (Goes start first new start (faulted || fault))) (sym kept.0)
    (Known-both (Goes start first now start faulted) (AnswersLines start c.in_ok-answered.answered.end fault now mid stage) (Goes start first new start (faulted || fault)) _ _ _
    (λ xs ys zs p q. goes_past_open s count stage start first now mid new faulted fault revision refused xs ys zs p
    (subst (λ e. AnswersLines start e fault now mid stage ys zs) c.in-Open.is q) (c.in_ok-answered.ensures.next.closed refl) opens refl wrote)
    c.loop.invariant c.in_ok-answered.ensures.answers)
