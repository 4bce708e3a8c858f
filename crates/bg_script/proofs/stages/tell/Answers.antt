use Rattle.std.proofs.Common.{ℕ, List, refl, subst}
use Rattle.std.specs.Io.KnownBytes.{Appends}
use Rattle.bg_script.specs.declared.answer.Answer.TheVariants.{OutOfMemory}
use Rattle.bg_script.specs.LineSteps.{Asked, Said}
use Rattle.bg_script.proofs.stages.tell.Goals as goal

pub returns-in_ok-write_all-in-Some : goal.returns-in_ok-write_all-in-Some
returns-in_ok-write_all-in-Some g c =
    let told = c.in-Some.ensures.told in
    let first = g.W.Write.contents c.args.writer.now in
    let last = g.W.Write.contents c.write_all.new.self in
    let wrote = subst (λ (l : List ℕ). Appends first last l) c.deref.ensures.value c.in_ok-write_all-in-Some.ensures.bytes in
    (Asked c.args.query told.0, (refl, told.1), subst (λ (l : List ℕ). Appends first last l) told.2 wrote, refl)

pub returns-in_ok-write_answer-in-None : goal.returns-in_ok-write_answer-in-None
returns-in_ok-write_answer-in-None g c = (Said OutOfMemory, refl, c.in_ok-write_answer-in-None.ensures, refl)
