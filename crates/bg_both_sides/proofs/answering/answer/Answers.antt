use Rattle.std.proofs.Common.{ℕ, Option, Ok, sym, subst}
use Rattle.bg_both_sides.proofs.AnswerLemmas.{faulty_reply}
use Rattle.bg_both_sides.specs.Answers.{Refuses, Replies, Reply}
use Rattle.bg_both_sides.specs.declared.endpoint_step.Given.TheVariants as given
use Rattle.bg_both_sides.proofs.answering.answer.Goals as goal

pub returns-in-Err : goal.returns-in-Err
returns-in-Err c =
    let now = c.args.now in
    let old = c.args.client.now in
    let new = c.refuse.new.client in
    subst (λ answer. (reply : Option Reply) × Replies c.args.request.now answer (given.Refusal c.in-Err.fault) now old reply new) (sym c.in-Err.is)
    (faulty_reply c.args.request.now c.in-Err.fault now old new c.refuse.ensures.0
    (subst (λ (status : ℕ). Refuses (Ok c.args.request.now) status now old c.refuse.ensures.0 new) c.status.ensures.status c.refuse.ensures.1))
