use Rattle.std.proofs.Common.{◌∙◌, ap, refl, Some, vec_capacity}
use Rattle.bg_http.specs.Texts.{response_text}
use Rattle.bg_both_sides.proofs.AnswerLemmas.{unwritten_reply}
use Rattle.bg_both_sides.specs.Answers.{says}
use Rattle.bg_both_sides.proofs.answering.respond.Goals as goal

pub returns-in-Ok : goal.returns-in-Ok
returns-in-Ok c =
    let stays = c.persistence-persistence.ensures in
    let text = c.in-Ok.ensures ∙ ap (λ keeps. response_text keeps c.args.request.now c.args.response.now) stays in (
      Some (record {
        request = c.args.request.now;
        answer = says c.in-Ok.text.items (vec_capacity c.in-Ok.text) c.persistence-persistence.result;
      }),
      (refl, (refl, (text, stays)), c.answer.ensures.new),
    )

pub returns-in-Err : goal.returns-in-Err
returns-in-Err c =
    unwritten_reply c.args.request.now c.args.response.now c.args.now c.args.client.now c.refuse.new.client
    c.refuse.ensures.0 c.refuse.ensures.1
