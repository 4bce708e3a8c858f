use Rattle.std.proofs.Common.{refl, Some, vec_capacity}
use Rattle.bg_http.specs.declared.persistence.Persistence.TheVariants.{Close}
use Rattle.bg_both_sides.specs.Answers.{lacks, says}
use Rattle.bg_both_sides.proofs.answering.refuse_with.Goals as goal

pub returns-in-Ok : goal.returns-in-Ok
returns-in-Ok c =
    (Some (says c.in-Ok.text.items (vec_capacity c.in-Ok.text) Close), ((c.in-Ok.ensures, refl), c.answer.ensures.new))

pub returns-in-Err : goal.returns-in-Err
returns-in-Err c = (Some (lacks c.leave_unanswered.ensures.0), (tt, c.leave_unanswered.ensures.1))
