use Rattle.std.proofs.Common.{refl}
use Rattle.std.specs.Prelude.{vec_capacity}
use Rattle.bg_both_sides.specs.StreamedEvents.{ends}
use Rattle.bg_both_sides.proofs.streamed_step.end.Goals as goal

pub returns : goal.returns
returns c =
    let answer = c.args.answer in (
      ends answer.rest.items (vec_capacity answer.rest) answer.persistence,
      record { told_is = refl; telling_is = refl; new_is = c.answer.ensures.new },
    )
