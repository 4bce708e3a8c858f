use Rattle.bg_both_sides.proofs.TextLemmas.{writes_its_answers}
use Rattle.bg_both_sides.proofs.laws.answers_are_written_in_sequence.Goals as goal

pub returns : goal.returns
returns c calls old new =
    writes_its_answers c.a_text_is_written_in_its_order.ensures.stays c.answers_are_written_in_sequence.ensures calls old new
