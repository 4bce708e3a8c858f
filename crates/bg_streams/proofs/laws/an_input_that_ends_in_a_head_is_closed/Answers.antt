use Rattle.bg_streams.proofs.LawLemmas.{closed_in_head}
use Rattle.bg_streams.proofs.laws.an_input_that_ends_in_a_head_is_closed.Goals as goal

pub returns : goal.returns
returns c = closed_in_head
