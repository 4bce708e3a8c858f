use Rattle.bg_streams.proofs.LawLemmas.{gives_no_body}
use Rattle.bg_streams.proofs.laws.a_cut_response_has_no_end.Goals as goal

pub returns : goal.returns
returns c = gives_no_body c.a_part_is_no_body.ensures
