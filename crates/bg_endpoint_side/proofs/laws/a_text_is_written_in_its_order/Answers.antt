use Rattle.bg_endpoint_side.proofs.LawLemmas.{text_stays}
use Rattle.bg_endpoint_side.proofs.laws.a_text_is_written_in_its_order.Goals as goal

pub returns-clause-stays : goal.returns-clause-stays
returns-clause-stays c = text_stays
