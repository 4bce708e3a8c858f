use Rattle.bg_endpoint_side.proofs.LawLemmas.{goes_back_drained}
use Rattle.bg_endpoint_side.proofs.laws.a_connection_goes_back_drained.Goals as goal

pub returns : goal.returns
returns c = goes_back_drained
