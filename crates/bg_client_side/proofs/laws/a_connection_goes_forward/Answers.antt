use Rattle.bg_client_side.proofs.RunLemmas.{goes_forward}
use Rattle.bg_client_side.proofs.laws.a_connection_goes_forward.Goals as goal

pub returns : goal.returns
returns c calls old new = goes_forward calls old new
