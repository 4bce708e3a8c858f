use Rattle.bg_client_side.proofs.LeftLemmas.{stays_left}
use Rattle.bg_client_side.proofs.laws.a_connection_leaves_once.Goals as goal

pub returns-clause-stays : goal.returns-clause-stays
returns-clause-stays c calls old new = stays_left calls old new
