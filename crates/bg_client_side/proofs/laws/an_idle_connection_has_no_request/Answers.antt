use Rattle.bg_client_side.proofs.RunLemmas.{idle_has_answered}
use Rattle.bg_client_side.proofs.laws.an_idle_connection_has_no_request.Goals as goal

pub returns-clause-answered : goal.returns-clause-answered
returns-clause-answered c settings now calls new = idle_has_answered settings now calls new
