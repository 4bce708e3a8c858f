use Rattle.bg_client_side.proofs.RunLemmas.{answered_once}
use Rattle.bg_client_side.proofs.laws.each_request_is_answered_once.Goals as goal

pub returns : goal.returns
returns c calls old new = answered_once calls old new
