use Rattle.bg_endpoint_side.proofs.LawLemmas.{repeats_safely, stays_on_new}
use Rattle.bg_endpoint_side.proofs.laws.a_request_is_sent_again_at_most_once.Goals as goal

pub returns-clause-safely : goal.returns-clause-safely
returns-clause-safely c = repeats_safely

pub returns-clause-once : goal.returns-clause-once
returns-clause-once c = stays_on_new
