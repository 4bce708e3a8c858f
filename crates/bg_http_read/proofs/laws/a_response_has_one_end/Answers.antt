use Rattle.bg_http_read.proofs.OneResponse.{one_response}
use Rattle.bg_http_read.proofs.laws.a_response_has_one_end.Goals as goal

pub returns : goal.returns
returns c = λ request input one other rest left h k. one_response request input one other rest left h k
