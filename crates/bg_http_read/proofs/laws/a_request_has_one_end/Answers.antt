use Rattle.bg_http_read.proofs.OneRequest.{one_request}
use Rattle.bg_http_read.proofs.laws.a_request_has_one_end.Goals as goal

pub returns : goal.returns
returns c = λ input one other rest left h k. one_request input one other rest left h k
