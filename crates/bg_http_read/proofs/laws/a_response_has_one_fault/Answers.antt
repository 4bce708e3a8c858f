use Rattle.bg_http_read.proofs.OneResponseFault.{one_response_fault}
use Rattle.bg_http_read.proofs.laws.a_response_has_one_fault.Goals as goal

pub returns : goal.returns
returns c = λ request input one other h k isnt neither. one_response_fault request input one other h k isnt neither
