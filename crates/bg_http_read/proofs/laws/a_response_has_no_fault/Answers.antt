use Rattle.bg_http_read.proofs.ResponseOrFault.{response_or_fault}
use Rattle.bg_http_read.proofs.laws.a_response_has_no_fault.Goals as goal

pub returns : goal.returns
returns c = λ request input response fault reads fails. response_or_fault request input response fault reads fails
