use Rattle.bg_http_read.proofs.RequestOrFault.{request_or_fault}
use Rattle.bg_http_read.proofs.laws.a_request_has_no_fault.Goals as goal

pub returns : goal.returns
returns c = λ input rest request fault reads fails. request_or_fault input rest request fault reads fails
