use Rattle.bg_http_read.proofs.OneFault.{one_fault}
use Rattle.bg_http_read.proofs.laws.a_request_has_one_fault.Goals as goal

pub returns : goal.returns
returns c = λ input one other h k isnt neither. one_fault input one other h k isnt neither
