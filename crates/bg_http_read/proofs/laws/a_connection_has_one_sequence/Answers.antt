use Rattle.bg_http_read.specs.Requests.{ReadsRequest}
use Rattle.bg_http_read.proofs.OneRequest.{one_request}
use Rattle.bg_http_read.proofs.OneSequence.{one_sequence}
use Rattle.bg_http_read.proofs.laws.a_connection_has_one_sequence.Goals as goal

pub returns : goal.returns
returns c = λ some all input rest left fits h k. one_sequence ReadsRequest one_request some all input rest left fits h k
