use Rattle.bg_http_read.specs.Responses.{ReadsResponseThen}
use Rattle.bg_http_read.proofs.OneResponse.{one_response}
use Rattle.bg_http_read.proofs.OneSequence.{one_sequence_of_answers}
use Rattle.bg_http_read.proofs.laws.a_connection_has_one_sequence_of_responses.Goals as goal

pub returns : goal.returns
returns c = λ requests one other input rest left h k. one_sequence_of_answers ReadsResponseThen one_response requests one other input rest left h k
