use Rattle.bg_http_read.proofs.PlainHeads.{request_is_read, response_is_read}
use Rattle.bg_http_read.proofs.laws.a_head_with_plain_fields_is_read_as_it_is_written.Goals as goal

pub returns-clause-requests : goal.returns-clause-requests
returns-clause-requests c = request_is_read

pub returns-clause-responses : goal.returns-clause-responses
returns-clause-responses c = response_is_read
