use Rattle.bg_http_read.proofs.PlainHeads.{request_fields_plain, response_fields_plain}
use Rattle.bg_http_read.proofs.laws.a_head_has_plain_fields.Goals as goal

pub returns-clause-requests : goal.returns-clause-requests
returns-clause-requests c = request_fields_plain

pub returns-clause-responses : goal.returns-clause-responses
returns-clause-responses c = response_fields_plain
