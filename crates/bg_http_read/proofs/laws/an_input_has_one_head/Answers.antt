use Rattle.bg_http_read.proofs.PlainHeads.{no_response_head, one_response_head}
use Rattle.bg_http_read.proofs.laws.an_input_has_one_head.Goals as goal

pub returns-clause-one : goal.returns-clause-one
returns-clause-one c = one_response_head

pub returns-clause-none : goal.returns-clause-none
returns-clause-none c = no_response_head
