use Rattle.bg_http_read.proofs.FedRequests.{fails_at_all}
use Rattle.bg_http_read.proofs.laws.the_end_gives_a_fault_of_the_input.Goals as goal

pub returns : goal.returns
returns c asked input fault fails = fails_at_all asked input fault fails
