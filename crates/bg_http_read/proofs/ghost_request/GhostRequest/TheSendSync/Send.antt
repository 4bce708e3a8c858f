-- The value of the request exists only in proofs, so it may go to another thread.
use denote.Param.Send.{IsSend, owning_send}
use Rattle.bg_http_read.specs.contracts.ghost_request.GhostRequest.{the_row, the_type}

pub send : IsSend the_row
send = owning_send the_type tt (λ d. tt) (λ k x w. tt)
