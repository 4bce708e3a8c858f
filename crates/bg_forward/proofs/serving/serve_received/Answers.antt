use Rattle.std.proofs.Common.{Ok, Err, None}
use Rattle.bg_forward.proofs.Connected.{connected}
use Rattle.bg_forward.proofs.serving.serve_received.Goals as goal

pub returns-in-Ok-clause-client : goal.returns-in-Ok-clause-client
returns-in-Ok-clause-client g c input before r =
    rw c.in-Ok.is (connected c.args.refusal_body input before _ _ (Ok c.in-Ok.request) _ _ (rw c.in-Ok.is at r)
    c.serve_request.ensures.may_end c.serve_request.ensures.wrote)

pub returns-in-Err-clause-client : goal.returns-in-Err-clause-client
returns-in-Err-clause-client g c input before r =
    rw c.in-Err.is (connected c.args.refusal_body input before _ _ (Err c.in-Err.fault) None _ (rw c.in-Err.is at r)
    c.refuse_fault-outcome.ensures.may_end c.refuse_fault-outcome.ensures.wrote)
