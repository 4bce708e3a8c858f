use Rattle.bg_forward.proofs.Connected.{receives}
use Rattle.bg_forward.proofs.serving.serve_one.Goals as goal

pub returns-clause-client : goal.returns-clause-client
returns-clause-client g c =
    let read = c.read_request-received.ensures in (
      c.read_request-received.result,
      c.serve_received.ensures.client _ _
          (receives _ _ _ c.read_request-received.result read.request read.fault read.written),
      c.serve_received.ensures.cause,
    )
