use Rattle.std.proofs.Common.{◌==◌, not, filter, ap, ◌∙◌}
use Rattle.bg_history.specs.Requests.{open_requests}
use Rattle.bg_audit.proofs.Dropping.{dropped-told}
use Rattle.bg_audit.proofs.requests.take.Goals as goal

pub returns-in-Leave : goal.returns-in-Leave
returns-in-Leave c = λ past is.
    rw c.in-Leave.is
    (c.drop_request.ensures ∙ ap (filter (λ q. not (q.number == c.in-Leave.number))) is ∙ dropped-told c.in-Leave.number (open_requests past))
