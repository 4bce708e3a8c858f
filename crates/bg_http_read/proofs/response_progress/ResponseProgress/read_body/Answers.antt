use Rattle.std.proofs.Common.{[], subst}
use Rattle.bg_http_read.specs.ResponsesFed.{IsFedStage, responses}
use Rattle.bg_http_read.proofs.FedBodies.{fed_straight}
use Rattle.bg_http_read.specs.Responses.{most_response_body}
use Rattle.bg_http_read.proofs.InterimTaken.{final_behind}
use Rattle.bg_http_read.proofs.response_progress.ResponseProgress.read_body.Goals as goal

pub returns-in-Body-clause-fed : goal.returns-in-Body-clause-fed
returns-in-Body-clause-fed g c request fed =
    let seen = c.args.seen.now.bytes in
    let came = c.read_from.ensures.came in
    fed_straight (responses request) (final_behind most_response_body request) c.in-Body.part c.read_from.new.self seen came.0 c.read_from.new.seen.bytes
    (subst (λ s. IsFedStage request s [] seen) c.in-Body.is fed) came.1 came.2 c.read_from.ensures.limit
