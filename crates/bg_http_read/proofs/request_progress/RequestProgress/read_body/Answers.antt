use Rattle.std.proofs.Common.{[], subst}
use Rattle.bg_http_read.specs.RequestsFed.{IsFedStage, requests}
use Rattle.bg_http_read.proofs.FedBodies.{fed_straight}
use Rattle.bg_http_read.proofs.FedRequests.{judged_more}
use Rattle.bg_http_read.proofs.request_progress.RequestProgress.read_body.Goals as goal

pub returns-in-Body-clause-at : goal.returns-in-Body-clause-at
returns-in-Body-clause-at g c at =
    let seen = c.args.seen.now.bytes in
    let came = c.read_from.ensures.came in
    record {
      fed = fed_straight requests judged_more c.in-Body.part c.read_from.new.self seen came.0 c.read_from.new.seen.bytes
          (subst (λ s. IsFedStage s [] seen) c.in-Body.is at.fed) came.1 came.2 c.read_from.ensures.limit;
      ready = c.read_from.ensures.within;
      sees = tt;
    }
