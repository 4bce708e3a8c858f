use Rattle.std.proofs.Common.{◌≡◌, ◌∙◌, ◌++◌, ap, subst}
use Rattle.bg_http_read.specs.ResponseStates.{NeedsMore}
use Rattle.bg_endpoint_side.specs.Dialing.{Forwarded}
use Rattle.bg_endpoint_side.specs.EndpointRequests.{forwarded_of}
use Rattle.bg_endpoint_side.specs.Forwarding.{with_bytes}
use Rattle.bg_endpoint_side.proofs.forwarded_request.ForwardedRequest.receive.Goals as goal

pub returns-in-None : goal.returns-in-None
returns-in-None c =
    let bytes = c.args.bytes.now in
    subst (λ (f : Forwarded). (forwarded_of c.receive.new.self ≡ with_bytes f bytes c.args.now)
    × NeedsMore f.request (f.came ++ bytes)) (ap forwarded_of c.deref_mut.ensures.value ∙ c.self.view_is)
    c.in-None.ensures.goes_on
