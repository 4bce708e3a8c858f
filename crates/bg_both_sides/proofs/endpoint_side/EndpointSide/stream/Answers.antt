use Rattle.std.proofs.Common.{refl, subst, sym, true}
use Rattle.bg_http.specs.Persistences.{keeps}
use Rattle.bg_both_sides.specs.StreamedEvents.{ConnectsStreamed}
use Rattle.bg_both_sides.specs.declared.endpoint_side.EndpointSide.TheVariants as side
use Rattle.bg_both_sides.proofs.endpoint_side.EndpointSide.stream.Goals as goal

pub returns-in-Ok : goal.returns-in-Ok
returns-in-Ok c =
    let client = c.args.client in
    subst (λ e. ConnectsStreamed c.args.is_kept client.1 c.args.now (keeps client.0) true e
    (side.Streaming c.in-Dialing.request c.in-Ok.streamed)) (sym c.in-Dialing.is)
    (c.terms_for-terms.result, c.terms_for-terms.ensures, (c.in-Ok.streamed, c.in-Ok.ensures.streams, refl))
