use Rattle.std.proofs.Common.{subst, sym}
use Rattle.bg_http.specs.Persistences.{keeps}
use Rattle.bg_both_sides.proofs.StreamedSteps.{connects_sound}
use Rattle.bg_both_sides.specs.Sides.{IsSound}
use Rattle.bg_both_sides.proofs.both_sides.BothSides.connect_streamed.Goals as goal

pub invariant_of-self : goal.invariant_of-self
invariant_of-self c =
    let client = c.self.inside.client in
    let sound = subst (IsSound client) (sym c.replace.ensures.value) c.self.invariant in
    connects_sound c.replace.result c.args.is_kept c.args.limits c.args.now (keeps c.persistence.result) c.stream-endpoint.result.1 client
    c.stream-endpoint.result.0 sound c.stream-endpoint.ensures
