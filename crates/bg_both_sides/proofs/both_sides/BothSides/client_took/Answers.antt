use Rattle.std.proofs.Common.{subst, sym}
use Rattle.bg_both_sides.proofs.StreamedSteps.{takes_sound}
use Rattle.bg_both_sides.specs.Sides.{IsSound, Sides}
use Rattle.bg_both_sides.proofs.both_sides.BothSides.client_took.Goals as goal

pub invariant_of-self : goal.invariant_of-self
invariant_of-self c =
    let client = c.self.inside.client in
    let after : Sides = record { client = c.take_by_client-endpoint.new.client; endpoint = c.take_by_client-endpoint.result.0 } in
    let sound = subst (IsSound client) (sym c.replace.ensures.value) c.self.invariant in
    takes_sound c.replace.result c.args.count c.args.now client c.take_by_client-endpoint.result.1 c.take_by_client-endpoint.ensures.0
    after sound c.take_by_client-endpoint.ensures.1
