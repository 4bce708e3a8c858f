use Rattle.std.proofs.Common.{subst, sym}
use Rattle.bg_both_sides.proofs.RunLemmas.{gives_sound}
use Rattle.bg_both_sides.specs.Runs.{breaks}
use Rattle.bg_both_sides.specs.Sides.{IsSound, Sides}
use Rattle.bg_both_sides.proofs.both_sides.BothSides.endpoint_failed.Goals as goal

pub invariant_of-self : goal.invariant_of-self
invariant_of-self c =
    let client = c.self.inside.client in
    let after : Sides = record { client = c.fail-endpoint.new.client; endpoint = c.fail-endpoint.result.0 } in
    let sound = subst (IsSound client) (sym c.replace.ensures.value) c.self.invariant in
    gives_sound breaks c.replace.result c.args.now client c.fail-endpoint.result.1 after sound c.fail-endpoint.ensures.plain
    c.fail-endpoint.ensures.streamed
