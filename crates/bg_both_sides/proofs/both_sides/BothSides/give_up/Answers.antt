use Rattle.std.proofs.Common.{subst, sym}
use Rattle.bg_both_sides.proofs.RunLemmas.{gives_sound}
use Rattle.bg_both_sides.specs.Runs.{given_up}
use Rattle.bg_both_sides.specs.Sides.{IsSound, Sides}
use Rattle.bg_both_sides.proofs.both_sides.BothSides.give_up.Goals as goal

pub invariant_of-self : goal.invariant_of-self
invariant_of-self c =
    let client = c.self.inside.client in
    let after : Sides = record { client = c.give_up-endpoint.new.client; endpoint = c.give_up-endpoint.result.0 } in
    let sound = subst (IsSound client) (sym c.replace.ensures.value) c.self.invariant in
    gives_sound (given_up c.args.why) c.replace.result c.args.now client c.give_up-endpoint.result.1 after sound c.give_up-endpoint.ensures.plain
    c.give_up-endpoint.ensures.streamed
