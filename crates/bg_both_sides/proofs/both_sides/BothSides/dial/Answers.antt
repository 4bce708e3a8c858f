use Rattle.std.proofs.Common.{sym, subst}
use Rattle.bg_both_sides.proofs.SoundLemmas.{dials_sound}
use Rattle.bg_both_sides.specs.Sides.{IsSound}
use Rattle.bg_both_sides.proofs.both_sides.BothSides.dial.Goals as goal

pub invariant_of-self : goal.invariant_of-self
invariant_of-self c =
    let client = c.self.inside.client in
    let sound = subst (IsSound client) (sym c.replace.ensures.value) c.self.invariant in
    dials_sound c.replace.result c.args.route c.args.now c.dial-endpoint.result.1 client c.dial-endpoint.result.0 sound
    c.dial-endpoint.ensures
