use Rattle.std.proofs.Common.{[], sym, subst}
use Rattle.bg_endpoint_side.specs.Forwarding.{wrote}
use Rattle.bg_both_sides.proofs.SoundLemmas.{changed_sound, wrote_is}
use Rattle.bg_both_sides.specs.Sides.{IsSound}
use Rattle.bg_both_sides.proofs.both_sides.BothSides.endpoint_wrote.Goals as goal

pub invariant_of-self : goal.invariant_of-self
invariant_of-self c =
    let client = c.self.inside.client in
    let count = c.args.count in
    let now = c.args.now in
    subst (IsSound client) (sym c.wrote.ensures)
    (changed_sound (λ f. wrote f count now) c.self.inside.endpoint client
    (λ request f sent. wrote_is request f count now
    (c.a_text_is_written_in_its_order.ensures.stays f [] count now).after_write sent) c.self.invariant)
