use Rattle.std.proofs.Common.{◌∙◌}
use Rattle.bg_both_sides.proofs.ClientLemmas.{fault_alike, fed_alike, fed_at}
use Rattle.bg_both_sides.proofs.SoundLemmas.{sound_alike}
use Rattle.bg_both_sides.proofs.both_sides.BothSides.feed.Goals as goal

pub invariant_of-self : goal.invariant_of-self
invariant_of-self c =
    let old = c.self.inside.client in
    let read = c.feed-fed.new.self in
    let result = c.feed-fed.result in
    let new = c.refuse_fault.new.client in
    let bytes = c.args.bytes.now in
    let now = c.args.now in
    sound_alike old new c.self.inside.endpoint
    (fault_alike result now read c.refuse_fault.ensures.0 new (fed_at old bytes now result read c.feed-fed.ensures)
    c.refuse_fault.ensures.1 ∙ fed_alike old bytes now result read c.feed-fed.ensures) c.self.invariant
