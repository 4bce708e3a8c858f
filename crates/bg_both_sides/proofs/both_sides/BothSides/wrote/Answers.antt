use Rattle.std.proofs.Common.{◌∙◌}
use Rattle.bg_both_sides.proofs.ClientLemmas.{fault_alike, wrote_alike, wrote_at}
use Rattle.bg_both_sides.proofs.SoundLemmas.{sound_alike}
use Rattle.bg_both_sides.proofs.both_sides.BothSides.wrote.Goals as goal

pub invariant_of-self : goal.invariant_of-self
invariant_of-self c =
    let old = c.self.inside.client in
    let read = c.wrote-fed.new.self in
    let result = c.wrote-fed.result in
    let new = c.refuse_fault.new.client in
    let count = c.args.count in
    let now = c.args.now in
    sound_alike old new c.self.inside.endpoint
    (fault_alike result now read c.refuse_fault.ensures.0 new (wrote_at old count now result read c.wrote-fed.ensures)
    c.refuse_fault.ensures.1 ∙ wrote_alike old count now result read c.wrote-fed.ensures) c.self.invariant
