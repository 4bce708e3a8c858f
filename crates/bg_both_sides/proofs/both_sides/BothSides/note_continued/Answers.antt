use Rattle.std.proofs.Common.{◌∙◌}
use Rattle.bg_both_sides.proofs.ClientLemmas.{continued_alike, continued_at, fault_alike}
use Rattle.bg_both_sides.proofs.SoundLemmas.{sound_alike}
use Rattle.bg_both_sides.proofs.both_sides.BothSides.note_continued.Goals as goal

pub invariant_of-self : goal.invariant_of-self
invariant_of-self c =
    let old = c.self.inside.client in
    let read = c.note_continued-fed.new.self in
    let result = c.note_continued-fed.result in
    let new = c.refuse_fault.new.client in
    sound_alike old new c.self.inside.endpoint
    (fault_alike result c.args.now read c.refuse_fault.ensures.0 new
    (continued_at old result read c.note_continued-fed.ensures) c.refuse_fault.ensures.1
    ∙ continued_alike old result read c.note_continued-fed.ensures) c.self.invariant
