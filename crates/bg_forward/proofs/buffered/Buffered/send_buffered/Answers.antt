use Rattle.std.proofs.Common.{refl, subst, take}
use Rattle.std.specs.Io.KnownBytes.{Appends}
use Rattle.bg_forward.proofs.HandedOn.{handed_on, not_handed_on}
use Rattle.bg_forward.proofs.buffered.Buffered.send_buffered.Goals as goal
use Rattle.bg_forward.proofs.buffered.Buffered.send_buffered.Goals.{in-Ok, in-Err+else-ne}

pub returns-in-Ok-eq0-clause-bytes : goal.returns-in-Ok-eq0-clause-bytes
returns-in-Ok-eq0-clause-bytes g c =
    let old = g.S.Write.contents c.loop.self.stream in
    let new = g.S.Write.contents c.write.new.self in
    let held = c.loop.self.held.items in
    let given = c.deref.result.now in
    let nothing = subst (λ n. Appends old new (take n given)) c.in-Ok-eq0.field-0-test
    c.in-Ok-eq0.ensures.bytes in
    handed_on _ old new held given held 0 c.loop.invariant c.deref.ensures.value nothing refl

pub loop-preserved : goal.loop-preserved
loop-preserved g c =
    let old = g.S.Write.contents c.loop.self.stream in
    let new = g.S.Write.contents c.write.new.self in
    let held = c.loop.self.held.items in
    let given = c.deref.result.now in
    let is = c.deref.ensures.value in
    elim c.match-write.branch [
      | in-Ok w ↦ rw w.self-is (handed_on _ old new held given _ w.in-Ok.count c.loop.invariant is
          w.in-Ok.ensures.bytes w.remove_front.ensures)
      | in-Err+else-ne w ↦ rw w.self-is (not_handed_on _ old new held c.loop.invariant
          w.in-Err.ensures.bytes)
    ]
