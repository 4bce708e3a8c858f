use Rattle.std.proofs.Common.{◌≡◌, ◌++◌, None, take, drop, ap, sym, ◌∙◌, refl, rules, subst, take-append-drop}
use Rattle.bg_relay.specs.Relays.{BreaksOff, PassesOn}
use Rattle.bg_upload.proofs.OutgoingLemmas.{came_all, refused_on, taken_on}
use Rattle.bg_upload.proofs.outgoing_request.OutgoingRequest.pass_waiting.Goals as goal

pub invariant_of-self : goal.invariant_of-self
invariant_of-self c =
    let inside = c.self.inside in
    let s = c.self.invariant.1 in
    let none : inside.fault ≡ None = search rules in
    let waits = inside.waiting.items in
    let taken = c.in-Ok.taken in
    let left : c.drop-drain.new.self.0.items ≡ drop taken waits = search rules in
    let passes : PassesOn inside.relay c.feed.new.self (take taken waits) =
    subst (λ l. PassesOn inside.relay c.feed.new.self (take taken l)) c.deref.ensures.value c.in-Ok.ensures.stands in (
      c.self.invariant.0,
      taken_on _ c.feed.new.self inside.came.bytes (take taken waits) c.drop-drain.new.self.0.items s none
          (came_all _ waits s none refl
          ∙ ap (λ l. s.input ++ l) (sym (take-append-drop taken waits) ∙ ap (λ l. take taken waits ++ l) (sym left)))
          passes c.in-Ok.ensures.is_open c.in-Ok.ensures.sides,
    )

pub invariant_of-self-in-Err : goal.invariant_of-self-in-Err
invariant_of-self-in-Err c =
    let inside = c.self.inside in
    let s = c.self.invariant.1 in
    let none : inside.fault ≡ None = search rules in
    let waits = inside.waiting.items in (
      c.self.invariant.0,
      refused_on _ c.feed.new.self inside.came.bytes waits c.in-Err.fault s (came_all _ waits s none refl)
          (subst (λ l. BreaksOff inside.relay c.feed.new.self l c.in-Err.fault) c.deref.ensures.value (c.in-Err.ensures.refused (s.waits none).1)) c.in-Err.ensures.sides,
    )
