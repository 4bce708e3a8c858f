use Rattle.std.proofs.Common.{◌≡◌, ◌++◌, [], None, take, ap, sym, ◌∙◌, rules}
use Rattle.std.proofs.lemmas.List.{append-nil}
use Rattle.bg_upload.proofs.OutgoingLemmas.{came_all, refused_on, taken_on}
use Rattle.bg_upload.proofs.outgoing_request.OutgoingRequest.pass_fresh.Goals as goal

pub invariant_of-self : goal.invariant_of-self
invariant_of-self c =
    let inside = c.self.inside in
    let s = c.self.invariant.1 in
    let none : inside.fault ≡ None = search rules in
    let nothing : inside.waiting.items ≡ [] = search rules in
    let more = take c.in-Ok.taken c.args.bytes.now in
    let before : inside.came.bytes ≡ s.input = came_all _ [] s none nothing ∙ append-nil s.input in
    let came : c.add.new.self.bytes ≡ s.input ++ (more ++ inside.waiting.items) =
    c.add.ensures ∙ ap (λ l. l ++ more) before
    ∙ ap (λ l. s.input ++ l) (sym (append-nil more) ∙ ap (λ l. more ++ l) (sym nothing)) in (
      c.self.invariant.0,
      taken_on _ c.feed.new.self c.add.new.self.bytes more inside.waiting.items s none came c.in-Ok.ensures.stands c.in-Ok.ensures.is_open c.in-Ok.ensures.sides,
    )

pub invariant_of-self-in-Err : goal.invariant_of-self-in-Err
invariant_of-self-in-Err c =
    let inside = c.self.inside in
    let s = c.self.invariant.1 in
    let none : inside.fault ≡ None = search rules in
    let nothing : inside.waiting.items ≡ [] = search rules in
    let bytes = c.args.bytes.now in
    let came : c.add-in-Err.new.self.bytes ≡ s.input ++ bytes =
    c.add-in-Err.ensures ∙ ap (λ l. l ++ bytes) (came_all _ [] s none nothing ∙ append-nil s.input) in (
      c.self.invariant.0,
      refused_on _ c.feed.new.self c.add-in-Err.new.self.bytes bytes c.in-Err.fault s came (c.in-Err.ensures.refused (s.waits none).1) c.in-Err.ensures.sides,
    )
