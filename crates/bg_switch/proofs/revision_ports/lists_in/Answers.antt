use Rattle.std.proofs.Common.{◌≡◌, ◌<◌, [], ◌∷◌, ◌++◌, length, arith, Some, None, slice_get, option_copied, sym, ap, ◌∙◌, subst}
use Rattle.std.proofs.lemmas.List.{length-map}
use Rattle.bg_switch.specs.RevisionLists.{ports_in_use, revisions_of, shown_lists}
use Rattle.bg_switch.proofs.RevisionLists.{adds_next, has_revision}
use Rattle.bg_switch.proofs.revision_ports.lists_in.Goals as goal
use Rattle.bg_switch.proofs.revision_ports.lists_in.Goals.{in-Some+in_ok-add_if_in_use, in_default}

pub loop-place-preserved : goal.loop-place-preserved
loop-place-preserved g c =
    let b = c.args.book.now in
    let xs = revisions_of b in
    let place = c.loop-place.place in
    elim c.match-revision.branch [
      | in-Some+in_ok-add_if_in_use w ↦
          let revision = w.in-Some.revision.now in
          let here : slice_get xs place ≡ Some revision = sym c.revision.ensures.running ∙ ap option_copied w.in-Some.is in
          let added : shown_lists c.match-revision.lists ≡ shown_lists c.loop-place.lists ++ ports_in_use b (revision ∷ []) =
          subst (λ l. shown_lists l ≡ shown_lists c.loop-place.lists ++ ports_in_use b (revision ∷ [])) (sym w.lists-is) w.in_ok-add_if_in_use.ensures in
          adds_next b xs place revision _ _ here c.loop-place.invariant added
      | in_default w ↦
          let none : slice_get xs place ≡ None = sym c.revision.ensures.running ∙ ap option_copied w.in_default.is in
          let within : place < length xs = omega (arith, c.loop-place-test.true, c.count-place-end.ensures.running, length-map b.running.revisions (λ v. v.revision)) in
          absurd (has_revision xs place within none)
    ]
