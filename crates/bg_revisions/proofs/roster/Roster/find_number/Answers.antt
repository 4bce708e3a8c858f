use Rattle.std.proofs.Common.{List, Some, get_or, sym, ap, ◌∙◌, subst, rules}
use Rattle.std.proofs.lemmas.List.Sorted.{answers_always}
use Rattle.bg_revisions.specs.declared.revision.Revision.{Revision}
use Rattle.bg_revisions.specs.Rosters.{Listing, AscendsWithin, numbered}
use Rattle.bg_revisions.proofs.Searched.{searched_there, searched_in_vain}
use Rattle.bg_revisions.proofs.roster.Roster.find_number.Goals as goal

pub returns-in-Ok : goal.returns-in-Ok
returns-in-Ok c =
    let slice = c.deref.result.now in
    let n = c.args.number in
    let ascends : AscendsWithin 0 c.self.inside.last slice = subst (AscendsWithin 0 c.self.inside.last) (sym c.deref.ensures.value) c.self.invariant.ascends in
    let by_number = c.in-Ok.ensures.position (λ v. v.number) (answers_always _ _ _ (λ f a r g called. search rules)) in
    let there = searched_there c.self.inside.last n c.in-Ok.place slice c.index.result.now ascends c.in-Ok.ensures.bound by_number in
    ap Some (c.index.ensures ∙ ap (λ (vs : List Revision). get_or vs c.in-Ok.place c.index.result.now) (sym c.deref.ensures.value))
    ∙ sym there ∙ ap (numbered n) c.deref.ensures.value ∙ ap (λ (l : Listing). numbered n l.revisions) c.self.view_is

pub returns-in-Err : goal.returns-in-Err
returns-in-Err c =
    let slice = c.deref.result.now in
    let n = c.args.number in
    let ascends : AscendsWithin 0 c.self.inside.last slice = subst (AscendsWithin 0 c.self.inside.last) (sym c.deref.ensures.value) c.self.invariant.ascends in
    let by_number = c.in-Err.ensures.position (λ v. v.number) (answers_always _ _ _ (λ f a r g called. search rules)) in
    sym (searched_in_vain c.self.inside.last n c.in-Err.field-0 slice ascends by_number) ∙ ap (numbered n) c.deref.ensures.value ∙ ap (λ (l : Listing). numbered n l.revisions) c.self.view_is
