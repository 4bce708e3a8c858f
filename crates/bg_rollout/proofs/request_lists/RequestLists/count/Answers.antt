use Rattle.std.proofs.Common.{◌==◌, find, length, sym, ap, ◌∙◌}
use Rattle.bg_rollout.specs.declared.request_lists.OwnList.{OwnList}
use Rattle.bg_rollout.specs.RequestLists.{requests_of, requests_in}
use Rattle.bg_rollout.proofs.Linked.{count_shown, find_shown, none_shown, holder_now}
use Rattle.bg_rollout.proofs.request_lists.RequestLists.count.Goals as goal

pub returns-in-Some : goal.returns-in-Some
returns-in-Some c =
    let f = c.self.inside.linked in
    let owned = c.self.inside.owned.items in
    c.len.ensures.len
    ∙ sym (count_shown f c.args.revision (find (λ (o : OwnList). o.revision == c.args.revision) owned) c.in-Some.list (holder_now c.args.revision _ _ _ c.deref.ensures.value (sym c.in-Some.ensures)))
    ∙ ap (λ o. length (requests_in o)) (sym (find_shown f c.args.revision owned))
    ∙ ap (λ ls. length (requests_of c.args.revision ls)) c.self.view_is

pub returns-in-None : goal.returns-in-None
returns-in-None c =
    let f = c.self.inside.linked in
    let owned = c.self.inside.owned.items in
    ap length (sym (none_shown f (find (λ (o : OwnList). o.revision == c.args.revision) owned) (holder_now c.args.revision _ _ _ c.deref.ensures.value (sym c.in-None.ensures))))
    ∙ ap (λ o. length (requests_in o)) (sym (find_shown f c.args.revision owned))
    ∙ ap (λ ls. length (requests_of c.args.revision ls)) c.self.view_is
