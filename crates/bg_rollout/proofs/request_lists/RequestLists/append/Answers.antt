use Rattle.std.proofs.Common.{◌≡◌, ◌≢◌, ◌<◌, ◌==◌, ◌++◌, ◌∷◌, [], ℕ, find, IsSome, sym, ap, subst, ◌∙◌}
use Rattle.bg_openlist.specs.Family.{list_at}
use Rattle.bg_rollout.specs.declared.request_lists.OwnList.{OwnList}
use Rattle.bg_rollout.specs.RequestLists.{OpenAt, changed, has_request, is_owned}
use Rattle.bg_rollout.proofs.Linked.{find_shown, found_is_below, found_is_owned, free_node, holds_linked, list_with, holder_found, holder_now, holder_of, shown_changed}
use Rattle.bg_rollout.proofs.request_lists.RequestLists.append.Goals as goal

pub unwrap-list-requires : goal.unwrap-list-requires
unwrap-list-requires c =
    let f = c.self.inside.linked in
    let owned = c.self.inside.owned.items in
    let there : IsSome (find (λ (l : OpenAt). l.revision == c.args.revision) c.args.self.now) = c.requires.revision in
    subst IsSome (holder_now c.args.revision _ _ _ c.deref.ensures.value (sym c.own_list.ensures))
    (holder_of f (find (λ (o : OwnList). o.revision == c.args.revision) owned)
    (subst IsSome (sym (ap (find (λ (l : OpenAt). l.revision == c.args.revision)) c.self.view_is) ∙ find_shown f c.args.revision owned) there))

pub link-requires-clause-list : goal.link-requires-clause-list
link-requires-clause-list c =
    let own = holder_found c.args.revision c.unwrap-list.result c.self.inside.owned.items (holder_now c.args.revision _ _ _ c.deref.ensures.value (sym c.own_list.ensures ∙ c.unwrap-list.ensures)) in
    subst (λ (l : ℕ). l < 64) own.list_is (found_is_below c.args.revision c.self.inside.owned.items own.own own.found c.self.invariant.below)

pub link-requires-clause-free : goal.link-requires-clause-free
link-requires-clause-free c =
    free_node c.self.inside.owned.items _ c.self.inside.linked c.args.request.seat c.self.invariant (ap (has_request c.args.request.seat) c.self.view_is ∙ c.requires.free)

pub invariant_of-self : goal.invariant_of-self
invariant_of-self c =
    let own = holder_found c.args.revision c.unwrap-list.result c.self.inside.owned.items (holder_now c.args.revision _ _ _ c.deref.ensures.value (sym c.own_list.ensures ∙ c.unwrap-list.ensures)) in
    holds_linked c.self.inside.owned.items _ c.self.inside.linked c.link.new.self c.unwrap-list.result c.self.invariant
    (ap (λ (l : ℕ). is_owned l c.self.inside.owned.items) (sym own.list_is) ∙ found_is_owned c.args.revision c.self.inside.owned.items own.own own.found)
    c.link.ensures.others c.link.ensures.nodes c.link.ensures.family

pub returns : goal.returns
returns c =
    let f = c.self.inside.linked in
    let owned = c.self.inside.owned.items in
    let own = holder_found c.args.revision c.unwrap-list.result owned (holder_now c.args.revision _ _ _ c.deref.ensures.value (sym c.own_list.ensures ∙ c.unwrap-list.ensures)) in
    let low : c.unwrap-list.result < 64 = subst (λ (l : ℕ). l < 64) own.list_is (found_is_below c.args.revision owned own.own own.found c.self.invariant.below) in
    let at : list_at c.link.new.self c.unwrap-list.result ≡ list_at f c.unwrap-list.result ++ (c.args.request.seat, c.args.request.number) ∷ [] =
    list_with f c.link.new.self c.unwrap-list.result _ c.self.invariant.family low c.link.ensures.lists in
    shown_changed f c.link.new.self c.args.revision owned own.own (c.args.request.seat, c.args.request.number) c.self.invariant.distinct own.found
    (subst (λ (l : ℕ). list_at c.link.new.self l ≡ list_at f l ++ (c.args.request.seat, c.args.request.number) ∷ []) (sym own.list_is) at)
    (subst (λ (l : ℕ). (k : ℕ) → k ≢ l → list_at c.link.new.self k ≡ list_at f k) (sym own.list_is) c.link.ensures.others)
    ∙ ap (changed c.args.revision (λ requests. requests ++ c.args.request ∷ [])) c.self.view_is
