use Rattle.std.proofs.Common.{◌≡◌, ◌==◌, not, filter, map, List, rules, sym, ap, subst, ◌∙◌, arith}
use Rattle.std.specs.Vec.{vec_capacity}
use Rattle.std.proofs.lemmas.Fn.{filter_same}
use Rattle.bg_rollout.specs.declared.request_lists.OwnList.{OwnList}
use Rattle.bg_rollout.specs.RequestLists.{OpenAt, OwnsLists, is_empty_at, shown_at}
use Rattle.bg_rollout.proofs.Linked.{holds_dropped, shown_kept}
use Rattle.bg_rollout.proofs.request_lists.RequestLists.drop_list.Goals as goal
use Rattle.bg_rollout.proofs.request_lists.RequestLists.drop_list.Goals.{After-retain}

kept : (c : After-retain) → c.retain.new.self.items ≡ filter (λ (o : OwnList). not (o.revision == c.args.revision)) c.self.inside.owned.items
kept c = filter_same _ (λ (o : OwnList). not (o.revision == c.args.revision)) _ (λ x b f' k. search rules) _ _ c.retain.ensures.filtered

pub invariant_of-self : goal.invariant_of-self
invariant_of-self c =
    subst (λ (owned : List OwnList). OwnsLists owned (vec_capacity c.retain.new.self) c.self.inside.linked) (sym (kept c))
    (holds_dropped c.self.inside.owned.items (vec_capacity c.self.inside.owned) (vec_capacity c.retain.new.self) c.self.inside.linked c.args.revision c.self.invariant (omega (arith, c.retain.ensures.capacity)) (ap (is_empty_at c.args.revision) c.self.view_is ∙ c.requires))

pub returns : goal.returns
returns c =
    ap (λ owned. map (shown_at c.self.inside.linked) owned) (kept c)
    ∙ shown_kept c.self.inside.linked c.args.revision c.self.inside.owned.items
    ∙ ap (λ ls. filter (λ (l : OpenAt). not (l.revision == c.args.revision)) ls) c.self.view_is
