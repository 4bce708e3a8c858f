use Rattle.std.proofs.Common.{◌≡◌, ◌++◌, ◌∷◌, [], List, sym, ap, subst, ◌∙◌, arith}
use Rattle.std.specs.Vec.{vec_capacity}
use Rattle.bg_rollout.specs.declared.request_lists.OwnList.{OwnList}
use Rattle.bg_rollout.specs.RequestLists.{OwnsLists}
use Rattle.bg_rollout.proofs.Linked.{holds_first}
use Rattle.bg_rollout.proofs.request_lists.RequestLists.new.Goals as goal

pub invariant_of-result : goal.invariant_of-result
invariant_of-result c =
    let first : OwnList = record { revision = 1; list = 0 } in
    let items : c.push_reserved.new.self.items ≡ first ∷ [] = c.push_reserved.ensures.items ∙ ap (λ (os : List OwnList). os ++ first ∷ []) c.in_ok-owned.ensures.items in
    subst (λ (os : List OwnList). OwnsLists os (vec_capacity c.push_reserved.new.self) c.in_ok-linked.linked) (sym items)
    (holds_first (vec_capacity c.push_reserved.new.self) c.in_ok-linked.linked (omega (arith, c.push_reserved.ensures.capacity, c.in_ok-owned.ensures.exact)) c.in_ok-linked.ensures.empty c.in_ok-linked.ensures.family)
