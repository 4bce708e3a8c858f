use Rattle.std.proofs.Common.{◌≡◌, List, false, sym, ap, subst, ◌∙◌, arith}
use Rattle.std.specs.Vec.{vec_capacity}
use Rattle.bg_rollout.specs.declared.request_lists.OwnList.{OwnList}
use Rattle.bg_rollout.specs.RequestLists.{OwnsLists, is_owned}
use Rattle.bg_rollout.proofs.Linked.{holds_added}
use Rattle.bg_rollout.proofs.request_lists.RequestLists.add.Goals as goal

pub invariant_of-self : goal.invariant_of-self
invariant_of-self c =
    let owned = c.self.inside.owned.items in
    let own : OwnList = record { revision = c.args.revision; list = c.unowned-list.result } in
    let free : is_owned c.unowned-list.result owned ≡ false = ap (is_owned c.unowned-list.result) (sym c.deref.ensures.value) ∙ c.unowned-list.ensures.free in
    subst (λ (os : List OwnList). OwnsLists os (vec_capacity c.push_reserved.new.self) c.self.inside.linked) (sym c.push_reserved.ensures.items)
    (holds_added owned (vec_capacity c.self.inside.owned) (vec_capacity c.push_reserved.new.self) c.self.inside.linked own c.self.invariant (omega (arith, c.push_reserved.ensures.capacity)) c.unowned-list.ensures.below free)
