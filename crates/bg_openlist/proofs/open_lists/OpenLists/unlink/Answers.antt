use Rattle.std.proofs.Common.{◌≡◌, map, set, sym, ap, ◌∙◌, arith, Some, None}
use mathlib.Core.Path.{subst}
use Rattle.bg_openlist.specs.Family.{places, without_node}
use Rattle.bg_openlist.specs.Nodes.{AllLinked}
use Rattle.bg_openlist.proofs.Callers.{linked_seen, others_stay, family_seen, value_seen}
use Rattle.bg_openlist.proofs.Cases.{none_some}
use Rattle.bg_openlist.proofs.Seen.{family}
use Rattle.bg_openlist.proofs.Unlink.{Parted, counted, holds_after, lists_after, low, places_after, within}
use Rattle.bg_openlist.proofs.open_lists.OpenLists.unlink.Given.{Over}
use Rattle.bg_openlist.proofs.open_lists.OpenLists.unlink.Goals.{After-detach-list}
use Rattle.bg_openlist.proofs.open_lists.OpenLists.unlink.Goals as goal

-- the effect of the calls on the block
parted : (g : Over) (c : After-detach-list g) → Parted c.self.invariant c.args.node c.detach-list.result.0 c.detach-list.new.nodes
parted g c =
    let w = linked_seen c.self.invariant c.self.view_is c.args.node c.requires in
    let d = c.detach-list.ensures in
    record {
      was = w;
      is_list = rw c.link_to-at.ensures.index at d.list ∙ w.tagged;
      linked = subst (λ s. AllLinked s c.detach-list.new.nodes) (sym c.shows.ensures) d.linked;
      len = d.block.1;
      near = rw c.link_to-at.ensures.index at d.near;
      next = rw c.link_to-at.ensures.index at d.nexts;
      prev = rw c.link_to-at.ensures.index at d.prevs;
      tag = d.tags;
      value = rw c.link_to-at.ensures.index at d.values;
    }

value_out : (g : Over) (c : After-detach-list g) → c.detach-list.result.1 ≡ Some (parted g c).was.value
value_out g c = rw c.link_to-at.ensures.index at c.detach-list.ensures.held ∙ (parted g c).was.held

pub overflow_add-node : goal.overflow_add-node
overflow_add-node g c = record { fits = omega (arith, within (linked_seen c.self.invariant c.self.view_is c.args.node c.requires), c.self.invariant.size) }

pub link_to-at-requires : goal.link_to-at-requires
link_to-at-requires g c = within (linked_seen c.self.invariant c.self.view_is c.args.node c.requires)

pub offset_bounds-self-inside-list : goal.offset_bounds-self-inside-list
offset_bounds-self-inside-list g c = record { fits = omega (arith, low (parted g c)) }

pub bounds-self-inside-list : goal.bounds-self-inside-list
bounds-self-inside-list g c = low (parted g (goal.at.bounds-self-inside-list g c).After-detach-list)

pub overflow_sub-self : goal.overflow_sub-self
overflow_sub-self g c = counted (parted g (goal.at.overflow_sub-self g c).After-detach-list)

pub bounds-self-inside-list-2 : goal.bounds-self-inside-list-2
bounds-self-inside-list-2 g c = low (parted g (goal.at.bounds-self-inside-list-2 g c).After-detach-list)

pub unreachable-requires : goal.unreachable-requires
unreachable-requires g c = none_some _ (sym c.in-None.is ∙ value_out g (goal.at.unreachable-requires g c).After-detach-list)

pub invariant_of-self : goal.invariant_of-self
invariant_of-self g c = holds_after (parted g (goal.at.invariant_of-self g c).After-detach-list)

pub returns-clause-value : goal.returns-clause-value
returns-clause-value g c =
    let here = (goal.at.returns-clause-value g c).After-detach-list in
    value_seen c.self.invariant c.self.view_is c.args.node (parted g here).was ∙ sym (value_out g here) ∙ c.in-Some.is

pub returns-clause-lists : goal.returns-clause-lists
returns-clause-lists g c =
    lists_after (parted g (goal.at.returns-clause-lists g c).After-detach-list) ∙ ap (λ f. map (without_node c.args.node) f.lists) c.self.view_is

pub returns-clause-others : goal.returns-clause-others
returns-clause-others g c = others_stay c.args.self.now _ c.args.node (family_seen c.self.invariant c.self.view_is) (returns-clause-lists g c)

pub returns-clause-places : goal.returns-clause-places
returns-clause-places g c =
    places_after (parted g (goal.at.returns-clause-places g c).After-detach-list) ∙ ap (λ f. set (places f) c.args.node None) c.self.view_is

pub returns-clause-family : goal.returns-clause-family
returns-clause-family g c = family (invariant_of-self g c)
