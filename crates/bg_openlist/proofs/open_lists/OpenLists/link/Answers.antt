use Rattle.std.proofs.Common.{[], ◌∷◌, ◌++◌, get_or, set, sym, ap, ◌∙◌, arith, Some}
use mathlib.Core.Path.{subst}
use Rattle.std.proofs.lemmas.List.{get_or-set_other}
use Rattle.bg_openlist.specs.Family.{places}
use Rattle.bg_openlist.specs.Nodes.{AllLinked}
use Rattle.bg_openlist.proofs.Callers.{not_linked}
use Rattle.bg_openlist.proofs.Cases.{none_some}
use Rattle.bg_openlist.proofs.Link.{Joined, holds_linked, lists_linked, places_linked, short}
use Rattle.bg_openlist.proofs.Seen.{family}
use Rattle.bg_openlist.proofs.open_lists.OpenLists.link.Given.{Over}
use Rattle.bg_openlist.proofs.open_lists.OpenLists.link.Goals.{After-attach-held}
use Rattle.bg_openlist.proofs.open_lists.OpenLists.link.Goals as goal

-- the effect of the calls on the block
joined : (g : Over) (c : After-attach-held g) → Joined c.self.invariant c.args.list c.args.node c.args.value c.attach-held.new.nodes
joined g c =
    let d = c.attach-held.ensures in
    record {
      low = c.requires.list;
      within = omega (arith, c.requires.node, ap (λ f. f.nodes) c.self.view_is);
      free = not_linked c.self.invariant c.self.view_is c.args.node c.requires.free;
      linked = subst (λ s. AllLinked s c.attach-held.new.nodes) (sym c.shows.ensures) d.linked;
      len = d.block.1;
      near = rw c.link_to-head.ensures.index at d.near;
      next = rw (c.link_to-head.ensures.index, c.link_to-at.ensures.index) at d.nexts;
      prev = rw (c.link_to-head.ensures.index, c.link_to-at.ensures.index) at d.prevs;
      tag = rw c.link_to-at.ensures.index at d.tags;
      value = rw c.link_to-at.ensures.index at d.values;
    }

pub overflow_add-self : goal.overflow_add-self
overflow_add-self g c = record { fits = omega (arith, short (joined g (goal.at.overflow_add-self g c).After-attach-held), c.self.invariant.size) }

pub unreachable-requires : goal.unreachable-requires
unreachable-requires g c =
    let free = (joined g (goal.at.unreachable-requires g c).After-attach-held).free in
    none_some _ (sym (rw c.link_to-at.ensures.index at c.attach-held.ensures.held ∙ free) ∙ c.in-Some.is)

pub invariant_of-self : goal.invariant_of-self
invariant_of-self g c = holds_linked (joined g (goal.at.invariant_of-self g c).After-attach-held)

pub returns-clause-lists : goal.returns-clause-lists
returns-clause-lists g c =
    lists_linked (joined g (goal.at.returns-clause-lists g c).After-attach-held)
    ∙ ap (λ f. set f.lists c.args.list (get_or f.lists c.args.list [] ++ (c.args.node, c.args.value) ∷ [])) c.self.view_is

pub returns-clause-others : goal.returns-clause-others
returns-clause-others g c l other = ap (λ ls. get_or ls l []) (returns-clause-lists g c) ∙ get_or-set_other c.args.self.now.lists c.args.list l _ [] other

pub returns-clause-places : goal.returns-clause-places
returns-clause-places g c =
    places_linked (joined g (goal.at.returns-clause-places g c).After-attach-held)
    ∙ ap (λ f. set (places f) c.args.node (Some (c.args.list, c.args.value))) c.self.view_is

pub returns-clause-family : goal.returns-clause-family
returns-clause-family g c = family (invariant_of-self g c)
