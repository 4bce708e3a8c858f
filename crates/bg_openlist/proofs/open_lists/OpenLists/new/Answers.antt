use Rattle.std.proofs.Common.{◌+◌, sym, ap, ◌∙◌}
use mathlib.Core.Path.{subst}
use Rattle.bg_openlist.specs.Block.{HoldsLists, family_of}
use Rattle.bg_openlist.specs.Nodes.{IsLoop}
use Rattle.bg_openlist.specs.Family.{places}
use Rattle.bg_openlist.proofs.New.{IsUnused, all_free, holds_new, family_new}
use Rattle.bg_openlist.proofs.Seen.{family}
use Rattle.bg_openlist.proofs.open_lists.OpenLists.new.Given.{Over}
use Rattle.bg_openlist.proofs.open_lists.OpenLists.new.Goals.{After-new}
use Rattle.bg_openlist.proofs.open_lists.OpenLists.new.Goals as goal

unused : (g : Over) (c : After-new g) → IsUnused c.new.result.bytes c.in_ok-nodes.nodes c.args.nodes
unused g c =
    let h = c.in_ok-nodes.ensures in
    record {
      long = h.0;
      room = c.requires;
      loops = subst (λ s. IsLoop s c.in_ok-nodes.nodes (64 + c.args.nodes)) (sym c.new.ensures) h.1;
      none = h.2;
    }

pub invariant_of-result : goal.invariant_of-result
invariant_of-result g c = subst (HoldsLists c.new.result.bytes c.in_ok-nodes.nodes) (sym c.no_lengths.ensures) (holds_new (unused g c))

pub returns-clause-empty : goal.returns-clause-empty
returns-clause-empty g c = ap (family_of c.in_ok-nodes.nodes) c.no_lengths.ensures ∙ family_new (unused g c)

pub returns-clause-places : goal.returns-clause-places
returns-clause-places g c = ap places (returns-clause-empty g c) ∙ all_free c.args.nodes

pub returns-clause-family : goal.returns-clause-family
returns-clause-family g c = family (invariant_of-result g c)
