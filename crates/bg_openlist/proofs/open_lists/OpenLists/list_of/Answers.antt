use Rattle.std.proofs.Common.{arith, ◌∙◌}
use Rattle.bg_openlist.proofs.Callers.{family_seen, free_seen, list_seen}
use Rattle.bg_openlist.proofs.open_lists.OpenLists.list_of.Goals as goal

pub returns-then-node-len-clause-list : goal.returns-then-node-len-clause-list
returns-then-node-len-clause-list g c = free_seen c.self.invariant c.self.view_is c.args.node (omega (arith, c.if-node-len.true, c.len.ensures))

pub returns-then-node-len-clause-family : goal.returns-then-node-len-clause-family
returns-then-node-len-clause-family g c = family_seen c.self.invariant c.self.view_is

pub returns-clause-list : goal.returns-clause-list
returns-clause-list g c = c.list_borne.ensures ∙ list_seen c.self.invariant c.self.view_is c.args.node

pub returns-clause-family : goal.returns-clause-family
returns-clause-family g c = family_seen c.self.invariant c.self.view_is
