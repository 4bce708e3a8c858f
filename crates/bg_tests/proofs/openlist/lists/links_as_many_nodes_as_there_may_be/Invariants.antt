use Rattle.std.proofs.Common.{◌≡◌}
use Rattle.bg_tests.proofs.openlist.lists.links_as_many_nodes_as_there_may_be.Given as goal

abbrev pub invariant-loop-node : goal.invariant-loop-node
invariant-loop-node g l = l.lists.nodes ≡ 2048
