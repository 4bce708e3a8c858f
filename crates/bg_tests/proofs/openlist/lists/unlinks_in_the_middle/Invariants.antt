use Rattle.std.proofs.Common.{◌≡◌}
use Rattle.bg_tests.proofs.openlist.lists.unlinks_in_the_middle.Given as goal

abbrev pub invariant-loop-node : goal.invariant-loop-node
invariant-loop-node g l = l.lists.nodes ≡ 4
