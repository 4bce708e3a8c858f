use Rattle.std.proofs.Common.{◌≡◌, ◌≤◌, replicate, None}
use Rattle.std.specs.Vec.{vec_len}
use denote.Param.{param}
use Rattle.bg_openlist.specs.Nodes.{IsLoop, node_size, values}
use Rattle.bg_openlist.proofs.nodes.empty_nodes.Given as goal

abbrev pub invariant-loop : goal.invariant-loop
invariant-loop g l = (vec_len l.nodes ≡ l.counter) × (l.counter ≤ l.count) × (values l.nodes.items ≡ replicate l.counter None)

abbrev pub invariant-loop-index : goal.invariant-loop-index
invariant-loop-index g l = (vec_len l.nodes ≡ l.count) × IsLoop (node_size (param 0 g.row.T)) l.nodes l.index × (values l.nodes.items ≡ replicate l.count None)
