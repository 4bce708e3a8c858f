use Rattle.std.proofs.Common.{◌+◌, refl}
use mathlib.Core.Path.{subst, sym}
use denote.Param.{param}
use Rattle.std_alloc.specs.Vec.{with_item}
use Rattle.bg_openlist.specs.Nodes.{IsLoop, node_size}
use Rattle.bg_openlist.proofs.Columns.{column_same}
use Rattle.bg_openlist.proofs.Loops.{loop_more}
use Rattle.bg_openlist.proofs.nodes.close.Goals as goal

pub returns-clause-loops : goal.returns-clause-loops
returns-clause-loops g c =
    let s = node_size (param 0 g.row.T) in let at = c.link_to-at.result in let is = c.link_to-at.ensures in
    let m = record c.follow_mut-node.result.now { prev = at; next = at } in
    let more = loop_more s c.args.nodes.now at.index m is.at.0 is.at is.at refl refl (subst (λ i. IsLoop s c.args.nodes.now i) (sym is.index) c.requires.loops) in
    subst (λ i. IsLoop s (with_item c.args.nodes.now at.index m) (i + 1)) is.index more

pub returns-clause-values : goal.returns-clause-values
returns-clause-values g c = column_same (λ n. n.value) _ _ _ _ c.follow_mut-node.ensures.value refl
