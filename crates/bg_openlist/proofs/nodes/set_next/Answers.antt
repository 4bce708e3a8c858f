use Rattle.std.proofs.Common.{refl}
use Rattle.std.proofs.lemmas.List.{map-set}
use Rattle.bg_openlist.proofs.Columns.{column_same}
use Rattle.bg_openlist.proofs.nodes.set_next.Goals as goal

pub returns-clause-nexts : goal.returns-clause-nexts
returns-clause-nexts g c = map-set (λ n. n.next.index) c.args.nodes.now.items c.args.at.index _

pub returns-clause-prevs : goal.returns-clause-prevs
returns-clause-prevs g c = column_same (λ n. n.prev.index) _ _ _ _ c.follow_mut.ensures.value refl

pub returns-clause-tags : goal.returns-clause-tags
returns-clause-tags g c = column_same (λ n. n.list) _ _ _ _ c.follow_mut.ensures.value refl

pub returns-clause-values : goal.returns-clause-values
returns-clause-values g c = column_same (λ n. n.value) _ _ _ _ c.follow_mut.ensures.value refl
