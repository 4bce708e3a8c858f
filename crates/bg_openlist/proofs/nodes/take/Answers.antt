use Rattle.std.proofs.Common.{ap, set, refl, ◌∙◌}
use Rattle.std.proofs.lemmas.List.{map-set}
use Rattle.bg_openlist.specs.Nodes.{values}
use Rattle.bg_openlist.proofs.Columns.{column_same}
use Rattle.bg_openlist.proofs.nodes.take.Goals as goal

pub returns-clause-nexts : goal.returns-clause-nexts
returns-clause-nexts g c = column_same (λ n. n.next.index) _ _ _ _ c.follow_mut.ensures.value refl

pub returns-clause-prevs : goal.returns-clause-prevs
returns-clause-prevs g c = column_same (λ n. n.prev.index) _ _ _ _ c.follow_mut.ensures.value refl

pub returns-clause-tags : goal.returns-clause-tags
returns-clause-tags g c = column_same (λ n. n.list) _ _ _ _ c.follow_mut.ensures.value refl

pub returns-clause-values : goal.returns-clause-values
returns-clause-values g c =
    map-set (λ n. n.value) c.args.nodes.now.items c.args.at.index _ ∙ ap (λ v. set (values c.args.nodes.now.items) c.args.at.index v) c.take.ensures.after
