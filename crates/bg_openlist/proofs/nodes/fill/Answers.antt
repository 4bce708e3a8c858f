use Rattle.std.proofs.Common.{ap, set, ◌∙◌}
use Rattle.std.proofs.lemmas.List.{map-set}
use Rattle.bg_openlist.specs.Nodes.{values}
use Rattle.bg_openlist.proofs.nodes.fill.Goals as goal

pub returns-clause-nexts : goal.returns-clause-nexts
returns-clause-nexts g c = map-set (λ n. n.next.index) c.args.nodes.now.items c.args.at.index _

pub returns-clause-prevs : goal.returns-clause-prevs
returns-clause-prevs g c = map-set (λ n. n.prev.index) c.args.nodes.now.items c.args.at.index _

pub returns-clause-tags : goal.returns-clause-tags
returns-clause-tags g c = map-set (λ n. n.list) c.args.nodes.now.items c.args.at.index _

pub returns-clause-values : goal.returns-clause-values
returns-clause-values g c =
    map-set (λ n. n.value) c.args.nodes.now.items c.args.at.index _ ∙ ap (λ v. set (values c.args.nodes.now.items) c.args.at.index v) c.replace.ensures.after
