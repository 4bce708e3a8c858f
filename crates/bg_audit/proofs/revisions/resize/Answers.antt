use Rattle.std.proofs.Common.{◌∙◌, map, arith, ap}
use Rattle.std.proofs.lemmas.List.Edits.{map_over_more}
use Rattle.bg_revisions.specs.Rosters.{resized}
use Rattle.bg_audit.proofs.Lists.{map-whole, take-written}
use Rattle.bg_audit.proofs.revisions.resize.Goals as goal

pub loop-revision-preserved : goal.loop-revision-preserved
loop-revision-preserved c =
    rw (c.resize_one.ensures, ← c.revision-item.is)
    (map_over_more (resized c.args.number c.args.desired) _ _ c.loop-revision.revision-index c.revision-item.result c.loop-revision-test.true c.loop-revision.invariant c.revision-item.is)

pub returns : goal.returns
returns c =
    take-written c.args.revisions.now.items c.loop-revision.revision-items c.args.revisions.now.len (omega arith) (omega arith)
    ∙ map-whole _ _ _ _ c.loop-revision.invariant c.loop-revision-test.false ∙ ap (map (resized c.args.number c.args.desired)) c.deref_mut-revision-items.ensures.value
