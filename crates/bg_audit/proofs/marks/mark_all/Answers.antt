use Rattle.std.proofs.Common.{◌∙◌, map, arith, ap}
use Rattle.std.proofs.lemmas.List.Edits.{map_over_more}
use Rattle.bg_audit.specs.Marked.{remarked}
use Rattle.bg_audit.proofs.Lists.{map-whole, take-written, get_or-any}
use Rattle.bg_audit.proofs.marks.mark_all.Goals as goal

pub loop-marked-preserved : goal.loop-marked-preserved
loop-marked-preserved c = λ s past around.
    rw (c.mark_one.ensures s past around)
    (map_over_more (remarked s c.args.entry.now past) _ _ c.loop-marked.marked-index _ c.loop-marked-test.true (c.loop-marked.invariant s past around)
    (get_or-any c.loop-marked.marked-items c.loop-marked.marked-index _ _ (omega arith)))

pub returns : goal.returns
returns c = λ s past around.
    take-written c.args.marks.now.items c.loop-marked.marked-items c.args.marks.now.len (omega arith) (omega arith)
    ∙ map-whole _ _ _ _ (c.loop-marked.invariant s past around) c.loop-marked-test.false
    ∙ ap (map (remarked s c.args.entry.now past)) c.deref_mut-marked-items.ensures.value
