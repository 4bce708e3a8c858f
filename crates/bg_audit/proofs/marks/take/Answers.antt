use Rattle.std.proofs.Common.{map, ap, ◌∙◌}
use Rattle.bg_audit.specs.Marked.{remarked}
use Rattle.bg_audit.proofs.Marking.{marks-taken}
use Rattle.bg_audit.proofs.marks.take.Goals as goal

pub returns : goal.returns
returns c = λ s o past around reach has.
    marks-taken s o c.args.entry.now past c.args.marks.now.items c.mark_all.new.marks.items reach
    (c.mark_all.ensures s past around ∙ ap (map (remarked s c.args.entry.now past)) c.in_ok-prepare.ensures) has
