use Rattle.bg_audit.proofs.Marking.{remarked-Some, remarked-None}
use Rattle.bg_audit.proofs.marks.mark_one.Goals as goal

pub returns-in-Some : goal.returns-in-Some
returns-in-Some c = λ s past around.
    remarked-Some s c.args.entry.now past c.args.marked.now c.in-Some.kind _ _ c.kind_of.result (c.kind_of.ensures s past around) c.in-Some.is around.after_is.moment_is around.position_is

pub returns-in_default : goal.returns-in_default
returns-in_default c = λ s past around. remarked-None s c.args.entry.now past c.args.marked.now c.kind_of.result (c.kind_of.ensures s past around) c.in_default.is
