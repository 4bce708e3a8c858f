use Rattle.std.proofs.Common.{arith}
use Rattle.std.proofs.lemmas.Grind.{common_steps}
use Rattle.bg_scaledown.proofs.PastDue.{deadline-by_past}
use Rattle.bg_scaledown.proofs.deadlines.Deadlines.deadline.Goals as goal

pub returns-then-mark-revision-clause-past : goal.returns-then-mark-revision-clause-past
returns-then-mark-revision-clause-past c s past kept =
    deadline-by_past s c.args.revision past c.args.self.now _ kept (grind (arith, common_steps))

pub returns-clause-past : goal.returns-clause-past
returns-clause-past c s past kept =
    deadline-by_past s c.args.revision past c.args.self.now _ kept (grind (arith, common_steps))
