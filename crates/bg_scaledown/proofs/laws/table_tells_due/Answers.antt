use Rattle.bg_scaledown.proofs.PastDue.{due-is_due}
use Rattle.bg_scaledown.proofs.laws.table_tells_due.Goals as goal

pub returns : goal.returns
returns c s past r invariant = due-is_due s r past invariant (c.existing_ascends.ensures past)
