use Rattle.bg_scaledown.proofs.PastDue.{deadline-is_deadline}
use Rattle.bg_scaledown.proofs.laws.table_tells_deadlines.Goals as goal

pub returns : goal.returns
returns c s past r = deadline-is_deadline s r past
