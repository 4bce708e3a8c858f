use Rattle.bg_history_laws.proofs.Ended.Work.{work-falls}
use Rattle.bg_history_laws.proofs.settling.work_falls.Goals as goal

pub returns : goal.returns
returns c s past x first = work-falls s past x (c.existing_ascends.ensures past) first
