use Rattle.bg_history_laws.proofs.Ended.Work.{work-bounded}
use Rattle.bg_history_laws.proofs.settling.work_is_bounded.Goals as goal

pub returns : goal.returns
returns c = work-bounded
