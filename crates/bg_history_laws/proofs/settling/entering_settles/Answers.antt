use Rattle.bg_history_laws.proofs.Ended.Entering.{entering-settles}
use Rattle.bg_history_laws.proofs.settling.entering_settles.Goals as goal

pub returns : goal.returns
returns c = entering-settles
