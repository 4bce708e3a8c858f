use Rattle.bg_history_laws.proofs.Ended.Leaving.{leaving-settles}
use Rattle.bg_history_laws.proofs.settling.leaving_settles.Goals as goal

pub returns : goal.returns
returns c = leaving-settles
