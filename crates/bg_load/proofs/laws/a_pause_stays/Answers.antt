use Rattle.bg_load.proofs.Running.{pause_stays}
use Rattle.bg_load.proofs.laws.a_pause_stays.Goals as goal

pub returns : goal.returns
returns c = pause_stays
