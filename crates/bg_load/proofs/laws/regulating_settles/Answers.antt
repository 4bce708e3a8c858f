use Rattle.bg_load.proofs.Settling.{regulating_settles}
use Rattle.bg_load.proofs.laws.regulating_settles.Goals as goal

pub returns : goal.returns
returns c = regulating_settles
