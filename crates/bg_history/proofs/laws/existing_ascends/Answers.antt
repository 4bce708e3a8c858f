use Rattle.bg_history.proofs.Ascending.{existing-ascends}
use Rattle.bg_history.proofs.laws.existing_ascends.Goals as goal

pub returns : goal.returns
returns c = existing-ascends
