use Rattle.bg_history_laws.proofs.Reached.Reaching.{reaching}
use Rattle.bg_history_laws.proofs.facts.reachable.Goals as goal

pub returns : goal.returns
returns c = reaching c.existing_ascends.ensures
