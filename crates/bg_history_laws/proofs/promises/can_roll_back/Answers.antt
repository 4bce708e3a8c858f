use Rattle.bg_history_laws.proofs.Promised.Rollbacks.{can-roll_back}
use Rattle.bg_history_laws.proofs.promises.can_roll_back.Goals as goal

pub returns : goal.returns
returns c = can-roll_back c.reachable.ensures
