use Rattle.bg_history_laws.proofs.Ended.Removing.{oldest-is_removed}
use Rattle.bg_history_laws.proofs.settling.oldest_is_removed.Goals as goal

pub returns : goal.returns
returns c = oldest-is_removed
