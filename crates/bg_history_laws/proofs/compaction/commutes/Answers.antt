use Rattle.bg_history_laws.proofs.Compacted.Compacted.{commutes}
use Rattle.bg_history_laws.proofs.compaction.commutes.Goals as goal

pub returns : goal.returns
returns c = commutes
