use Rattle.bg_history_laws.proofs.Compacted.Compacted.{compacts}
use Rattle.bg_history_laws.proofs.compaction.compacts.Goals as goal

pub returns : goal.returns
returns c = compacts
