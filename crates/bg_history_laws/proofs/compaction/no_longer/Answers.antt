use Rattle.bg_history_laws.proofs.Compacted.Lengths.{compacted-length}
use Rattle.bg_history_laws.proofs.compaction.no_longer.Goals as goal

pub returns : goal.returns
returns c = compacted-length
