use Rattle.bg_history_laws.proofs.Compacted.Compacted.{settled-stays}
use Rattle.bg_history_laws.proofs.compaction.stays_settled.Goals as goal

pub returns : goal.returns
returns c = settled-stays
