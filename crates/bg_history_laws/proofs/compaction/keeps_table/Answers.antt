use Rattle.bg_history_laws.proofs.Compacted.Tables.{table-same}
use Rattle.bg_history_laws.proofs.compaction.keeps_table.Goals as goal

pub returns : goal.returns
returns c = table-same
