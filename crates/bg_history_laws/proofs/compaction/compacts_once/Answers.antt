use Rattle.bg_history_laws.proofs.Compacted.Compacted.{past-once}
use Rattle.bg_history_laws.proofs.Compacted.Raising.{closed-once}
use Rattle.bg_history_laws.proofs.compaction.compacts_once.Goals as goal

pub returns-clause-past : goal.returns-clause-past
returns-clause-past c = past-once

pub returns-clause-closed : goal.returns-clause-closed
returns-clause-closed c = closed-once
