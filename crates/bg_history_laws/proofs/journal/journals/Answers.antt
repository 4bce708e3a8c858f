use Rattle.bg_history_laws.proofs.Journaled.{journals}
use Rattle.bg_history_laws.proofs.journal.journals.Goals as goal

pub returns : goal.returns
returns c = journals
