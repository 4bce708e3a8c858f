use Rattle.bg_journal.proofs.Bounds.{entries_say_none}
use Rattle.bg_journal.proofs.laws.entries_say_no_bound.Goals as goal

pub returns : goal.returns
returns c = entries_say_none
