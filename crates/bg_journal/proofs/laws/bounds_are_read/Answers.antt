use Rattle.bg_journal.proofs.Bounds.{bound_is_read}
use Rattle.bg_journal.proofs.laws.bounds_are_read.Goals as goal

pub returns : goal.returns
returns c = bound_is_read
