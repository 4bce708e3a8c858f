use Rattle.bg_journal.proofs.Texts.{one_line}
use Rattle.bg_journal.proofs.laws.lines_differ.Goals as goal

pub returns : goal.returns
returns c = one_line
