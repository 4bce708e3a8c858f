use Rattle.bg_journal.proofs.Texts.{one_text}
use Rattle.bg_journal.proofs.laws.texts_differ.Goals as goal

pub returns : goal.returns
returns c = one_text
