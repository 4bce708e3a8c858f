use Rattle.bg_journal.proofs.Utf8.{text_is_utf8}
use Rattle.bg_journal.proofs.laws.texts_are_utf8.Goals as goal

pub returns : goal.returns
returns c = text_is_utf8
