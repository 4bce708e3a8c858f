use Rattle.std.proofs.Common.{◌≡◌, map, take, string_bytes}
use Rattle.bg_journal_store.specs.Journal.{shown_text}
use Rattle.bg_journal_store.proofs.reading.texts_of.Given as goal

abbrev pub invariant-loop-row : goal.invariant-loop-row
invariant-loop-row l = map string_bytes l.texts.items ≡ map shown_text (take l.row-index l.rows)
