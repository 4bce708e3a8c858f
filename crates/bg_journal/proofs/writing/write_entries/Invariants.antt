use Rattle.std.proofs.Common.{◌≡◌, take, true}
use Rattle.std.specs.List.{list_all}
use Rattle.std.specs.Io.KnownBytes.{Appends}
use Rattle.bg_journal.specs.Texts.{entries_text, is_journaled}
use Rattle.bg_journal.proofs.writing.write_entries.Given as goal

abbrev pub invariant-loop-place : goal.invariant-loop-place
invariant-loop-place g l = record {
  text : Appends (g.W.Write.contents l.initial.writer) (g.W.Write.contents l.writer) (entries_text (take l.place l.entries));
  journaled : list_all is_journaled (take l.place l.entries) ≡ true;
}
