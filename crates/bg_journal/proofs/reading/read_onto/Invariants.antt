use Rattle.std.proofs.Common.{◌≡◌, true, ◌++◌, length}
use denote.Text.{Utf8}
use denote.Shadow.{shadow}
use Rattle.std.specs.List.{list_all}
use Rattle.bg_journal.specs.Texts.{entries_text, is_journaled}
use Rattle.bg_journal.proofs.reading.read_onto.Given as goal

abbrev pub invariant-loop-line : goal.invariant-loop-line
invariant-loop-line l = record {
  utf8 : shadow (Utf8 l.rest);
  text : entries_text l.entries.items ++ l.rest ≡ l.text;
  journaled : list_all is_journaled l.entries.items ≡ true;
}

abbrev pub decreases-loop-line : goal.decreases-loop-line
decreases-loop-line l = length l.rest
