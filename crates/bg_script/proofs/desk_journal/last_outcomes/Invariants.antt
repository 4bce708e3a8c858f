use Rattle.std.proofs.Common.{◌≡◌, ◌≤◌, reverse, take}
use Rattle.bg_book.specs.OrderEntries.{leading_outcomes}
use Rattle.bg_script.proofs.desk_journal.last_outcomes.Given as goal

abbrev pub invariant-loop-entry : goal.invariant-loop-entry
invariant-loop-entry l = record {
  counted : l.outcomes ≡ leading_outcomes (reverse (take l.entry-index l.entries));
  few : l.outcomes ≤ l.entry-index;
}
