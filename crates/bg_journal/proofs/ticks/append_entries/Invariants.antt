use Rattle.std.proofs.Common.{◌≡◌, ◌++◌, List, reverse}
use Rattle.bg_history.specs.declared.entry.Entry.{Entry as SomeEntry}
use Rattle.bg_history.specs.Compacted.{thin}
use Rattle.bg_journal.proofs.ticks.append_entries.Given as goal

abbrev pub invariant-loop-entry : goal.invariant-loop-entry
invariant-loop-entry l =
    (before : List SomeEntry) → reverse l.initial.entries.items ≡ thin before → reverse l.entries.items ≡ thin (reverse l.yielded ++ before)
