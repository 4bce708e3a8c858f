use Rattle.bg_journal.proofs.SupersededTicks.{pushed}
use Rattle.bg_journal.proofs.ticks.append_entries.Goals as goal

pub loop-entry-preserved : goal.loop-entry-preserved
loop-entry-preserved c = λ before is.
    pushed c.loop-entry.yielded c.in-Some.entry before c.loop-entry.entries.items c.push_entry.new.entries.items (c.loop-entry.invariant before is) c.in_ok-push_entry.ensures.pushed
