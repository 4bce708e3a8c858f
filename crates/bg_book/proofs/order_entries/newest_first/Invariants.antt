use Rattle.std.proofs.Common.{drop, take}
use Rattle.bg_history_laws.specs.Journaled.{journaled}
use Rattle.bg_book.proofs.OrderEntries.{Taken}
use Rattle.bg_book.proofs.order_entries.newest_first.Given as goal

abbrev pub invariant-loop-back : goal.invariant-loop-back
invariant-loop-back l =
    Taken l.entries.items l.count (journaled (drop l.back l.history.past)) (take l.count (journaled l.history.past))
