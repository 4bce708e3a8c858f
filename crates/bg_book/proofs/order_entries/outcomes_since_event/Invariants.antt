use Rattle.std.proofs.Common.{◌≡◌, ◌+◌, ◌≤◌, drop}
use Rattle.bg_history_laws.specs.Journaled.{journaled}
use Rattle.bg_book.specs.OrderEntries.{leading_outcomes, outcomes_since_event}
use Rattle.bg_book.proofs.order_entries.outcomes_since_event.Given as goal

abbrev pub invariant-loop-back : goal.invariant-loop-back
invariant-loop-back l =
    (l.outcomes + leading_outcomes (journaled (drop l.back l.history.past)) ≡ outcomes_since_event l.history.past)
    × (l.outcomes ≤ l.back)
