-- The entries of an order: an event and its outcomes, with the outcomes of requests that left before it.
use Rattle.std.specs.Prelude.{ℕ, ◌+◌, List, [], ◌∷◌}
use Rattle.bg_history.specs.declared.entry.Entry.{Entry}
use Rattle.bg_history.specs.declared.entry.Entry.TheVariants.{Outcome}
use Rattle.bg_history_laws.specs.Journaled.{journaled}

-- how many outcomes stand before the first other entry
abbrev pub leading_outcomes : List Entry → ℕ
leading_outcomes [] = 0
leading_outcomes (Outcome x ∷ before) = leading_outcomes before + 1
leading_outcomes _ = 0

-- the number of outcomes since the newest event of a past
abbrev pub outcomes_since_event : List Entry → ℕ
outcomes_since_event past = leading_outcomes (journaled past)
