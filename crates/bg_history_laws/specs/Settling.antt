-- The past after an event.
use Rattle.std.specs.Prelude.{List}
use Rattle.bg_history.specs.declared.entry.Entry.{Entry}
use Rattle.bg_history.specs.declared.entry.Outcome.{Outcome}
use Rattle.bg_strategy.specs.declared.strategy.Strategy.{Strategy}
use Rattle.bg_history.specs.Steps.{Step}

-- the outcomes that the event allows, and the settled past after them
pub record Settling (s : Strategy) (e : Entry) (past : List Entry) : Type 0 where
  pub outcomes : List Outcome
  pub new : List Entry
  pub step : Step s e past outcomes new
