-- What contracts see of a book.
use Rattle.std.specs.Prelude.{ℕ, List}
use Rattle.bg_strategy.specs.declared.strategy.Strategy.{Strategy}
use Rattle.bg_history.specs.declared.entry.Entry.{Entry}
use Rattle.bg_history.specs.Kept.{Opening}
use Rattle.bg_rollout.specs.declared.limits.Limits.{Limits}
use Rattle.bg_ledger.specs.declared.holding.Holding.{Holding}
use Rattle.bg_rollout.specs.RequestLists.{OpenAt}
use Rattle.bg_rollout.specs.State.{State}

-- the settings, the history (opening, closed requests of each seat, entries newest first), the list of open requests
-- of each existing revision, the book's record of each seat, and the running state
pub record Routing : Type 0 where
  pub strategy : Strategy
  pub limits : Limits
  pub opening : Opening
  pub closed : List ℕ
  pub past : List Entry
  pub lists : List OpenAt
  pub seats : List Holding
  pub running : State
