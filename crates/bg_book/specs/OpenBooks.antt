-- A book together with its seats.
use Rattle.std.specs.Prelude.{List}
use Rattle.bg_ledger.specs.declared.holding.Holding.{Holding}
use Rattle.bg_rollout.specs.Routing.{Routing}

-- an open book and its seats
pub record OpenState : Type 0 where
  pub book : Routing
  pub seats : List Holding
