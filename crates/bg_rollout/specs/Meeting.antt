-- What a book and a seat say of each other.
use Rattle.std.specs.Prelude.{◌≡◌, ◌<◌, ℕ, IsTrue, List, [], slice_get, Contains, Option, Some, None}
use Rattle.bg_ledger.specs.declared.holding.Holding.{Holding}
use Rattle.bg_history.specs.Kept.{Template}
use Rattle.bg_history.specs.Sizes.{is_scaled}
use Rattle.bg_history.specs.Templates.{template}
use Rattle.bg_rollout.specs.RequestLists.{requests_of}
use Rattle.bg_rollout.specs.PastState.{seat_of}
use Rattle.bg_rollout.specs.Routing.{Routing}

-- the ports of a template
abbrev pub ports_in : Option Template → List ℕ
ports_in None = []
ports_in (Some t) = t.ports

-- The book's record of the seat equals the seat, and the history says the same: the number of its answered calls, and
-- the request that it holds. That request's revision is scaled, its list has the request, and the request's port is
-- one of its ports.
pub record Meets (b : Routing) (seat : Holding) : Type 0 where
  pub known : slice_get b.seats seat.index ≡ Some seat
  pub said : seat_of b.closed seat.index b.past ≡ seat
  pub scaled : 0 < seat.number → IsTrue (is_scaled b.strategy seat.revision b.past)
  pub listed : 0 < seat.number → Contains
      (requests_of seat.revision b.lists) (record { seat = seat.index; number = seat.number })
  pub port : 0 < seat.number → Contains
      (ports_in (template b.opening seat.revision b.past)) seat.port
