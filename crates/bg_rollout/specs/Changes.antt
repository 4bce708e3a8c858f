-- The book after a call.
use Rattle.std.specs.Prelude.{◌≡◌, ℕ, List, ◌<◌, ◌∷◌, [], length, slice_get, Some, replicate}
use Rattle.bg_rollout.specs.declared.limits.Limits.{Limits}
use Rattle.bg_strategy.specs.declared.strategy.Strategy.{Strategy}
use Rattle.bg_revisions.specs.declared.revision.Service.{Service}
use Rattle.bg_revisions.specs.Rosters.{Listing}
use Rattle.bg_history.specs.declared.entry.Entry.{Entry}
use Rattle.bg_history.specs.declared.entry.Entry.TheVariants.{Enter}
use Rattle.bg_history.specs.declared.entry.Outcome.{Outcome}
use Rattle.bg_history.specs.Steps.{Step}
use Rattle.bg_rollout.specs.declared.ticket.Ticket.{Ticket}
use Rattle.bg_ledger.specs.declared.holding.Holding.{Holding}
use Rattle.bg_ledger.specs.Holdings.{fresh, after_enter}
use Rattle.bg_rollout.specs.PastState.{lists_of}
use Rattle.bg_rollout.specs.Routing.{Routing}
use Rattle.bg_rollout.specs.State.{state_of}

-- the new past is the past with this event and n outcomes; each was the first allowed one, and then none was allowed
pub record Stepped (s : Strategy) (e : Entry) (past new : List Entry) (n : ℕ) : Type 0 where
  pub outcomes : List Outcome
  pub step : Step s e past outcomes new
  pub count_is : length outcomes ≡ n

-- `count` seats in order of index, each without a call
pub record NewSeats (count : ℕ) (seats : List Holding) : Type 0 where
  pub count_is : length seats ≡ count
  pub each : (i : ℕ) → i < count → slice_get seats i ≡ Some (fresh i)

-- the roster of an opening: revision 1 alone, which wants its full size
abbrev pub first_listing : ℕ → List ℕ → List ℕ → Listing
first_listing replicas name ports = record {
  replicas = replicas;
  revisions = record { number = 1; name = name; ports = ports; desired = replicas; available = 0 }
      ∷ [];
  last = 1;
}

-- a book that was just opened
abbrev pub opened : Strategy → List ℕ → List ℕ → ℕ → Limits → List Holding → Routing
opened s name ports count limits seats = record {
  strategy = s;
  limits = limits;
  opening = record { seats = count; template = record { name = name; ports = ports } };
  closed = replicate count 0;
  past = [];
  lists = lists_of [];
  seats = seats;
  running = state_of s (record { seats = count; template = record { name = name; ports = ports } })
      (replicate count 0) [];
}

-- the book with another past: its lists and its running state are those of this past, and these are the records of
-- its seats
abbrev pub with_past : Routing → List Entry → List Holding → Routing
with_past b past seats = record b {
  past = past;
  lists = lists_of past;
  seats = seats;
  running = state_of b.strategy b.opening b.closed past;
}

-- a seat after a request with this ticket entered
abbrev pub seat_in : Holding → Ticket → Holding
seat_in seat t = after_enter seat t.number t.revision t.port

-- the entry of a request that enters at a seat
abbrev pub enter_entry : ℕ → Service → Ticket → Entry
enter_entry seat service t = Enter seat service t.number t.revision t.port
