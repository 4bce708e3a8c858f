-- What an opening gives.
use Rattle.std.specs.Prelude.{◌≡◌, ◌≤◌, ℕ, List, true, Option}
use Rattle.bg_ledger.specs.declared.holding.Holding.{Holding}
use Rattle.bg_rollout.specs.declared.fault.OpenFault.{OpenFault}
use Rattle.bg_rollout.specs.declared.opening.RolloutOpening.{RolloutOpening}
use Rattle.bg_rollout.specs.declared.opening.SeatLimit.{SeatLimit}
use Rattle.bg_rollout.specs.Changes.{opened, NewSeats}
use Rattle.bg_rollout.specs.Gathering.{are_all}
use Rattle.bg_rollout.specs.Refusals.{most_seats, open_refusal}
use Rattle.bg_rollout.specs.Routing.{Routing}

-- if an opening has as many seats as it may have, this is their number
abbrev pub IsSeatCount : SeatLimit → RolloutOpening → ℕ → Type 0
IsSeatCount limit o count = 1 ≤ o.seats → o.seats ≤ most_seats limit → count ≡ o.seats

-- the fault of an opening, if it has one
abbrev pub opening_fault : SeatLimit → RolloutOpening → Option OpenFault
opening_fault limit o =
    open_refusal limit o.strategy.now o.name.now o.ports.now o.seats o.limits

-- the book that is opened with these seats
abbrev pub opened_by : RolloutOpening → List Holding → Routing
opened_by o seats = opened o.strategy.now o.name.now o.ports.now o.seats o.limits seats

-- these seats come with a book that is opened: this number of them, which the opening names, in order of index and each
-- without a call
pub record OpensSeats (o : RolloutOpening) (count : ℕ) (seats : List Holding) : Type 0 where
  pub count_is : o.seats ≡ count
  pub new : NewSeats o.seats seats
  pub all : are_all count seats ≡ true
