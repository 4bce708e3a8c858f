-- The replies to a list of calls, and the book after it.
use Rattle.std.specs.Prelude.{◌≡◌, ◌≢◌, ◌≤◌, ℕ, zero, suc, List, [], ◌∷◌, ◌++◌, slice_get, slice_set, Option, Some, None, ◌⊎◌}
use Rattle.bg_revisions.specs.declared.revision.Service.{Service}
use Rattle.bg_history.specs.declared.entry.Entry.TheVariants as entry
use Rattle.bg_book.specs.declared.calls.Call.{Call}
use Rattle.bg_book.specs.declared.calls.Call.TheVariants as call
use Rattle.bg_history.specs.declared.control.Control.{Control}
use Rattle.bg_book.specs.declared.calls.Reply.{Reply}
use Rattle.bg_book.specs.declared.calls.Reply.TheVariants.{Entered, EnterRefused, Left, Done, ControlRefused, NoSuchSeat, SeatBusy, SeatIdle}
use Rattle.bg_rollout.specs.declared.fault.EnterFault.TheVariants as enter_fault
use Rattle.bg_rollout.specs.declared.control_fault.ControlFault.TheVariants as control_fault
use Rattle.bg_ledger.specs.declared.holding.Holding.{Holding}
use Rattle.bg_ledger.specs.Holdings.{after_leave}
use Rattle.bg_rollout.specs.Refusals.{enter_refusal, control_refusal, event_of, IsRefusedBy, IsTicket}
use Rattle.bg_rollout.specs.Changes.{Stepped, with_past, enter_entry, seat_in}
use Rattle.bg_rollout.specs.Routing.{Routing}

-- nothing changed
abbrev pub Unchanged : Routing → List Holding → Routing → List Holding → Type 0
Unchanged b seats new new_seats = (new ≡ b) × (new_seats ≡ seats)

-- a seat of the slice and the book's record of it are the new one
abbrev pub SeatChanged : Routing → List Holding → ℕ → Holding → Holding → Routing → List Holding
    → Type 0
SeatChanged b seats place old seat new new_seats =
    (new ≡ with_past b new.past (slice_set b.seats old.index seat))
    × (new_seats ≡ slice_set seats place seat)

-- the reply to a request that enters at a seat without a request
abbrev pub EnterStep : Routing → List Holding → ℕ → Holding → Service → Reply → Routing
    → List Holding → Type 0
EnterStep b seats place seat service (Entered t) new new_seats =
    (enter_refusal b service ≡ None) × IsTicket b service t
    × SeatChanged b seats place seat (seat_in seat t) new new_seats
    × Stepped b.strategy (enter_entry seat.index service t) b.past new.past 0
EnterStep b seats place seat service (EnterRefused e) new new_seats =
    IsRefusedBy (enter_refusal b service) enter_fault.OutOfMemory e
    × Unchanged b seats new new_seats
EnterStep b seats place seat service _ new new_seats = ⊥

-- the reply when the request of a seat leaves
abbrev pub LeaveStep : Routing → List Holding → ℕ → Holding → Reply → Routing → List Holding
    → Type 0
LeaveStep b seats place seat (Left l) new new_seats =
    (l ≡ record { number = seat.number; revision = seat.revision })
    × SeatChanged b seats place seat (after_leave seat) new new_seats
    × ((n : ℕ) × Stepped b.strategy (entry.Leave seat.index seat.number seat.revision)
    b.past new.past n × (n ≤ 2))
LeaveStep b seats place seat _ new new_seats = ⊥

-- the reply to an event
abbrev pub ControlStep : Routing → List Holding → Control → Reply → Routing → List Holding → Type 0
ControlStep b seats c (Done n) new new_seats =
    (control_refusal b c ≡ None) × (n ≤ 140) × (new ≡ with_past b new.past b.seats)
    × (new_seats ≡ seats)
    × Stepped b.strategy (event_of b c) b.past new.past n
ControlStep b seats c (ControlRefused e) new new_seats =
    IsRefusedBy (control_refusal b c) control_fault.OutOfMemory e × Unchanged b seats new new_seats
ControlStep b seats c _ new new_seats = ⊥

-- the reply refuses the call because of its seat, and nothing changed
abbrev pub SeatRefused : Reply → Reply → Routing → List Holding → Routing → List Holding → Type 0
SeatRefused why reply b seats new new_seats = (reply ≡ why) × Unchanged b seats new new_seats

-- Entering: a seat at that place has to exist, and it must hold no request.
abbrev pub EnterAt : Routing → List Holding → ℕ → Option Holding → Service → Reply → Routing
    → List Holding → Type 0
EnterAt b seats place None service reply new new_seats =
    SeatRefused NoSuchSeat reply b seats new new_seats
EnterAt b seats place (Some seat) service reply new new_seats =
    ((seat.number ≢ 0) × SeatRefused SeatBusy reply b seats new new_seats)
    ⊎ ((seat.number ≡ 0) × EnterStep b seats place seat service reply new new_seats)

-- Leaving: a seat at that place has to exist, and it must hold a request.
abbrev pub LeaveAt : Routing → List Holding → ℕ → Option Holding → Reply → Routing → List Holding
    → Type 0
LeaveAt b seats place None reply new new_seats = SeatRefused NoSuchSeat reply b seats new new_seats
LeaveAt b seats place (Some seat) reply new new_seats =
    ((seat.number ≡ 0) × SeatRefused SeatIdle reply b seats new new_seats)
    ⊎ ((seat.number ≢ 0) × LeaveStep b seats place seat reply new new_seats)

-- the reply to one call, and the book and the seats after it
abbrev pub CallStep : Routing → List Holding → Call → Reply → Routing → List Holding → Type 0
CallStep b seats (call.Enter place service) reply new new_seats =
    EnterAt b seats place (slice_get seats place) service reply new new_seats
CallStep b seats (call.Leave place) reply new new_seats =
    LeaveAt b seats place (slice_get seats place) reply new new_seats
CallStep b seats (call.Control c) reply new new_seats = ControlStep b seats c reply new new_seats

-- The replies to the calls, one after the other. Each call starts with the book and the seats after the one before.
abbrev pub Runs : Routing → List Holding → List Call → List Reply → Routing → List Holding → Type 0
Runs b seats [] [] new new_seats = Unchanged b seats new new_seats
Runs b seats [] (reply ∷ replies) new new_seats = ⊥
Runs b seats (c ∷ calls) [] new new_seats = ⊥
Runs b seats (c ∷ calls) (reply ∷ replies) new new_seats =
    (next : Routing) × ((next_seats : List Holding)
    × (CallStep b seats c reply next next_seats × Runs next next_seats calls replies new new_seats))

-- a leave at each of the first `place` places, in order
abbrev pub leaves_at : ℕ → List Call
leaves_at zero = []
leaves_at (suc place) = leaves_at place ++ call.Leave place ∷ []

-- the requests at the first `count` places left, one after the other
abbrev pub LeavesAll : Routing → List Holding → ℕ → Routing → List Holding → Type 0
LeavesAll b seats count new new_seats =
    (replies : List Reply) × Runs b seats (leaves_at count) replies new new_seats

-- no seat holds a request
abbrev pub AreOut : List Holding → Type 0
AreOut seats = (i : ℕ) (seat : Holding) → slice_get seats i ≡ Some seat → seat.number ≡ 0
