-- A call of a seat alone, and the same call of a slice that has this seat.
use Rattle.std.proofs.Common.{◌≡◌, ◌<◌, ℕ, List, [], ◌∷◌, get_or, slice_set, Result, Ok, Err, ap, ◌∙◌, arith, inl, inr}
use Rattle.std.specs.Prelude.{IfOk, OnErr}
use Rattle.std.proofs.lemmas.List.{set-get_or}
use Rattle.bg_revisions.specs.declared.revision.Service.{Service}
use Rattle.bg_ledger.specs.declared.holding.Holding.{Holding}
use Rattle.bg_rollout.specs.declared.fault.EnterFault.{EnterFault}
use Rattle.bg_rollout.specs.declared.ticket.Left.{Left}
use Rattle.bg_rollout.specs.declared.ticket.Ticket.{Ticket}
use Rattle.bg_rollout.specs.Changes.{seat_in}
use Rattle.bg_rollout.specs.Routing.{Routing}
use Rattle.bg_book.specs.declared.calls.Reply.{Reply}
use Rattle.bg_book.specs.declared.calls.Reply.TheVariants as reply
use Rattle.bg_book.specs.Desks.{AnswersEnter, AnswersEnterCompacting, enter_reply}
use Rattle.bg_book.specs.Runs.{EnterStep, LeaveStep}

-- slices of one seat are the same only if the seats are
pub alone : {x y : Holding} → ◌≡◌ {A = List Holding} (x ∷ []) (y ∷ []) → x ≡ y
alone {x} h = ap (λ (xs : List Holding). get_or xs 0 x) h

-- a request that enters at a seat of a slice
pub entered_at : (b new : Routing) (seats : List Holding) (place : ℕ) (d new_seat : Holding) (service : Service) (answer : Reply)
    → EnterStep b (get_or seats place d ∷ []) 0 (get_or seats place d) service answer new (new_seat ∷ [])
    → EnterStep b seats place (get_or seats place d) service answer new (slice_set seats place new_seat)
entered_at b new seats place d new_seat service (reply.Entered t) h =
    (h.0, h.1, (h.2.0, ap (λ (v : Holding). slice_set seats place v) (alone h.2.1)), h.3)
entered_at b new seats place d new_seat service (reply.EnterRefused e) h =
    (h.0, (h.1.0, ap (λ (v : Holding). slice_set seats place v) (alone h.1.1) ∙ set-get_or _ _ _))
entered_at b new seats place d new_seat service _ h = absurd h

-- a request that leaves a seat of a slice
pub left_at : (b new : Routing) (seats : List Holding) (place : ℕ) (seat new_seat : Holding) (l : Left)
    → LeaveStep b (seat ∷ []) 0 seat (reply.Left l) new (new_seat ∷ [])
    → LeaveStep b seats place seat (reply.Left l) new (slice_set seats place new_seat)
left_at b new seats place seat new_seat l h =
    (h.0, (h.1.0, ap (λ (v : Holding). slice_set seats place v) (alone h.1.1)), h.2)

-- what the answer to a request that enters says of its seat
pub record SeatAnswered (seat new_seat : Holding) (answer : Result Ticket EnterFault) : Type 0 where
  pub entered : IfOk answer (λ t. new_seat ≡ seat_in seat t)
  pub number : IfOk answer (λ t. 0 < t.number)
  pub unchanged : OnErr answer (new_seat ≡ seat)

answered_once : (b new : Routing) (seat new_seat : Holding) (service : Service) (answer : Result Ticket EnterFault)
    → AnswersEnter b seat service (enter_reply answer) new new_seat → SeatAnswered seat new_seat answer
answered_once b new seat new_seat service (Ok t) told =
    let step = told.step in let number = step.1.number_is in
    record { entered = alone step.2.1; number = omega (arith, number); unchanged = tt }
answered_once b new seat new_seat service (Err e) told = record { entered = tt; number = tt; unchanged = alone told.step.1.1 }

pub answered : (b new : Routing) (seat new_seat : Holding) (service : Service) (answer : Result Ticket EnterFault)
    → AnswersEnterCompacting b seat service (enter_reply answer) new new_seat → SeatAnswered seat new_seat answer
answered b new seat new_seat service answer (inl told) = answered_once b new seat new_seat service answer told.0
answered b new seat new_seat service answer (inr told) = answered_once _ new seat new_seat service answer told.1
