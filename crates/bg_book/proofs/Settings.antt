-- No call changes the strategy of a book.
use Rattle.std.proofs.Common.{◌≡◌, ℕ, List, [], ◌∷◌, Option, Some, None, ap, ◌∙◌, inl, inr}
use Rattle.bg_revisions.specs.declared.revision.Service.{Service}
use Rattle.bg_ledger.specs.declared.holding.Holding.{Holding}
use Rattle.bg_history.specs.declared.control.Control.{Control}
use Rattle.bg_rollout.specs.Routing.{Routing}
use Rattle.bg_book.specs.declared.calls.Call.{Call}
use Rattle.bg_book.specs.declared.calls.Call.TheVariants as call
use Rattle.bg_book.specs.declared.calls.Reply.{Reply}
use Rattle.bg_book.specs.declared.calls.Reply.TheVariants.{Entered, EnterRefused, Left, Done, ControlRefused}
use Rattle.bg_book.specs.Runs.{EnterStep, LeaveStep, ControlStep, EnterAt, LeaveAt, CallStep, Runs, LeavesAll, leaves_at}

strategy-enter : (b new : Routing) (seats new_seats : List Holding) (place : ℕ) (seat : Holding) (service : Service) (reply : Reply) → EnterStep b seats place seat service reply new new_seats
    → new.strategy ≡ b.strategy
strategy-enter b new seats new_seats place seat service (Entered t) step = ap (λ (m : Routing). m.strategy) step.2.0
strategy-enter b new seats new_seats place seat service (EnterRefused e) step = ap (λ (m : Routing). m.strategy) step.1.0
strategy-enter b new seats new_seats place seat service reply step = absurd step

strategy-enter_at : (b new : Routing) (seats new_seats : List Holding) (place : ℕ) (o : Option Holding) (service : Service) (reply : Reply) → EnterAt b seats place o service reply new new_seats
    → new.strategy ≡ b.strategy
strategy-enter_at b new seats new_seats place None service reply step = ap (λ (m : Routing). m.strategy) step.1.0
strategy-enter_at b new seats new_seats place (Some seat) service reply (inl step) = ap (λ (m : Routing). m.strategy) step.1.1.0
strategy-enter_at b new seats new_seats place (Some seat) service reply (inr step) = strategy-enter b new seats new_seats place seat service reply step.1

strategy-leave : (b new : Routing) (seats new_seats : List Holding) (place : ℕ) (seat : Holding) (reply : Reply) → LeaveStep b seats place seat reply new new_seats → new.strategy ≡ b.strategy
strategy-leave b new seats new_seats place seat (Left l) step = ap (λ (m : Routing). m.strategy) step.1.0
strategy-leave b new seats new_seats place seat reply step = absurd step

strategy-leave_at : (b new : Routing) (seats new_seats : List Holding) (place : ℕ) (o : Option Holding) (reply : Reply) → LeaveAt b seats place o reply new new_seats → new.strategy ≡ b.strategy
strategy-leave_at b new seats new_seats place None reply step = ap (λ (m : Routing). m.strategy) step.1.0
strategy-leave_at b new seats new_seats place (Some seat) reply (inl step) = ap (λ (m : Routing). m.strategy) step.1.1.0
strategy-leave_at b new seats new_seats place (Some seat) reply (inr step) = strategy-leave b new seats new_seats place seat reply step.1

strategy-control : (b new : Routing) (seats new_seats : List Holding) (c : Control) (reply : Reply) → ControlStep b seats c reply new new_seats → new.strategy ≡ b.strategy
strategy-control b new seats new_seats c (Done n) step = ap (λ (m : Routing). m.strategy) step.2
strategy-control b new seats new_seats c (ControlRefused e) step = ap (λ (m : Routing). m.strategy) step.1.0
strategy-control b new seats new_seats c reply step = absurd step

strategy-call : (b new : Routing) (seats new_seats : List Holding) (c : Call) (reply : Reply) → CallStep b seats c reply new new_seats → new.strategy ≡ b.strategy
strategy-call b new seats new_seats (call.Enter place service) reply step = strategy-enter_at b new seats new_seats place _ service reply step
strategy-call b new seats new_seats (call.Leave place) reply step = strategy-leave_at b new seats new_seats place _ reply step
strategy-call b new seats new_seats (call.Control c) reply step = strategy-control b new seats new_seats c reply step

strategy-run : (b new : Routing) (seats new_seats : List Holding) (calls : List Call) (replies : List Reply) → Runs b seats calls replies new new_seats → new.strategy ≡ b.strategy
strategy-run b new seats new_seats [] [] run = ap (λ (m : Routing). m.strategy) run.0
strategy-run b new seats new_seats [] (reply ∷ replies) run = absurd run
strategy-run b new seats new_seats (c ∷ calls) [] run = absurd run
strategy-run b new seats new_seats (c ∷ calls) (reply ∷ replies) (next, (next_seats, (step, run))) =
    strategy-run next new next_seats new_seats calls replies run ∙ strategy-call b next seats next_seats c reply step

pub strategy-left : (b new : Routing) (seats new_seats : List Holding) (count : ℕ) → LeavesAll b seats count new new_seats → new.strategy ≡ b.strategy
strategy-left b new seats new_seats count left = strategy-run b new seats new_seats (leaves_at count) left.0 left.1
