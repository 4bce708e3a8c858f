-- What the calls of a book answer, also if it is shared.
use Rattle.std.specs.Prelude.{◌≡◌, ◌⊎◌, ℕ, Bool, true, false, [], ◌∷◌, Option, Some, None, Result, Ok, Err}
use Rattle.bg_revisions.specs.declared.revision.Service.{Service}
use Rattle.bg_ledger.specs.declared.holding.Holding.{Holding}
use Rattle.bg_rollout.specs.Compaction.{with_compacted}
use Rattle.bg_rollout.specs.Meeting.{Meets}
use Rattle.bg_rollout.specs.Routing.{Routing}
use Rattle.bg_history.specs.declared.control.Control.{Control}
use Rattle.bg_rollout.specs.declared.control_fault.ControlFault.{ControlFault}
use Rattle.bg_rollout.specs.declared.control_fault.ControlFault.TheVariants as control_fault
use Rattle.bg_rollout.specs.declared.fault.EnterFault.{EnterFault}
use Rattle.bg_rollout.specs.declared.fault.EnterFault.TheVariants as enter_fault
use Rattle.bg_rollout.specs.declared.ticket.Left.{Left}
use Rattle.bg_rollout.specs.declared.ticket.Ticket.{Ticket}
use Rattle.bg_book.specs.declared.calls.Reply.{Reply}
use Rattle.bg_book.specs.declared.calls.Reply.TheVariants as reply
use Rattle.bg_book.specs.declared.calls.Reply.TheVariants.{Entered, EnterRefused, Done, ControlRefused}
use Rattle.bg_book.specs.Compaction.{is_history_full}
use Rattle.bg_book.specs.Headline.{Headline}
use Rattle.bg_book.specs.Runs.{EnterStep, LeaveStep, ControlStep}

-- the answer to a request that enters, as a reply
abbrev pub enter_reply : Result Ticket EnterFault → Reply
enter_reply (Ok t) = Entered t
enter_reply (Err e) = EnterRefused e

-- the answer to an event, as a reply
abbrev pub control_reply : Result ℕ ControlFault → Reply
control_reply (Ok n) = Done n
control_reply (Err e) = ControlRefused e

-- The book has this record of the seat, and gives this reply to a request that enters there; then the book and the seat
-- are these new ones. The headline holds before and after.
pub record AnswersEnter (b : Routing) (seat : Holding) (service : Service) (reply : Reply)
    (new : Routing) (new_seat : Holding) : Type 0 where
  pub headline : Headline b
  pub met : Meets b seat
  pub step : EnterStep b (seat ∷ []) 0 seat service reply new (new_seat ∷ [])
  pub new_headline : Headline new

-- The book has this record of the seat, whose request leaves so; then the book and the seat are these new ones. The
-- headline holds before and after.
pub record AnswersLeave (b : Routing) (seat : Holding) (left : Left) (new : Routing)
    (new_seat : Holding) : Type 0 where
  pub headline : Headline b
  pub met : Meets b seat
  pub step : LeaveStep b (seat ∷ []) 0 seat (reply.Left left) new (new_seat ∷ [])
  pub new_headline : Headline new

-- The book gives this reply to the event, and then it is this new one. The headline holds before and after.
pub record AnswersControl (b : Routing) (event : Control) (reply : Reply)
    (new : Routing) : Type 0 where
  pub headline : Headline b
  pub step : ControlStep b [] event reply new []
  pub new_headline : Headline new

-- The reply, and the book after it, are those of the book, unless its reply is that the history is full; then they are
-- those of the compacted book.
abbrev pub AnswersEnterCompacting : Routing → Holding → Service → Reply → Routing → Holding → Type 0
AnswersEnterCompacting b seat service reply new new_seat =
    (AnswersEnter b seat service reply new new_seat × (is_history_full reply ≡ false))
    ⊎ (AnswersEnter b seat service (EnterRefused enter_fault.HistoryFull) b seat
    × AnswersEnter (with_compacted b) seat service reply new new_seat)

-- the same for an event
abbrev pub AnswersControlCompacting : Routing → Control → Reply → Routing → Type 0
AnswersControlCompacting b event reply new =
    (AnswersControl b event reply new × (is_history_full reply ≡ false))
    ⊎ (AnswersControl b event (ControlRefused control_fault.HistoryFull) b
    × AnswersControl (with_compacted b) event reply new)

-- The book answers so to an event that is given to it only under a condition; then it is this new one. If the answer to
-- the condition is false, there is no answer to the event and the book stays; else the answer is that to the event.
abbrev pub AnswersControlIf : (Bool → Type 0) → Routing → Control → Option (Result ℕ ControlFault) → Routing → Type 0
AnswersControlIf condition b event None new = condition false × Headline b × (new ≡ b)
AnswersControlIf condition b event (Some answer) new =
    condition true × AnswersControlCompacting b event (control_reply answer) new
