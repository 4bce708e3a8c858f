use Rattle.std.proofs.Common.{◌≡◌, ◌∷◌, [], true, false, Option, Some, Result, Err, subst, ap, sym, ◌∙◌, inl, inr}
use Rattle.bg_revisions.specs.declared.revision.Service.{Service}
use Rattle.bg_ledger.specs.declared.holding.Holding.{Holding}
use Rattle.bg_rollout.specs.Compaction.{with_compacted}
use Rattle.bg_rollout.specs.Refusals.{IsRefusedBy, enter_refusal}
use Rattle.bg_rollout.specs.Routing.{Routing}
use Rattle.bg_rollout.specs.declared.fault.EnterFault.{EnterFault}
use Rattle.bg_rollout.specs.declared.fault.EnterFault.TheVariants.{HistoryFull, OutOfMemory}
use Rattle.bg_rollout.specs.declared.ticket.Ticket.{Ticket}
use Rattle.bg_book.specs.declared.calls.Reply.{Reply}
use Rattle.bg_book.specs.declared.calls.Reply.TheVariants.{EnterRefused}
use Rattle.bg_book.specs.Compaction.{is_history_full}
use Rattle.bg_book.specs.Desks.{AnswersEnter, AnswersEnterCompacting, enter_reply}
use Rattle.bg_book.specs.Runs.{EnterStep}
use Rattle.bg_book.proofs.SeatAlone.{alone}
use Rattle.bg_book.proofs.desk.enter_or_compact.Goals as goal

-- the reply of a book that is compacted because its history is full
compacting : (b first compacted new : Routing) (seat first_seat new_seat : Holding) (service : Service) (reply : Reply)
    → AnswersEnter b seat service (EnterRefused HistoryFull) first first_seat
    → compacted ≡ with_compacted first → AnswersEnter compacted first_seat service reply new new_seat
    → AnswersEnterCompacting b seat service reply new new_seat
compacting b first compacted new seat first_seat new_seat service reply full is answered =
    let same : first_seat ≡ seat = alone full.step.1.1 in
    let unchanged : first ≡ b = full.step.1.0 in
    inr (
      subst (λ (s : Holding). AnswersEnter b seat service (EnterRefused HistoryFull) b s) same
          (subst (λ (r : Routing). AnswersEnter b seat service (EnterRefused HistoryFull) r first_seat) unchanged full),
      subst (λ (s : Holding). AnswersEnter (with_compacted b) s service reply new new_seat) same
          (subst (λ (r : Routing). AnswersEnter r first_seat service reply new new_seat) (is ∙ ap with_compacted unchanged) answered),
    )

-- the compacted book has no room either
full_once_compacted : (b new : Routing) (seat new_seat : Holding) (service : Service) (answer : Result Ticket EnterFault)
    → AnswersEnterCompacting b seat service (enter_reply answer) new new_seat → answer ≡ Err HistoryFull
    → enter_refusal (with_compacted b) service ≡ Some HistoryFull
full_once_compacted b new seat new_seat service answer (inl (answered, room)) is =
    let c : true ≡ false = sym (ap (λ (r : Result Ticket EnterFault). is_history_full (enter_reply r)) is) ∙ room in absurd (cc)
full_once_compacted b new seat new_seat service answer (inr (full, answered)) is =
    refused (enter_refusal (with_compacted b) service)
    (subst (λ (r : Result Ticket EnterFault). EnterStep (with_compacted b) (seat ∷ []) 0 seat service (enter_reply r) new (new_seat ∷ [])) is answered.step).0 where
      refused : (x : Option EnterFault) → IsRefusedBy x OutOfMemory HistoryFull → x ≡ Some HistoryFull
      refused x (inl same) = same
      refused x (inr memory) = cc

pub returns-in-Err-HistoryFull-clause-told : goal.returns-in-Err-HistoryFull-clause-told
returns-in-Err-HistoryFull-clause-told g c =
    compacting c.args.book.now c.enter.new.self c.compact-dropped.new.self c.enter-in-Err-HistoryFull.new.self c.args.seat.now c.enter.new.seat c.enter-in-Err-HistoryFull.new.seat c.args.service _
    (rw c.in-Err-HistoryFull.field-0-is at c.in-Err-HistoryFull.ensures.told) c.compact-dropped.ensures.new c.enter-in-Err-HistoryFull.ensures.told

pub returns-in-Err-HistoryFull-clause-full : goal.returns-in-Err-HistoryFull-clause-full
returns-in-Err-HistoryFull-clause-full g c =
    full_once_compacted c.args.book.now c.enter-in-Err-HistoryFull.new.self c.args.seat.now c.enter-in-Err-HistoryFull.new.seat c.args.service c.enter-in-Err-HistoryFull.result
    (returns-in-Err-HistoryFull-clause-told g c)
