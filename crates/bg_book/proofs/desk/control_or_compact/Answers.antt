use Rattle.std.proofs.Common.{◌≡◌, [], ℕ, true, false, Option, Some, Result, Err, subst, ap, sym, ◌∙◌, inl, inr}
use Rattle.bg_history.specs.declared.control.Control.{Control}
use Rattle.bg_rollout.specs.Compaction.{with_compacted}
use Rattle.bg_rollout.specs.Refusals.{IsRefusedBy, control_refusal}
use Rattle.bg_rollout.specs.Routing.{Routing}
use Rattle.bg_rollout.specs.declared.control_fault.ControlFault.{ControlFault}
use Rattle.bg_rollout.specs.declared.control_fault.ControlFault.TheVariants.{HistoryFull, OutOfMemory}
use Rattle.bg_book.specs.declared.calls.Reply.{Reply}
use Rattle.bg_book.specs.declared.calls.Reply.TheVariants.{ControlRefused}
use Rattle.bg_book.specs.Compaction.{is_history_full}
use Rattle.bg_book.specs.Desks.{AnswersControl, AnswersControlCompacting, control_reply}
use Rattle.bg_book.specs.Runs.{ControlStep}
use Rattle.bg_book.proofs.desk.control_or_compact.Goals as goal

-- the reply of a book that is compacted because its history is full
compacting : (b first compacted new : Routing) (event : Control) (reply : Reply)
    → AnswersControl b event (ControlRefused HistoryFull) first → compacted ≡ with_compacted first → AnswersControl compacted event reply new
    → AnswersControlCompacting b event reply new
compacting b first compacted new event reply full is answered =
    let unchanged : first ≡ b = full.step.1.0 in
    inr (
      subst (λ (r : Routing). AnswersControl b event (ControlRefused HistoryFull) r) unchanged full,
      subst (λ (r : Routing). AnswersControl r event reply new) (is ∙ ap with_compacted unchanged) answered,
    )

-- the compacted book has no room either
full_once_compacted : (b new : Routing) (event : Control) (answer : Result ℕ ControlFault) → AnswersControlCompacting b event (control_reply answer) new → answer ≡ Err HistoryFull
    → control_refusal (with_compacted b) event ≡ Some HistoryFull
full_once_compacted b new event answer (inl (answered, room)) is =
    let c : true ≡ false = sym (ap (λ (r : Result ℕ ControlFault). is_history_full (control_reply r)) is) ∙ room in absurd (cc)
full_once_compacted b new event answer (inr (full, answered)) is =
    refused (control_refusal (with_compacted b) event)
    (subst (λ (r : Result ℕ ControlFault). ControlStep (with_compacted b) [] event (control_reply r) new []) is answered.step).0 where
      refused : (x : Option ControlFault) → IsRefusedBy x OutOfMemory HistoryFull → x ≡ Some HistoryFull
      refused x (inl same) = same
      refused x (inr memory) = cc

pub returns-in-Err-HistoryFull-clause-told : goal.returns-in-Err-HistoryFull-clause-told
returns-in-Err-HistoryFull-clause-told g c =
    compacting c.args.book.now c.control.new.self c.compact-dropped.new.self c.control-in-Err-HistoryFull.new.self c.args.event.now _
    (rw c.in-Err-HistoryFull.field-0-is at c.in-Err-HistoryFull.ensures) c.compact-dropped.ensures.new c.control-in-Err-HistoryFull.ensures

pub returns-in-Err-HistoryFull-clause-full : goal.returns-in-Err-HistoryFull-clause-full
returns-in-Err-HistoryFull-clause-full g c =
    full_once_compacted c.args.book.now c.control-in-Err-HistoryFull.new.self c.args.event.now c.control-in-Err-HistoryFull.result (returns-in-Err-HistoryFull-clause-told g c)
