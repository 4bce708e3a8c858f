-- The entries of an order for a journal.
use Rattle.std.specs.Prelude.{◌≡◌, ℕ, ◌+◌, ◌-◌, Bool, List, take, reverse, Option, Some, None, Result, Ok, Err, IfOk, ⊤}
use Rattle.bg_history.specs.declared.entry.Entry.{Entry}
use Rattle.bg_history.specs.declared.control.Control.{Control}
use Rattle.bg_history_laws.specs.Journaled.{journaled}
use Rattle.bg_rollout.specs.Routing.{Routing}
use Rattle.bg_rollout.specs.declared.control_fault.ControlFault.{ControlFault}
use Rattle.bg_book.specs.Desks.{AnswersControlIf}
use Rattle.bg_book.specs.OrderEntries.{outcomes_since_event}
use Rattle.bg_book.specs.declared.desk.recording.Recorded.{Recorded}

-- The entries of an event with n outcomes, behind the outcomes before it that a journal lacks, the newest first. The
-- journal knows so many outcomes since the event before; `before` and `after` are the past before the event and after it.
abbrev pub order_entries : ℕ → List Entry → ℕ → List Entry → List Entry
order_entries known before n after = take (outcomes_since_event before - known + n + 1) (journaled after)

-- the answer to the event
abbrev pub answer_in : Option (Result Recorded ControlFault) → Option (Result ℕ ControlFault)
answer_in None = None
answer_in (Some (Ok recorded)) = Some (Ok recorded.outcomes)
answer_in (Some (Err fault)) = Some (Err fault)

-- if the event was recorded, and memory sufficed, the entries are those of the order
abbrev pub HasEntries : ℕ → Routing → Option (Result Recorded ControlFault) → Routing → Type 0
HasEntries known b None new = ⊤
HasEntries known b (Some (Err fault)) new = ⊤
HasEntries known b (Some (Ok recorded)) new =
    IfOk recorded.entries (λ entries. reverse entries.items ≡ order_entries known b.past recorded.outcomes new.past)

-- The book answers so to an event that is given to it only under a condition; then it is this new one, and these are the
-- entries that a journal lacks.
abbrev pub RecordsIf : (Bool → Type 0) → ℕ → Routing → Control → Option (Result Recorded ControlFault) → Routing → Type 0
RecordsIf condition known b event answer new =
    AnswersControlIf condition b event (answer_in answer) new × HasEntries known b answer new
