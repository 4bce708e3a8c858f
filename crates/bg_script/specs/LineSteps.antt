-- The answer to a line of a script or of a control connection.
use Rattle.std.specs.Prelude.{◌≡◌, ◌+◌, ◌&&◌, nat_le, ℕ, Bool, true, false, if◌then◌else◌, length, List, None, Result, Ok, Err, ◌⊎◌}
use Rattle.bg_strategy.specs.declared.strategy.Strategy.{Strategy}
use Rattle.bg_revisions.specs.PortLists.{are_ports}
use Rattle.bg_ledger.specs.declared.holding.Holding.{Holding}
use Rattle.bg_history.specs.declared.control.Control.{Control}
use Rattle.bg_rollout.specs.declared.fault.OpenFault.TheVariants as open_fault
use Rattle.bg_rollout.specs.declared.opening.SeatLimit.TheVariants.{Few}
use Rattle.bg_rollout.specs.Refusals.{open_refusal, usual_limits, IsRefusedBy}
use Rattle.bg_rollout.specs.Changes.{opened, NewSeats}
use Rattle.bg_rollout.specs.Compaction.{with_compacted}
use Rattle.bg_rollout.specs.Routing.{Routing}
use Rattle.bg_book.specs.declared.calls.Call.{Call}
use Rattle.bg_book.specs.declared.calls.Call.TheVariants as call
use Rattle.bg_book.specs.declared.calls.Reply.{Reply}
use Rattle.bg_book.specs.Desks.{AnswersControlCompacting}
use Rattle.bg_book.specs.Headline.{Headline}
use Rattle.bg_book.specs.Runs.{CallStep}
use Rattle.bg_operator.specs.declared.command.Command.{Command}
use Rattle.bg_operator.specs.declared.command.Command.TheVariants as command
use Rattle.bg_operator.specs.declared.line_fault.LineFault.{LineFault}
use Rattle.bg_operator.specs.declared.query.Query.{Query}
use Rattle.bg_script.specs.declared.answer.Answer.{Answer}
use Rattle.bg_script.specs.declared.answer.Answer.TheVariants as answer
use Rattle.bg_script.specs.AnswerTexts.{answer_text, is_fault}
use Rattle.bg_script.specs.Clocks.{ReadsInTime}
use Rattle.bg_script.specs.Journaling.{JournalState, OrderReply}
use Rattle.bg_script.specs.QueryTexts.{query_text}

-- Where a line is answered: in a script while no book is open, and one may be opened with this strategy and this many
-- seats; in a script, by this book with these seats; at a control connection while no book is open; at a control
-- connection, by the book of a desk, which workers share, with a boot clock that may read so; or the same with this journal
-- of its orders.
pub data Stage : Type 0 where
  Closed : (strategy : Strategy) (seats : ℕ) → Stage
  Running : (book : Routing) (seats : List Holding) → Stage
  ConnectionClosed : Stage
  ConnectionOpen : (reads : ℕ → Bool) → Stage
  ConnectionJournaled : (reads : ℕ → Bool) (journal : JournalState) → Stage

-- whether a book is open
abbrev pub is_open : Stage → Bool
is_open (Closed strategy seats) = false
is_open (Running book seats) = true
is_open ConnectionClosed = false
is_open (ConnectionOpen reads) = true
is_open (ConnectionJournaled reads journal) = true

-- whether lines are answered at a control connection
abbrev pub is_connection : Stage → Bool
is_connection (Closed strategy seats) = false
is_connection (Running book seats) = false
is_connection ConnectionClosed = true
is_connection (ConnectionOpen reads) = true
is_connection (ConnectionJournaled reads journal) = true

-- whether the orders go to a journal
abbrev pub is_journaled : Stage → Bool
is_journaled (ConnectionJournaled reads journal) = true
is_journaled _ = false

-- how a line may change the stage: it doesn't change whether there is a control connection, a stage without an open
-- book stays until the caller opens one, and the stage of a control connection without a journal stays
pub record MayFollow (old new : Stage) : Type 0 where
  pub connection : is_connection new ≡ is_connection old
  pub closed : is_open old ≡ false → new ≡ old
  pub stays : is_connection old ≡ true → is_journaled old ≡ false → new ≡ old

-- what is written for a line: an answer, or the text that answers a query of a book
pub data Written : Type 0 where
  Said : (answer : Answer) → Written
  Asked : (query : Query) (book : Routing) → Written

abbrev pub written_text : Written → List ℕ
written_text (Said said) = answer_text said
written_text (Asked query book) = query_text query book

-- whether a fault is written
abbrev pub is_fault_written : Written → Bool
is_fault_written (Said said) = is_fault said
is_fault_written (Asked query book) = false

-- this is the answer, and the stage does not change
abbrev pub Stays : Stage → Answer → Written → Stage → Type 0
Stays stage said written next = (written ≡ Said said) × (next ≡ stage)

-- the answer to the opening of a book of a script
abbrev pub ScriptOpens : Strategy → ℕ → List ℕ → List ℕ → Written → Stage → Type 0
ScriptOpens s count name ports (Said answer.Opened) (Running book seats) =
    (open_refusal Few s name ports count usual_limits ≡ None)
    × (book ≡ opened s name ports count usual_limits seats) × NewSeats count seats
ScriptOpens s count name ports (Said (answer.OpenRefused fault)) (Closed strategy seats) =
    IsRefusedBy (open_refusal Few s name ports count usual_limits) open_fault.OutOfMemory fault
    × (strategy ≡ s) × (seats ≡ count)
ScriptOpens s count name ports _ _ = ⊥

-- the answer to `open`, which at a control connection is left to the caller while no book is open
abbrev pub OpenStep : Stage → List ℕ → List ℕ → Written → Stage → Type 0
OpenStep (Closed s count) name ports written next = ScriptOpens s count name ports written next
OpenStep (Running book seats) name ports written next =
    Stays (Running book seats) answer.AlreadyOpen written next
OpenStep ConnectionClosed name ports written next = ⊥
OpenStep (ConnectionOpen reads) name ports written next =
    Stays (ConnectionOpen reads) answer.AlreadyOpen written next
OpenStep (ConnectionJournaled reads journal) name ports written next =
    Stays (ConnectionJournaled reads journal) answer.AlreadyOpen written next

-- the answer to a call, by the rules of the book
abbrev pub CallMade : Routing → List Holding → Call → Written → Stage → Type 0
CallMade book seats made (Said (answer.Made reply)) (Running new new_seats) =
    CallStep book seats made reply new new_seats
CallMade book seats made _ _ = ⊥

-- the answer to `enter` and `leave`: at a control connection, requests enter and leave by the workers
abbrev pub RequestStep : Stage → Call → Written → Stage → Type 0
RequestStep (Closed s count) request written next =
    Stays (Closed s count) answer.NotOpen written next
RequestStep (Running book seats) request written next = CallMade book seats request written next
RequestStep ConnectionClosed request written next =
    Stays ConnectionClosed answer.NotHere written next
RequestStep (ConnectionOpen reads) request written next =
    Stays (ConnectionOpen reads) answer.NotHere written next
RequestStep (ConnectionJournaled reads journal) request written next =
    Stays (ConnectionJournaled reads journal) answer.NotHere written next

-- The answer to a line that asks for an open book: the first relation is that of a script's book, the second that of a
-- desk, whose stage does not tell its book.
abbrev pub ByBook : (Routing → List Holding → Written → Stage → Type 0) → (Written → Type 0) → Stage
    → Written → Stage → Type 0
ByBook in_script at_desk (Closed s count) written next =
    Stays (Closed s count) answer.NotOpen written next
ByBook in_script at_desk (Running book seats) written next = in_script book seats written next
ByBook in_script at_desk ConnectionClosed written next =
    Stays ConnectionClosed answer.NotOpen written next
ByBook in_script at_desk (ConnectionOpen reads) written next =
    at_desk written × (next ≡ ConnectionOpen reads)
ByBook in_script at_desk (ConnectionJournaled reads journal) written next =
    at_desk written × (next ≡ ConnectionJournaled reads journal)

-- the reply of a desk to an event: that of some book, after a compaction if its history is full
abbrev pub EventReply : Control → Reply → Type 0
EventReply event reply =
    (b : Routing) × (new : Routing) × AnswersControlCompacting b event reply new

-- the answer of a desk to an event
abbrev pub DeskReplies : Control → Written → Type 0
DeskReplies event (Said (answer.Made reply)) = EventReply event reply
DeskReplies event _ = ⊥

-- the answer of a desk to an event with a time limit: the clock is not below it, and it is too late; or the clock is below
-- it, and this is the reply to the event
abbrev pub DeskRepliesBefore : (ℕ → Bool) → ℕ → Control → Written → Type 0
DeskRepliesBefore reads milliseconds event (Said answer.TooLate) =
    ReadsInTime reads milliseconds false
DeskRepliesBefore reads milliseconds event (Said (answer.Made reply)) =
    ReadsInTime reads milliseconds true × EventReply event reply
DeskRepliesBefore reads milliseconds event _ = ⊥

-- the answer to an order at a desk with a journal, and the journal then
abbrev pub JournaledStep : (Routing → Bool → Type 0) → Control → (ℕ → Bool) → JournalState → Written → Stage → Type 0
JournaledStep condition event reads journal (Said said) (ConnectionJournaled reading next) =
    (reading ≡ reads) × OrderReply condition journal event said next
JournaledStep condition event reads journal _ _ = ⊥

-- the answer to an event
abbrev pub EventStep : Control → Stage → Written → Stage → Type 0
EventStep event (ConnectionJournaled reads journal) written next =
    JournaledStep (λ b given. given ≡ true) event reads journal written next
EventStep event stage written next =
    ByBook (λ book seats. CallMade book seats (call.Control event)) (DeskReplies event) stage written next

-- the answer to an event with a time limit; a script has no clock
abbrev pub BeforeStep : ℕ → Control → Stage → Written → Stage → Type 0
BeforeStep milliseconds event (Closed s count) written next =
    Stays (Closed s count) answer.NotOpen written next
BeforeStep milliseconds event (Running book seats) written next =
    Stays (Running book seats) answer.NotHere written next
BeforeStep milliseconds event ConnectionClosed written next =
    Stays ConnectionClosed answer.NotOpen written next
BeforeStep milliseconds event (ConnectionOpen reads) written next =
    DeskRepliesBefore reads milliseconds event written × (next ≡ ConnectionOpen reads)
BeforeStep milliseconds event (ConnectionJournaled reads journal) written next =
    JournaledStep (λ b given. ReadsInTime reads milliseconds given) event reads journal written next

-- whether these ports can be down: at most 4,096, all distinct and none of them 0
abbrev pub may_be_down : List ℕ → Bool
may_be_down ports = nat_le (length ports) 4096 && are_ports (length ports) ports

-- the answer to `down`, unless an allocation fails
abbrev pub down_answer : List ℕ → Answer
down_answer ports =
    if may_be_down ports then answer.MarkedDown (length ports) else answer.BadPorts

-- the answer to `down` is as expected, or an allocation failed for ports that can be down
abbrev pub IsDownAnswer : List ℕ → Answer → Type 0
IsDownAnswer ports said =
    (said ≡ down_answer ports) ⊎ ((said ≡ answer.OutOfMemory) × (may_be_down ports ≡ true))

-- the answer to `down` at a control connection; a replay has no endpoints that could be down
abbrev pub DeskMarksDown : List ℕ → Written → Type 0
DeskMarksDown ports (Said said) = IsDownAnswer ports said
DeskMarksDown ports (Asked query book) = ⊥

-- the answer to a query of a script's book
abbrev pub ScriptTells : Query → Routing → List Holding → Written → Stage → Type 0
ScriptTells query book seats written next =
    (written ≡ Asked query book) × (next ≡ Running book seats)

-- the answer to a query of a book with the properties of the headline, or the allocation for it failed
abbrev pub DeskTells : Query → Written → Type 0
DeskTells query (Asked asked book) = (asked ≡ query) × Headline book
DeskTells query (Said said) = said ≡ answer.OutOfMemory

-- this many entries are dropped from the book's history when it is compacted
abbrev pub IsDropped : Routing → ℕ → Type 0
IsDropped book count = count + length (with_compacted book).past ≡ length book.past

-- the history of a script's book is compacted, and the answer is the number of entries that were dropped
abbrev pub ScriptCompacts : Routing → List Holding → Written → Stage → Type 0
ScriptCompacts book seats (Said (answer.Compacted count)) next =
    IsDropped book count × (next ≡ Running (with_compacted book) seats)
ScriptCompacts book seats _ next = ⊥

-- the answer is the number of entries that a book with the properties of the headline drops when it is compacted
abbrev pub DeskCompacts : Written → Type 0
DeskCompacts (Said (answer.Compacted count)) =
    (book : Routing) × Headline book × IsDropped book count
DeskCompacts _ = ⊥

-- The answer to a line with this result, and the stage after it. In a script, only an opening, a call and a
-- compaction change the stage. `quit` is not answered.
abbrev pub ReadStep : Stage → Result Command LineFault → Written → Stage → Type 0
ReadStep stage (Err fault) written next = Stays stage (answer.Unread fault) written next
ReadStep stage (Ok (command.Open name ports)) written next = OpenStep stage name ports written next
ReadStep stage (Ok (command.Control event)) written next = EventStep event stage written next
ReadStep stage (Ok (command.Before milliseconds event)) written next =
    BeforeStep milliseconds event stage written next
ReadStep stage (Ok (command.Enter seat service)) written next =
    RequestStep stage (call.Enter seat service) written next
ReadStep stage (Ok (command.Leave seat)) written next =
    RequestStep stage (call.Leave seat) written next
ReadStep stage (Ok (command.Down ports)) written next =
    ByBook (λ book seats. Stays (Running book seats) answer.NotHere) (DeskMarksDown ports) stage written next
ReadStep stage (Ok (command.Ask query)) written next =
    ByBook (ScriptTells query) (DeskTells query) stage written next
ReadStep stage (Ok command.Compact) written next =
    ByBook ScriptCompacts DeskCompacts stage written next
ReadStep stage (Ok command.Quit) written next = ⊥
