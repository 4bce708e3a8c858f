-- Lemmas on the journal of a desk.
use Rattle.std.proofs.Common.{◌≡◌, ◌⊎◌, ℕ, Bool, true, false, List, sym, ap, ◌∙◌, subst, inl, inr, Option, Some, None, Result, Ok, Err, reverse}
use Rattle.std.specs.Prelude.{IfOk, Vec}
use Rattle.std.specs.List.{list_all}
use Rattle.std.specs.declared.alloc.AllocError.{AllocError}
use Rattle.std.specs.declared.alloc.Global.{Global}
use Rattle.std.proofs.lemmas.List.{reverse-reverse}
use Rattle.bg_history.specs.declared.entry.Entry.{Entry}
use Rattle.bg_history.specs.declared.control.Control.{Control}
use Rattle.bg_journal.specs.Texts.{entries_text, is_journaled}
use Rattle.bg_rollout.specs.Routing.{Routing}
use Rattle.bg_rollout.specs.declared.control_fault.ControlFault.{ControlFault}
use Rattle.bg_book.specs.declared.desk.recording.Recorded.{Recorded}
use Rattle.bg_book.specs.Desks.{AnswersControlCompacting}
use Rattle.bg_book.specs.Recording.{RecordsIf, order_entries}
use Rattle.bg_script.specs.declared.answer.Answer.{Answer}
use Rattle.bg_script.specs.declared.answer.Answer.TheVariants as answer
use Rattle.bg_book.specs.declared.calls.Reply.TheVariants as reply
use Rattle.bg_script.specs.Journaling.{JournalState, BookReplies, IsOrder, IsTextOf, IsUnsaved, OrderReply, Readies, SavesOrder, entries_for, with_doubt, with_text, without_doubt, without_order}

-- what holds of a journal that is ready
pub is_ready : (j next : JournalState) (ready : Bool) → ready ≡ true → Readies j ready next → (j.is_lost ≡ false) × (next ≡ without_doubt j)
is_ready j next true at readies = readies
is_ready j next false at readies = cc

-- the text of an order that a book recorded
order_text : (j : JournalState) (b new : Routing) (entries : Result (Vec Entry Global) AllocError) (n : ℕ) (text : List ℕ)
    → IfOk entries (λ es. reverse es.items ≡ order_entries j.known b.past n new.past) → IsTextOf entries text → IsOrder j b n new text
order_text j b new (Err refused) n text has is = absurd is
order_text j b new (Ok es) n text has is =
    let same : es.items ≡ entries_for j b n new = sym (reverse-reverse es.items) ∙ ap reverse has in record {
      text_is = ap entries_text (sym same) ∙ is.0;
      journaled = ap (list_all is_journaled) (sym same) ∙ is.1;
    }

-- what becomes of an order that is not known to be on the disk
unsaved : (j ready next : JournalState) (b new : Routing) (entries : Result (Vec Entry Global) AllocError) (n : ℕ) → ready ≡ without_doubt j
    → IfOk entries (λ es. reverse es.items ≡ order_entries j.known b.past n new.past)
    → ((text : List ℕ) × IsTextOf entries text × (next ≡ with_doubt ready text n)) ⊎ (next ≡ without_order ready n) → IsUnsaved j b n new next
unsaved j ready next b new entries n is has (inl t) = inl (t.0, order_text j b new entries n t.0 has t.1, t.2 ∙ ap (λ (r : JournalState). with_doubt r t.0 n) is)
unsaved j ready next b new entries n is has (inr lost) = inr (lost ∙ ap (λ (r : JournalState). without_order r n) is)

-- an order that was recorded for a journal that is ready
abbrev pub Taken : (Routing → Bool → Type 0) → JournalState → Routing → Control → Option (Result Recorded ControlFault) → Routing → Type 0
Taken condition ready b event taken new = RecordsIf (condition b) ready.known b event taken new

-- the entries of a recorded order are those that the journal lacked before it was ready
has_entries : (condition : Routing → Bool → Type 0) (j ready : JournalState) (event : Control) (recorded : Recorded) (n : ℕ) (b new : Routing)
    → ready ≡ without_doubt j → n ≡ recorded.outcomes → Taken condition ready b event (Some (Ok recorded)) new
    → IfOk recorded.entries (λ es. reverse es.items ≡ order_entries j.known b.past n new.past) × AnswersControlCompacting b event (reply.Done n) new
has_entries condition j ready event recorded n b new is count taken = (
  subst (λ (k : ℕ). IfOk recorded.entries (λ es. reverse es.items ≡ order_entries k b.past n new.past)) (ap (λ (s : JournalState). s.known) is)
      (subst (λ (m : ℕ). IfOk recorded.entries (λ es. reverse es.items ≡ order_entries ready.known b.past m new.past)) (sym count) taken.1),
  subst (λ (m : ℕ). AnswersControlCompacting b event (reply.Done m) new) (sym count) taken.0.1,
)

-- the answer to an order that was recorded and then saved
pub replied : (condition : Routing → Bool → Type 0) (j ready next : JournalState) (event : Control) (recorded : Recorded) (said : Answer) (b new : Routing)
    → ready ≡ without_doubt j → Taken condition ready b event (Some (Ok recorded)) new → SavesOrder recorded ready said next
    → BookReplies condition j event said next
replied condition j ready next event recorded (answer.Made (reply.Done n)) b new is taken saved =
    let has = has_entries condition j ready event recorded n b new is saved.0 taken in
    let text = saved.1.0 in
    (b, (new, (taken.0.0, has.1, (text, order_text j b new recorded.entries n text has.0 saved.1.1, saved.1.2 ∙ ap (λ (r : JournalState). with_text r text n) is))))
replied condition j ready next event recorded (answer.Unsaved n) b new is taken saved =
    let has = has_entries condition j ready event recorded n b new is saved.0 taken in
    (b, (new, (taken.0.0, has.1, unsaved j ready next b new recorded.entries n is has.0 saved.1)))
replied condition j ready next event recorded said b new is taken saved = absurd saved

-- the answer to an order that a book refuses
pub refused : (condition : Routing → Bool → Type 0) (j ready : JournalState) (event : Control) (fault : ControlFault) (b new : Routing)
    → ready ≡ without_doubt j → Taken condition ready b event (Some (Err fault)) new
    → BookReplies condition j event (answer.Made (reply.ControlRefused fault)) ready
refused condition j ready event fault b new is taken = (b, (new, (taken.0.0, taken.0.1, is)))

-- the answer to an order that comes too late
pub too_late : (condition : Routing → Bool → Type 0) (j ready : JournalState) (event : Control) (b new : Routing)
    → ready ≡ without_doubt j → Taken condition ready b event None new → BookReplies condition j event answer.TooLate ready
too_late condition j ready event b new is taken = (b, (taken.0.0, is))

-- the answer of a book that is asked since each earlier order is kept
pub asked : (condition : Routing → Bool → Type 0) (j : JournalState) (event : Control) (said : Answer) (next : JournalState) → j.is_lost ≡ false
    → BookReplies condition j event said next → OrderReply condition j event said next
asked condition j event answer.JournalFailed next whole replies = absurd replies
asked condition j event said next whole replies = (whole, replies)
