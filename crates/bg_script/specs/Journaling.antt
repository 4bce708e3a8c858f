-- The journal of a desk.
use Rattle.std.specs.Prelude.{◌≡◌, ◌≢◌, ◌⊎◌, ℕ, Bool, true, false, List, [], ◌∷◌, ◌++◌, reverse, Option, Some, None, Result, Ok, Err, Vec, String, string_bytes}
use Rattle.std.specs.List.{list_all}
use Rattle.std.specs.declared.alloc.AllocError.{AllocError}
use Rattle.std.specs.declared.alloc.Global.{Global}
use Rattle.bg_history.specs.declared.entry.Entry.{Entry}
use Rattle.bg_history.specs.declared.control.Control.{Control}
use Rattle.bg_journal.specs.Texts.{entries_text, is_journaled}
use Rattle.bg_rollout.specs.Routing.{Routing}
use Rattle.bg_book.specs.declared.calls.Reply.TheVariants.{Done, ControlRefused}
use Rattle.bg_book.specs.declared.desk.recording.Recorded.{Recorded}
use Rattle.bg_book.specs.Desks.{AnswersControlCompacting}
use Rattle.bg_book.specs.Recording.{order_entries}
use Rattle.bg_script.specs.declared.answer.Answer.{Answer}
use Rattle.bg_script.specs.declared.answer.Answer.TheVariants.{Made, TooLate, Unsaved, JournalFailed}
use Rattle.bg_script.specs.declared.desk_journal.DeskJournal.{DeskJournal}

-- the texts of the orders that the journal keeps, the oldest first; that of the order in doubt, if there is one; the number
-- of outcomes since the newest event that it was given; and whether the text of an order was lost for lack of memory
pub record JournalState : Type 0 where
  pub kept : List (List ℕ)
  pub doubt : List (List ℕ)
  pub known : ℕ
  pub is_lost : Bool

-- the state of a desk's journal, by what its disk keeps and what is in doubt
abbrev pub journal_state : {J : Type 0} → (J → List (List ℕ)) → (J → List (List ℕ)) → DeskJournal J → JournalState
journal_state kept doubt j = record {
  kept = kept j.journal;
  doubt = doubt j.journal;
  known = j.known;
  is_lost = j.is_lost;
}

-- an earlier order could not be saved
abbrev pub IsBehind : JournalState → Type 0
IsBehind j = (j.is_lost ≡ true) ⊎ (j.doubt ≢ [])

-- the order that was in doubt is kept
abbrev pub without_doubt : JournalState → JournalState
without_doubt j = record j { kept = j.kept ++ j.doubt; doubt = [] }

-- whether each earlier order is kept, and the journal then
abbrev pub Readies : JournalState → Bool → JournalState → Type 0
Readies j true next = (j.is_lost ≡ false) × (next ≡ without_doubt j)
Readies j false next = IsBehind j × (next ≡ j)

-- the journal, which keeps this text of an order with n outcomes too
abbrev pub with_text : JournalState → List ℕ → ℕ → JournalState
with_text j text n = record j { kept = j.kept ++ text ∷ []; doubt = []; known = n }

-- the journal, and this text of an order with n outcomes in doubt
abbrev pub with_doubt : JournalState → List ℕ → ℕ → JournalState
with_doubt j text n = record j { doubt = text ∷ []; known = n }

-- the journal after the text of an order with n outcomes was lost
abbrev pub without_order : JournalState → ℕ → JournalState
without_order j n = record j { known = n; is_lost = true }

-- whether the text of an order with n outcomes is kept, and the journal then
abbrev pub SavesText : Option (String Global) → ℕ → JournalState → Bool → JournalState → Type 0
SavesText (Some text) n j true next = next ≡ with_text j (string_bytes text) n
SavesText (Some text) n j false next = next ≡ with_doubt j (string_bytes text) n
SavesText None n j true next = ⊥
SavesText None n j false next = next ≡ without_order j n

-- this is the text of the entries, and each of them has a line
abbrev pub IsTextOf : Result (Vec Entry Global) AllocError → List ℕ → Type 0
IsTextOf (Ok entries) text = (entries_text entries.items ≡ text) × (list_all is_journaled entries.items ≡ true)
IsTextOf (Err refused) text = ⊥

-- the answer to an order that was carried out, and the journal then
abbrev pub SavesOrder : Recorded → JournalState → Answer → JournalState → Type 0
SavesOrder recorded j (Made (Done n)) next =
    (n ≡ recorded.outcomes)
    × ((text : List ℕ) × IsTextOf recorded.entries text × (next ≡ with_text j text n))
SavesOrder recorded j (Unsaved n) next =
    (n ≡ recorded.outcomes)
    × (((text : List ℕ) × IsTextOf recorded.entries text × (next ≡ with_doubt j text n))
    ⊎ (next ≡ without_order j n))
SavesOrder recorded j _ next = ⊥

-- the entries of an order with n outcomes that this journal lacks, the oldest first
abbrev pub entries_for : JournalState → Routing → ℕ → Routing → List Entry
entries_for j b n new = reverse (order_entries j.known b.past n new.past)

-- these are the entries of an order with n outcomes, and this is their text
pub record IsOrder (j : JournalState) (b : Routing) (n : ℕ) (new : Routing) (text : List ℕ) : Type 0 where
  pub text_is : entries_text (entries_for j b n new) ≡ text
  pub journaled : list_all is_journaled (entries_for j b n new) ≡ true

-- the order is not known to be on the disk: its text is in doubt, or was lost
abbrev pub IsUnsaved : JournalState → Routing → ℕ → Routing → JournalState → Type 0
IsUnsaved j b n new next =
    ((text : List ℕ) × IsOrder j b n new text × (next ≡ with_doubt (without_doubt j) text n))
    ⊎ (next ≡ without_order (without_doubt j) n)

-- the answer of a book to an order that is given to it only under a condition, and the journal then. `ok` is answered only
-- if the journal keeps the text of the order.
abbrev pub BookReplies : (Routing → Bool → Type 0) → JournalState → Control → Answer → JournalState → Type 0
BookReplies condition j event (Made (Done n)) next =
    (b : Routing) × ((new : Routing) × (condition b true × AnswersControlCompacting b event (Done n) new
    × ((text : List ℕ) × IsOrder j b n new text × (next ≡ with_text (without_doubt j) text n))))
BookReplies condition j event (Unsaved n) next =
    (b : Routing) × ((new : Routing) × (condition b true × AnswersControlCompacting b event (Done n) new
    × IsUnsaved j b n new next))
BookReplies condition j event (Made (ControlRefused fault)) next =
    (b : Routing) × ((new : Routing) × (condition b true
    × AnswersControlCompacting b event (ControlRefused fault) new × (next ≡ without_doubt j)))
BookReplies condition j event TooLate next =
    (b : Routing) × (condition b false × (next ≡ without_doubt j))
BookReplies condition j event _ next = ⊥

-- the answer to an order, and the journal then: a book is asked only if each earlier order is kept
abbrev pub OrderReply : (Routing → Bool → Type 0) → JournalState → Control → Answer → JournalState → Type 0
OrderReply condition j event JournalFailed next = IsBehind j × (next ≡ j)
OrderReply condition j event said next = (j.is_lost ≡ false) × BookReplies condition j event said next

-- the text of a bound of request numbers, which is kept then or in doubt if each earlier order is kept
abbrev pub AppendsBound : JournalState → List ℕ → JournalState → Type 0
AppendsBound j text next =
    (IsBehind j × (next ≡ j))
    ⊎ ((j.is_lost ≡ false) × ((next ≡ with_text (without_doubt j) text j.known)
    ⊎ (next ≡ with_doubt (without_doubt j) text j.known)))
