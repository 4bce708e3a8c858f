-- When a start refuses a journal: the rows that were read, by each fault.
use Rattle.std.specs.Prelude.{◌≡◌, ◌≢◌, ◌⊎◌, ℕ, ◌+◌, true, List, [], ◌∷◌, ◌++◌, IsTrue, None, ⊤}
use Rattle.sqlite.specs.Held.{Held, state}
use Rattle.sqlite.specs.State.{HasCleanDisk}
use Rattle.sqlite_trees.specs.declared.store.Store.{Ghosts}
use Rattle.bg_history.specs.declared.entry.Entry.{Entry}
use Rattle.bg_history.specs.declared.entry.Entry.TheVariants.{Deploy}
use Rattle.bg_journal.specs.Bounds.{bound_in}
use Rattle.bg_journal.specs.Faults.{IsFirstBadLine}
use Rattle.bg_journal.specs.Texts.{entry_text, is_journaled}
use Rattle.bg_journal_store.specs.Failures.{FailsToAppend, FailsToRead}
use Rattle.bg_journal_store.specs.Journal.{texts_in}
use Rattle.bg_journal_store.specs.declared.fault.JournalFault.{JournalFault}
use Rattle.bg_script.specs.Survival.{AreReadFrom}
use Rattle.bg_order_journal.specs.FirstRow.{HasOtherSettings, first_row}
use Rattle.bg_order_journal.specs.Starts.{order_count}
use Rattle.bg_order_journal.specs.declared.start_fault.StartFault.{StartFault}
use Rattle.bg_order_journal.specs.declared.start_fault.StartFault.TheVariants.{BadLine, Changed, Journal, NoFirstRevision, NoStrategy, NotNew, OtherStrategy, OutOfMemory}

-- A journal was open, its rows were read, and they are so. It says nothing of the rows if the disk did not return what was
-- written.
pub record WasRead {S : Type 0} (g : Ghosts S) (AreSo : List (List ℕ) → Type 0) : Type 0 where
  pub journal : Held S
  pub rows : List (List ℕ)
  pub are_read : HasCleanDisk (state g journal) → IsTrue (state g journal).is_open × (texts_in (state g journal).now.trees ≡ rows)
  pub are_so : AreSo rows

-- the settings are followed by something else than the line of a first revision
abbrev pub NamesNoRevision : List ℕ → List ℕ → Type 0
NamesNoRevision settings row =
    (rest : List ℕ) × (row ≡ settings ++ rest)
    × ((name ports : List ℕ) → is_journaled (Deploy 1 name ports) ≡ true → rest ≢ entry_text (Deploy 1 name ports))

-- the entry deploys no first revision
abbrev pub DeployFaultIs : Entry → StartFault → Type 0
DeployFaultIs entry NoFirstRevision = (name ports : List ℕ) → entry ≢ Deploy 1 name ports
DeployFaultIs entry OutOfMemory = ⊤
DeployFaultIs entry _ = ⊥

-- why the first row of a journal names no first revision of this strategy
abbrev pub FirstRowFaultIs : List ℕ → List ℕ → StartFault → Type 0
FirstRowFaultIs settings row OtherStrategy = HasOtherSettings settings row
FirstRowFaultIs settings row NoFirstRevision = NamesNoRevision settings row
FirstRowFaultIs settings row OutOfMemory = ⊤
FirstRowFaultIs settings row _ = ⊥

-- a line of this order is that of no entry
abbrev pub OrderFaultIs : List ℕ → ℕ → StartFault → Type 0
OrderFaultIs text order (BadLine number line) = (number ≡ order) × IsFirstBadLine text line
OrderFaultIs text order OutOfMemory = ⊤
OrderFaultIs text order _ = ⊥

-- the texts before this order are read, and the fault is one of this order
abbrev pub OrdersFaultIs : List (List ℕ) → StartFault → Type 0
OrdersFaultIs texts fault =
    (before : List (List ℕ)) × (text : List ℕ) × (later : List (List ℕ)) × (texts ≡ before ++ text ∷ later)
    × ((entries : List Entry) × AreReadFrom before entries) × (bound_in text ≡ None) × OrderFaultIs text (order_count before + 1) fault

-- the fault of a journal with these rows
abbrev pub RowsFaultIs : List ℕ → List (List ℕ) → StartFault → Type 0
RowsFaultIs settings [] fault = ⊥
RowsFaultIs settings (row ∷ texts) (BadLine order line) =
    ((name ports : List ℕ) × (row ≡ first_row settings name ports)) × OrdersFaultIs texts (BadLine order line)
RowsFaultIs settings (row ∷ texts) fault = FirstRowFaultIs settings row fault

-- A call on an open journal has failed. It says nothing of the fault if the disk did not return what was written.
pub record HasFailed {S : Type 0} (g : Ghosts S) (why : JournalFault) : Type 0 where
  pub before : Held S
  pub after : Held S
  pub call : HasCleanDisk (state g after)
      → FailsToRead (state g before) (state g after) why ⊎ ((text : List ℕ) × FailsToAppend (state g before) (state g after) text why)

-- what opens the journal has failed by this fault, or a call on the journal has
abbrev pub FailsBelow : {S : Type 0} → Ghosts S → (JournalFault → Type 0) → JournalFault → Type 0
FailsBelow g Fails why = Fails why ⊎ HasFailed g why

-- why a journal is not opened for this strategy, if it may fail below by these faults; nothing says when memory is short
abbrev pub FailsToOpen : {S : Type 0} → Ghosts S → (JournalFault → Type 0) → List ℕ → StartFault → Type 0
FailsToOpen g Fails settings OutOfMemory = ⊤
FailsToOpen g Fails settings (Journal why) = FailsBelow g Fails why
FailsToOpen g Fails settings fault = WasRead g (λ rows. RowsFaultIs settings rows fault)

-- why the strategy of a journal is not read
abbrev pub FailsToName : {S : Type 0} → Ghosts S → (JournalFault → Type 0) → StartFault → Type 0
FailsToName g Fails OutOfMemory = ⊤
FailsToName g Fails (Journal why) = FailsBelow g Fails why
FailsToName g Fails NoStrategy = WasRead g (λ rows. rows ≢ [])
FailsToName g Fails _ = ⊥

-- there are rows, and they are not this first one alone
abbrev pub HaveMore : List ℕ → List (List ℕ) → Type 0
HaveMore first rows = (rows ≢ []) × (rows ≢ first ∷ [])

-- why a journal is not begun with this first row
abbrev pub FailsToBegin : {S : Type 0} → Ghosts S → (JournalFault → Type 0) → List ℕ → StartFault → Type 0
FailsToBegin g Fails first OutOfMemory = ⊤
FailsToBegin g Fails first (Journal why) = FailsBelow g Fails why
FailsToBegin g Fails first NotNew = WasRead g (HaveMore first)
FailsToBegin g Fails first _ = ⊥

-- Why a journal with these rows does not go on in the file of its database alone. The value of a journal does not show what
-- opens it, so this says nothing of its faults.
abbrev pub FailsToMove : {S : Type 0} → Ghosts S → List (List ℕ) → StartFault → Type 0
FailsToMove g rows OutOfMemory = ⊤
FailsToMove g rows (Journal why) = ⊤
FailsToMove g rows Changed = WasRead g (λ found. found ≢ rows)
FailsToMove g rows _ = ⊥

-- why a journal is not begun with these two rows in the file of its database alone
abbrev pub FailsToBeginInFile : {S : Type 0} → Ghosts S → List ℕ → List ℕ → StartFault → Type 0
FailsToBeginInFile g first second Changed = FailsToMove g (first ∷ second ∷ []) Changed
FailsToBeginInFile g first second (Journal why) = ⊤
FailsToBeginInFile g first second fault = FailsToBegin g (λ _. ⊥) first fault
