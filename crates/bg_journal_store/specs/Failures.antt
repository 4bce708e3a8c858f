-- Why a call on a journal fails: the cause of each fault.
use Rattle.std.specs.Prelude.{◌≡◌, ◌+◌, ◌^◌, ◌<◌, ◌⊎◌, ℕ, false, List, [], length, slice_index_or, IsTrue, IsUtf8, ⊤}
use Rattle.sqlite_disk.specs.Disk.{MoreFaults}
use Rattle.sqlite_rules.specs.Edit.{next_rowid}
use Rattle.sqlite_sql.specs.Ops.{fits_i64}
use Rattle.sqlite.specs.declared.error.ErrorCode.TheVariants.{NoRowid}
use Rattle.sqlite.specs.declared.error.Error.TheVariants.{SqliteFailure}
use Rattle.sqlite.specs.declared.types.Value.{Value}
use Rattle.sqlite.specs.declared.types.Value.TheVariants.{Text}
use Rattle.sqlite.specs.Order.{Row, column}
use Rattle.sqlite.specs.Reading.{read_error}
use Rattle.sqlite.specs.Values.{text_refusal}
use Rattle.sqlite.specs.State.{State}
use Rattle.bg_journal_store.specs.declared.fault.JournalFault.{JournalFault}
use Rattle.bg_journal_store.specs.declared.fault.JournalFault.TheVariants.{OutOfMemory, Damaged, Io, DiskFull, Closed, TooLong, Refused}

-- Memory is short, the disk has failed or refused once more, or the journal was closed before. The kit names no cause for short memory.
abbrev pub FailsBelow : State → State → JournalFault → Type 0
FailsBelow old new OutOfMemory = ⊤
FailsBelow old new Damaged = MoreFaults old.faults new.faults
FailsBelow old new Io = MoreFaults old.faults new.faults
FailsBelow old new DiskFull = MoreFaults old.faults new.faults
FailsBelow old new Closed = old.is_open ≡ false
FailsBelow old new _ = ⊥

-- A row has at most a billion bytes, with 18 for the type and the number of each of its three values.
abbrev pub IsTooLong : List ℕ → Type 0
IsTooLong text = 10 ^ 9 < 54 + length text

-- the last order has the greatest number of an i64
abbrev pub IsFull : State → Type 0
IsFull s = fits_i64 (next_rowid (s.now.trees 0)) ≡ false

-- The kit says nothing of the length if the journal was closed before.
abbrev pub FailsToAppend : State → State → List ℕ → JournalFault → Type 0
FailsToAppend old new text TooLong = IsTrue old.is_open → IsTooLong text
FailsToAppend old new text (Refused error) = (error ≡ SqliteFailure NoRowid) × IsFull old
FailsToAppend old new text fault = FailsBelow old new fault

abbrev pub IsReadable : Value → Type 0
IsReadable value = (text : List ℕ) × (value ≡ Text text) × IsUtf8 text

-- the value is no text in UTF-8, and the fault says so
abbrev pub IsUnreadable : Value → JournalFault → Type 0
IsUnreadable value fault = (¬ IsReadable value) × (fault ≡ Refused (read_error 0 value (text_refusal value)))

-- the first value of the row, if it has one
abbrev pub HidesText : Row → JournalFault → Type 0
HidesText row fault = 0 < length row → IsUnreadable (column row 0) fault

-- memory is short, or a row hides its text
abbrev pub FailsToShowTexts : List Row → JournalFault → Type 0
FailsToShowTexts rows fault = (fault ≡ OutOfMemory) ⊎ ((at : ℕ) × (at < length rows) × HidesText (slice_index_or rows at []) fault)

-- The text of an order is unreadable, or the fault comes from below. The kit does not exclude `TooLong` if the journal was closed before.
abbrev pub FailsToRead : State → State → JournalFault → Type 0
FailsToRead old new TooLong = old.is_open ≡ false
FailsToRead old new (Refused error) =
    (at : ℕ) × (at < length (old.now.trees 0)) × IsUnreadable (column (slice_index_or (old.now.trees 0) at []) 2) (Refused error)
FailsToRead old new fault = FailsBelow old new fault
