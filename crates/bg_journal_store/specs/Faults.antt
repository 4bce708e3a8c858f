-- The faults of a journal, by the errors of the database.
use Rattle.sqlite.specs.declared.error.ErrorCode.TheVariants as code
use Rattle.sqlite.specs.declared.error.Error.{Error}
use Rattle.sqlite.specs.declared.error.Error.TheVariants.{SqliteFailure}
use Rattle.bg_journal_store.specs.declared.fault.JournalFault.{JournalFault}
use Rattle.bg_journal_store.specs.declared.fault.JournalFault.TheVariants.{OutOfMemory, Busy, CannotOpen, NoDatabase, Damaged, Io, DiskFull, Closed, TooLong, Refused}

abbrev pub fault_of : Error → JournalFault
fault_of (SqliteFailure code.OutOfMemory) = OutOfMemory
fault_of (SqliteFailure code.DatabaseBusy) = Busy
fault_of (SqliteFailure code.CannotOpen) = CannotOpen
fault_of (SqliteFailure code.NotADatabase) = NoDatabase
fault_of (SqliteFailure code.DatabaseCorrupt) = Damaged
fault_of (SqliteFailure code.SystemIoFailure) = Io
fault_of (SqliteFailure code.DiskFull) = DiskFull
fault_of (SqliteFailure code.Closed) = Closed
fault_of (SqliteFailure code.TooBig) = TooLong
fault_of other = Refused other
