-- What a database stands for as a journal of orders.
use Rattle.std.specs.Prelude.{◌≡◌, ◌≢◌, ◌⊎◌, ℕ, false, List, [], ◌∷◌, ◌++◌, map, IsTrue, ⊤}
use Rattle.sqlite.specs.declared.types.Value.{Value}
use Rattle.sqlite.specs.declared.types.Value.TheVariants.{Text}
use Rattle.sqlite.specs.Order.{Row, column}
use Rattle.sqlite_trees.specs.Tree.{Trees}
use Rattle.sqlite_trees.specs.View.{IsShaped}
use Rattle.sqlite_trees.specs.declared.store.Shape.TheVariants as shape
use Rattle.sqlite.specs.State.{State, HasCleanDisk}
use Rattle.sqlite_wal.specs.Recovery.{Image}
use Rattle.sqlite.specs.Files.{AreFoundIn, HoldsDatabase, file_state}
use Rattle.sqlite.specs.Held.{Held}
use Rattle.sqlite_disk.specs.declared.Disk.{Ghosts}
use Rattle.sqlite_store.specs.declared.store.FileStore.{FileStore}
use Rattle.sqlite_store.specs.FileStore.{view, state as store_state}
use Rattle.sqlite_catalog.specs.Listing.{IsSound}
use Rattle.bg_journal_store.specs.declared.fault.JournalFault.{JournalFault}
use Rattle.bg_journal_store.specs.declared.fault.JournalFault.TheVariants.{OtherSchema, OtherVersion}
use Rattle.bg_journal_store.specs.Schema.{journal_schema, no_schema, version}

abbrev pub text_in : Value → List ℕ
text_in (Text text) = text
text_in _ = []

-- the text of a row of a table of texts: column 0 is the rowid, 1 the number, 2 the text
abbrev pub row_text : Row → List ℕ
row_text row = text_in (column row 2)

-- the text that a query of one column shows
abbrev pub shown_text : Row → List ℕ
shown_text row = text_in (column row 0)

-- the texts of a table, in the order of their numbers
abbrev pub texts_at : ℕ → Trees → List (List ℕ)
texts_at tree db = map row_text (db tree)

-- the texts of the orders
abbrev pub texts_in : Trees → List (List ℕ)
texts_in = texts_at 0

-- the texts of the settings
abbrev pub settings_in : Trees → List (List ℕ)
settings_in = texts_at 1

-- an open journal between two orders
pub record IsJournal (s : State) : Type 0 where
  pub is_open : IsTrue s.is_open
  pub autocommit : s.in_transaction ≡ false
  pub schema : s.now.schema ≡ journal_schema
  pub committed : s.committed ≡ s.now
  pub numbered : IsShaped shape.Table (s.now.trees 0)
  pub version : settings_in s.now.trees ≡ version ∷ []

-- unless a failure of the disk has closed it
abbrev pub HoldsJournal : State → Type 0
HoldsJournal s = HasCleanDisk s → IsTrue s.is_open → IsJournal s

-- whatever a crash leaves at this moment reads as these texts
abbrev pub LeavesOnly : State → List (List ℕ) → Type 0
LeavesOnly s texts = (db : Trees) → s.may_leave db → texts_in db ≡ texts

abbrev pub LeavesEither : State → List (List ℕ) → List (List ℕ) → Type 0
LeavesEither s before after = (db : Trees) → s.may_leave db → (texts_in db ≡ before) ⊎ (texts_in db ≡ after)

-- whatever a crash leaves at this moment is a database with the tables of a journal
abbrev pub LeavesJournals : State → Type 0
LeavesJournals s = (db : Trees) → s.may_leave db → IsSound journal_schema db

-- The text comes after those that were there. A crash leaves all of them.
pub record Appends (old new : State) (text : List ℕ) : Type 0 where
  pub was_open : IsTrue old.is_open
  pub journal : IsJournal new
  pub texts : texts_in new.now.trees ≡ texts_in old.now.trees ++ text ∷ []
  pub durable : LeavesOnly new (texts_in old.now.trees ++ text ∷ [])

-- The texts are those that were there, and a crash leaves them.
pub record Keeps (old new : State) : Type 0 where
  pub was_open : IsTrue old.is_open
  pub journal : IsJournal new
  pub texts : texts_in new.now.trees ≡ texts_in old.now.trees
  pub durable : LeavesOnly new (texts_in old.now.trees)

-- an open database between two statements, before its version is read
pub record HasTables (s : State) : Type 0 where
  pub is_open : IsTrue s.is_open
  pub autocommit : s.in_transaction ≡ false
  pub schema : s.now.schema ≡ journal_schema
  pub committed : s.committed ≡ s.now
  pub numbered : IsShaped shape.Table (s.now.trees 0)
  pub listed : IsShaped shape.Table (s.now.trees 1)

-- an open database with no table, between two statements
pub record IsBlank (s : State) : Type 0 where
  pub is_open : IsTrue s.is_open
  pub autocommit : s.in_transaction ≡ false
  pub schema : s.now.schema ≡ no_schema

-- The texts are those of the journal that the database was, or none where the database had no table.
abbrev pub ComesFrom : Trees → List (List ℕ) → Type 0
ComesFrom db texts = (IsSound journal_schema db × (texts ≡ texts_in db)) ⊎ (IsSound no_schema db × (texts ≡ []))

-- The database is as it was, and a crash leaves it.
pub record IsLeft (old new : State) : Type 0 where
  pub now : new.now ≡ old.now
  pub committed : new.committed ≡ old.now
  pub durable : (db : Trees) → new.may_leave db → db ≡ old.now.trees

-- a database that is not taken as a journal, since its schema or its version is another one
abbrev pub Refuses : State → State → JournalFault → Type 0
Refuses old new OtherSchema = (old.now.schema ≢ journal_schema) × (old.now.schema ≢ no_schema) × IsLeft old new
Refuses old new OtherVersion = (old.now.schema ≡ journal_schema) × (settings_in old.now.trees ≢ version ∷ []) × IsLeft old new
Refuses old new _ = ⊤

-- The texts come from what the files held: from their database, if they held one.
pub record OpensFrom (image : Image) (texts : List (List ℕ)) : Type 0 where
  pub found : Trees
  pub holds : (db : Trees) → HoldsDatabase image db → found ≡ db
  pub reads : AreFoundIn image found
  pub comes : ComesFrom found texts

-- Whatever a crash leaves while the journal is open, the texts that the next open takes from it are those of the journal.
abbrev pub SurvivesCrash : {D : Type 0} {g : Ghosts D} → Held (FileStore D g) → Type 0
SurvivesCrash journal =
    IsJournal (file_state journal) → IsTrue (view journal.store).is_numbered
    → (left : Image) → (store_state journal.store).may_leave left → (texts : List (List ℕ)) → OpensFrom left texts
    → texts ≡ texts_in (file_state journal).now.trees

-- Whatever a crash leaves after a failure, which may have closed the journal, the texts that the next open takes from it are
-- those before the failed call or those with its text.
abbrev pub SurvivesFailure : {D : Type 0} {g : Ghosts D} → Held (FileStore D g) → Type 0
SurvivesFailure journal =
    (before after : List (List ℕ)) → LeavesJournals (file_state journal) → LeavesEither (file_state journal) before after
    → IsTrue (view journal.store).is_numbered
    → (left : Image) → (store_state journal.store).may_leave left → (texts : List (List ℕ)) → OpensFrom left texts
    → (texts ≡ before) ⊎ (texts ≡ after)
