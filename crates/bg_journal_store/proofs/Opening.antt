-- A database that is opened as a journal.
use Rattle.std.proofs.Common.{◌≡◌, ◌≢◌, inl, inr, ℕ, List, [], ◌∷◌, true, refl, sym, ap, subst, ◌∙◌}
use Rattle.std.proofs.Math.Logic.{∥∥₁_elim}
use mathlib.Core.HLevel.{×_prop}
use Rattle.sqlite.specs.Effect.{Database}
use Rattle.sqlite.specs.State.{State, IsUnchanged, IsLive, Opens}
use Rattle.sqlite.specs.Files.{AreFoundIn}
use Rattle.sqlite_wal.specs.Recovery.{Image}
use Rattle.sqlite_trees.specs.Tree.{Trees}
use Rattle.sqlite_trees.specs.Objects.{catalog_tree}
use Rattle.sqlite_trees.specs.View.{IsShaped}
use Rattle.sqlite_trees.specs.Props.{IsShaped-prop}
use Rattle.sqlite_trees.specs.declared.store.Shape.TheVariants as shape
use Rattle.sqlite_store.specs.Listed.{catalog_rows, is_listed}
use Rattle.sqlite_pages.specs.PageMap.{PageMap}
use Rattle.sqlite_pool.specs.File.{version_in}
use Rattle.sqlite_store.specs.declared.catalog.Wanted.{Wanted as CatalogRow}
use Rattle.sqlite_store.specs.Listing.{listed_from, file_trees, all_shapes, IsOurs}
use Rattle.sqlite_store.proofs.ListingLemmas.{listing_shaped, all_ordered}
use Rattle.sqlite_catalog.specs.Listing.{IsSound, Lists}
use Rattle.sqlite_catalog.proofs.LayoutLemmas.{table_shape}
use Rattle.bg_journal_store.specs.Schema.{entries, settings, journal_schema, no_schema, version}
use Rattle.bg_journal_store.specs.declared.fault.JournalFault.{JournalFault}
use Rattle.bg_journal_store.specs.declared.fault.JournalFault.TheVariants as fault
use Rattle.bg_journal_store.specs.Journal.{settings_in, IsJournal, HasTables, IsBlank, IsLeft, Refuses}
use Rattle.bg_journal_store.proofs.Kept.{Settles}

pub has_version : {s new : State} → HasTables s → IsUnchanged s new → settings_in s.now.trees ≡ version ∷ [] → IsJournal new
has_version tables same written = record {
  is_open = same.0.is_open;
  autocommit = same.0.mode ∙ tables.autocommit;
  schema = ap (λ (d : Database). d.schema) same.0.now_is ∙ tables.schema;
  committed = same.0.committed_is ∙ tables.committed ∙ sym same.0.now_is;
  numbered = subst (λ (d : Database). IsShaped shape.Table (d.trees 0)) (sym same.0.now_is) tables.numbered;
  version = ap (λ (d : Database). settings_in d.trees) same.0.now_is ∙ written;
}

-- an open database whose schema is the journal's
pub sound_as : {s : State} → Opens s → IsLive s → s.now.schema ≡ journal_schema → IsSound journal_schema s.now.trees
sound_as {s} opened live is = subst (λ schema. IsSound schema s.now.trees) is (live opened.is_open).0

pub blank_as : {s : State} → Opens s → IsLive s → s.now.schema ≡ no_schema → IsSound no_schema s.now.trees
blank_as {s} opened live is = subst (λ schema. IsSound schema s.now.trees) is (live opened.is_open).0

pub has_tables : {s : State} → Opens s → s.now.schema ≡ journal_schema → IsShaped shape.Table (s.now.trees 0) × IsShaped shape.Table (s.now.trees 1) → HasTables s
has_tables opened is shaped = record { is_open = opened.is_open; autocommit = opened.autocommit; schema = is; committed = sym opened.clean; numbered = shaped.0; listed = shaped.1 }

pub is_blank : {s : State} → Opens s → s.now.schema ≡ no_schema → IsBlank s
is_blank opened is = record { is_open = opened.is_open; autocommit = opened.autocommit; schema = is }

shaped_as : (size : ℕ) (pages : PageMap) (rows : List CatalogRow) (db : Trees) (tree : ℕ) → IsOurs size true rows pages → db ≡ file_trees size rows pages → all_shapes rows tree ≡ shape.Table
    → IsShaped shape.Table (db tree)
shaped_as size pages rows db tree ours is shaped =
    let there : IsShaped (all_shapes rows tree) (file_trees size rows pages tree) = all_ordered ours.file.db (version_in pages) tree in
    subst (λ s. IsShaped s (db tree)) shaped (subst (λ (d : Trees). IsShaped (all_shapes rows tree) (d tree)) (sym is) there)

-- the rows that an open finds are in the order of their numbers
pub found_shaped : (image : Image) (db : Trees) → AreFoundIn image db → IsSound journal_schema db → IsShaped shape.Table (db 0) × IsShaped shape.Table (db 1)
found_shaped image db (inl h) sound =
    let rows = h.2 in
    let is : db catalog_tree ≡ listed_from 0 rows = ap (λ (d : Trees). d catalog_tree) h.5 ∙ catalog_rows h.0 rows _ in
    let lists : Lists (listed_from 0 rows) journal_schema = subst (λ objects. Lists objects journal_schema) is sound.lists in
    let first = table_shape (is_listed rows) (listing_shaped 0 rows).0 lists.listed entries (inl refl) in
    let second = table_shape (is_listed rows) (listing_shaped 0 rows).0 lists.listed settings (inr (inl refl)) in
    ∥∥₁_elim h.4 (×_prop (IsShaped-prop shape.Table (db 0)) (IsShaped-prop shape.Table (db 1)))
    (λ ours. (shaped_as h.0 h.1 rows db 0 ours h.5 first.0, shaped_as h.0 h.1 rows db 1 ours h.5 second.0))
found_shaped image db (inr h) sound = absurd (rw h.1.1 at sound.lists.listed.tables)

-- no database has both schemas
pub one_schema : (db : Trees) → IsSound journal_schema db → ¬ IsSound no_schema db
one_schema db journal none = go _ journal.lists.listed.tables none.lists.listed.tables
  where
    go : (rows : List _) → Rattle.std.specs.List.AllZip Rattle.sqlite_catalog.specs.Listing.IsTableRow rows (entries ∷ settings ∷ []) → Rattle.std.specs.List.AllZip Rattle.sqlite_catalog.specs.Listing.IsTableRow rows [] → ⊥
    go [] some none = some
    go (row ∷ rows) some none = none

-- a call that changed nothing between two statements
pub left_as : {old new : State} → old.committed ≡ old.now → IsUnchanged old new → Settles new → IsLeft old new
left_as last same settles = record {
  now = same.0.now_is;
  committed = same.0.committed_is ∙ last;
  durable = λ db may. settles same.0.is_open db may ∙ ap (λ (d : Database). d.trees) (same.0.committed_is ∙ last);
}

-- an open database that was not touched
pub left_alone : {s : State} → Opens s → Settles s → IsLeft s s
left_alone opened settles = record {
  now = refl;
  committed = sym opened.clean;
  durable = λ db may. settles opened.is_open db may ∙ ap (λ (d : Database). d.trees) (sym opened.clean);
}

-- another fault refuses nothing
pub other_fault : (old new : State) (why : JournalFault) → (why ≢ fault.OtherSchema) × (why ≢ fault.OtherVersion) → Refuses old new why
other_fault old new fault.OtherSchema other = absurd (other.0 refl)
other_fault old new fault.OtherVersion other = absurd (other.1 refl)
other_fault old new fault.OutOfMemory other = tt
other_fault old new fault.Busy other = tt
other_fault old new fault.CannotOpen other = tt
other_fault old new fault.NoDatabase other = tt
other_fault old new fault.Damaged other = tt
other_fault old new fault.Io other = tt
other_fault old new fault.DiskFull other = tt
other_fault old new fault.Closed other = tt
other_fault old new fault.TooLong other = tt
other_fault old new (fault.Refused error) other = tt
