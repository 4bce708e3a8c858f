-- What the statements that make a journal do.
use Rattle.std.proofs.Common.{◌≡◌, ℕ, pos, List, [], ◌∷◌, map, codes, false, None, Ok, IsTrue, refl, sym, ap, subst, ◌∙◌, arith}
use Rattle.sqlite.specs.declared.types.Value.TheVariants.{Null, Int, Text}
use Rattle.sqlite.specs.Order.{Row}
use Rattle.sqlite.specs.Term.{Term, lit, col}
use Rattle.sqlite.specs.Source.TheVariants.{Values}
use Rattle.sqlite.specs.Schema.{Schema}
use Rattle.sqlite.specs.Table.{Table}
use Rattle.sqlite.specs.Command.{Command}
use Rattle.sqlite.specs.Command.TheVariants.{CreateTable, Insert}
use Rattle.sqlite.specs.Compile.{table_defined_by}
use Rattle.sqlite.specs.Change.{created, next_tree, KeepsRows}
use Rattle.sqlite.specs.Edit.{edit_of, edited}
use Rattle.sqlite.specs.Rowids.TheVariants.{Chosen}
use Rattle.sqlite.specs.Does.{Tally, Does, lacks_sequence}
use Rattle.sqlite.specs.Rows.{Written}
use Rattle.sqlite_trees.specs.Tree.{Trees}
use Rattle.sqlite_trees.specs.declared.store.Shape.TheVariants as shape
use Rattle.sqlite_trees.specs.View.{IsShaped}
use Rattle.sqlite_tied.specs.Compute.{everything}
use Rattle.sqlite.specs.Listing.{understood}
use Rattle.sqlite.specs.Effect.{Database}
use Rattle.sqlite.specs.State.{State, mode_of, Writes, Executes, ExecutesInside, Shows}
use Rattle.sqlite.proofs.Callers.{IsPlain, command_of, statement_of, runs_as, one_step}
use Rattle.bg_journal_store.specs.Schema.{texts_table, entries, settings, schema_of, no_schema, journal_schema, version}
use Rattle.bg_journal_store.specs.Journal.{row_text, texts_in, settings_in, IsJournal}
use Rattle.bg_journal_store.proofs.Outcomes.{went, same_value}
use Rattle.bg_journal_store.proofs.Inserting.{cast_null}

abbrev pub entries_text : List ℕ
entries_text = codes "CREATE TABLE entries (number INTEGER PRIMARY KEY, text TEXT NOT NULL) STRICT"

abbrev pub settings_text : List ℕ
settings_text = codes "CREATE TABLE settings (number INTEGER PRIMARY KEY, text TEXT NOT NULL) STRICT"

abbrev pub version_text : List ℕ
version_text = codes "INSERT INTO settings (text) VALUES (?1)"

abbrev entries_schema : Schema
entries_schema = schema_of (entries ∷ [])

-- a table as its text defines it, before it has a tree of its own
abbrev settings_made : Table
settings_made = texts_table (codes "settings") 0

entries_is : (command_of (understood no_schema entries_text) ≡ CreateTable) × (statement_of entries_text (understood no_schema entries_text) ≡ entries_text) × (table_defined_by entries_text ≡ Ok entries)
unfolding understood everything
entries_is = (refl, refl, refl)

settings_is : (command_of (understood entries_schema settings_text) ≡ CreateTable) × (statement_of settings_text (understood entries_schema settings_text) ≡ settings_text) × (table_defined_by settings_text ≡ Ok settings_made)
unfolding understood everything
settings_is = (refl, refl, refl)

entries_plain : IsPlain (understood no_schema entries_text)
unfolding understood everything
entries_plain = (refl, refl)

settings_plain : IsPlain (understood entries_schema settings_text)
unfolding understood everything
settings_plain = (refl, refl)

abbrev terms : List Term
terms = lit Null ∷ lit Null ∷ col 0 0 ∷ []

abbrev insert : Command
insert = Insert 1 (Values terms 3)

version_is : command_of (understood journal_schema version_text) ≡ insert
unfolding understood everything
version_is = refl

version_plain : IsPlain (understood journal_schema version_text)
unfolding understood everything
version_plain = (refl, refl)

creates : (old : State) (before next : Schema) (text : List ℕ) (table : Table) (tally : Tally) (after : Database) → old.now.schema ≡ before → table_defined_by text ≡ Ok table → created before table ≡ next
    → lacks_sequence next ≡ false → Does old.step_limit (mode_of old) [] old.now text None CreateTable (Ok (tally, after))
    → (after.schema ≡ next) × (after.trees (next_tree before) ≡ []) × KeepsRows before.tables old.now.trees after.trees
creates old before next text table tally after has is leads none changed =
    let all = went changed in
    let first = went all.1 in
    let made = first.1 in
    let both : Ok made.table ≡ Ok table = sym made.defined ∙ is in
    let same : made.table ≡ table = cc in
    let schema : first.0.schema ≡ next = made.is ∙ ap (λ s. created s made.table) has ∙ ap (created before) same ∙ leads in
    let plain : lacks_sequence first.0.schema ≡ false = ap lacks_sequence schema ∙ none in
    let now : after ≡ first.0 = ap (λ (p : Tally × Database). p.1) (same_value all.2) ∙ same_value (rw plain at first.2) in (
      ap (λ (d : Database). d.schema) now ∙ schema,
      ap (λ (d : Database). d.trees (next_tree before)) now ∙ subst (λ s. first.0.trees (next_tree s) ≡ []) has made.empty,
      subst (λ (d : Database). KeepsRows before.tables old.now.trees d.trees) (sym now) (subst (λ (s : Schema). KeepsRows s.tables old.now.trees first.0.trees) has made.others),
    )

-- the first table is made
pub record IsBegun (s : State) : Type 0 where
  pub schema : s.now.schema ≡ entries_schema
  pub entries : s.now.trees 0 ≡ []

-- and the second
pub record IsMade (s : State) : Type 0 where
  pub schema : s.now.schema ≡ journal_schema
  pub entries : s.now.trees 0 ≡ []
  pub settings : s.now.trees 1 ≡ []

-- and the version is written
pub record IsWhole (s : State) : Type 0 where
  pub schema : s.now.schema ≡ journal_schema
  pub entries : s.now.trees 0 ≡ []
  pub version : settings_in s.now.trees ≡ version ∷ []

pub begins : (old new : State) (count : ℕ) → old.now.schema ≡ no_schema → Executes entries_text [] old new (Ok count) → IsBegun new
begins old new count blank h =
    let w = subst (λ t. Writes old new None CreateTable t [] count) entries_is.1 (runs_as entries_text [] old new no_schema blank CreateTable entries_is.0 entries_plain count h) in
    let it = creates old no_schema entries_schema entries_text entries w.tally new.now blank entries_is.2 refl refl w.changed in
    record { schema = it.0; entries = it.1 }

pub makes : (old new : State) (count : ℕ) → IsBegun old → Executes settings_text [] old new (Ok count) → IsMade new
makes old new count begun h =
    let w = subst (λ t. Writes old new None CreateTable t [] count) settings_is.1 (runs_as settings_text [] old new entries_schema begun.schema CreateTable settings_is.0 settings_plain count h) in
    let it = creates old entries_schema journal_schema settings_text settings_made w.tally new.now begun.schema settings_is.2 refl refl w.changed in
    record { schema = it.0; entries = it.2.0 ∙ begun.entries; settings = it.1 }

pub completes : (old new : State) (count : ℕ) → IsMade old → Executes version_text (Text version ∷ []) old new (Ok count) → IsWhole new
completes old new count made h =
    let params : Row = Text version ∷ [] in
    let text = statement_of version_text (understood journal_schema version_text) in
    let w : Writes old new None insert text params count = runs_as version_text params old new journal_schema made.schema insert version_is version_plain count h in
    let db = old.now.trees in
    let row : Row = Int (pos 1) ∷ Null ∷ Text version ∷ [] in
    let done = went (subst (λ c. Does old.step_limit (mode_of old) params (record old.now { schema = c }) text None insert (Ok (w.tally, new.now))) made.schema w.changed) in
    let now = ap (λ (p : Tally × Database). p.1) (same_value (went (went done.2).2).2) in
    let given = went done.1 in
    let written = went (went given.2).2 in
    let counted = went written.2 in
    let trees : done.0.trees ≡ written.0 = ap (λ (it : Written). it.trees) (same_value counted.2) ∙ same_value counted.1 in
    let step = one_step journal_schema _ db written.0 (edit_of db settings [] Chosen 0 given.0) refl written.1 in
    let edit : edited db (edit_of db settings [] Chosen 0 given.0) ≡ row ∷ [] = ap (λ all. edited db (edit_of db settings [] Chosen 0 all)) given.1.1 ∙ rw (made.settings, cast_null) in
    let there : new.now.trees 1 ≡ row ∷ [] = ap (λ (d : Database). d.trees 1) now ∙ ap (λ (t : Trees). t 1) trees ∙ step.rows ∙ edit in
    let other : new.now.trees 0 ≡ db 0 = ap (λ (d : Database). d.trees 0) now ∙ ap (λ (t : Trees). t 0) trees ∙ step.tables.0 (λ e. omega (arith, e)) in
    record { schema = ap (λ (d : Database). d.schema) now; entries = other ∙ made.entries; version = ap (map row_text) there }

-- the commit of the whole
pub journal_made : (old new : State) → IsWhole old → Shows old new old.now old.now false → IsJournal new × (texts_in new.now.trees ≡ [])
journal_made old new whole shown =
    let same = shown.now_is in
    let empty : new.now.trees 0 ≡ [] = ap (λ (d : Database). d.trees 0) same ∙ whole.entries in (
      record {
        is_open = shown.is_open;
        autocommit = shown.mode;
        schema = ap (λ (d : Database). d.schema) same ∙ whole.schema;
        committed = shown.committed_is ∙ sym same;
        numbered = subst (IsShaped shape.Table) (sym empty) (tt, tt);
        version = ap (λ (d : Database). settings_in d.trees) same ∙ whole.version;
      },
      ap (map row_text) empty,
    )

-- the three statements in a transaction, and its commit
pub created_whole : (before begun made whole after : State) (counts : ℕ × ℕ × ℕ) → before.now.schema ≡ no_schema → IsTrue before.in_transaction
    → (IsTrue before.in_transaction → ExecutesInside 0 entries_text [] before begun (Ok counts.0))
    → (IsTrue begun.in_transaction → ExecutesInside 0 settings_text [] begun made (Ok counts.1))
    → (IsTrue made.in_transaction → ExecutesInside 0 version_text (Text version ∷ []) made whole (Ok counts.2))
    → Shows whole after whole.now whole.now false → IsJournal after × (texts_in after.now.trees ≡ [])
created_whole before begun made whole after counts blank inside one two three =
    let first = one inside in
    let second = two first.1.mode in
    let third = three second.1.mode in
    journal_made whole after (completes made whole counts.2 (makes begun made counts.1 (begins before begun counts.0 blank first.0) second.0) third.0)
