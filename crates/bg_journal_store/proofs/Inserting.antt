-- What the insert of a text does.
use Rattle.std.proofs.Common.{◌≡◌, inl, inr, ℕ, ℤ, pos, ◌+ℤ◌, ◌<ℤ◌, List, [], ◌∷◌, ◌++◌, map, fold, Bool, true, false, cond, None, Ok, Err, Result, Less, int_cmp, IsTrue, OnOk, OnErr, refl, sym, ap, subst, subst₂, ◌∙◌, arith}
use Rattle.std.proofs.lemmas.Bool.Decides.{nat_tests}
use Rattle.std.proofs.lemmas.Bool.{cases_Bool}
use Rattle.std.proofs.lemmas.Int.{ints}
use Rattle.std.specs.List.{AllByRecursion}
use Rattle.sqlite.specs.declared.types.Value.{Value}
use Rattle.sqlite.specs.declared.types.Value.TheVariants.{Null, Int, Text}
use Rattle.sqlite.specs.Order.{Row, value_cmp}
use Rattle.sqlite.specs.Term.{Term, lit, col}
use Rattle.sqlite.specs.Ops.{unary}
use Rattle.sqlite.specs.Kind.TheVariants.{Integer}
use Rattle.sqlite.specs.Source.TheVariants.{Values}
use Rattle.sqlite.specs.Command.{Command}
use Rattle.sqlite.specs.Command.TheVariants.{Insert}
use Rattle.sqlite_value.proofs.OrderLemmas.{value_cmp-Int}
use Rattle.sqlite_trees.specs.View.{is_int, IsShaped}
use Rattle.sqlite_trees.specs.declared.store.Shape.TheVariants as shape
use Rattle.sqlite_trees.proofs.TreeLemmas.{IsShaped-put_row}
use Rattle.sqlite_trees.specs.Tree.{Trees, rowid, IsTable, put_row}
use Rattle.sqlite_rules.specs.Edit.{id_in, next_rowid}
use Rattle.sqlite_rules.proofs.TableLemmas.{int_is}
use Rattle.sqlite.specs.Edit.{edit_of, edited}
use Rattle.sqlite.specs.Cast.{cast}
use Rattle.sqlite.specs.Rowids.TheVariants.{Chosen}
use Rattle.sqlite.specs.Does.{Tally, Does}
use Rattle.sqlite.specs.Rows.{Written}
use Rattle.sqlite_tied.specs.Compute.{everything}
use Rattle.sqlite.specs.declared.error.Error.{Error}
use Rattle.sqlite.specs.Listing.{understood}
use Rattle.sqlite.specs.Effect.{Database}
use Rattle.sqlite.specs.State.{State, mode_of, Writes, Executes, CommitsBy, MayCommit, text_of, IsNotRun, ExecutesIn, shows_rows}
use Rattle.sqlite.proofs.Callers.{IsPlain, command_of, statement_of, runs_as, one_step}
use Rattle.sqlite_catalog.specs.Listing.{IsSound}
use Rattle.sqlite_schema.specs.declared.schema.Schema.{Schema}
use Rattle.bg_journal_store.specs.Schema.{entries, journal_schema, version}
use Rattle.bg_journal_store.specs.Journal.{row_text, texts_in, settings_in, IsJournal, Appends, Keeps}
use Rattle.bg_journal_store.proofs.Outcomes.{went, same_value}
use Rattle.bg_journal_store.proofs.Kept.{IsSame, Settles, unchanged, undone, same_journal, keeps_texts}
use Rattle.bg_journal_store.proofs.Opened.{insert_text, was_open, still_open}

abbrev pub terms : List Term
terms = lit Null ∷ lit Null ∷ col 0 0 ∷ []

abbrev pub insert : Command
insert = Insert 0 (Values terms 3)

pub insert_is : command_of (understood journal_schema insert_text) ≡ insert
unfolding understood everything
insert_is = refl

pub insert_plain : IsPlain (understood journal_schema insert_text)
unfolding understood everything
insert_plain = (refl, refl)

either : (b : Bool) (x : Value) → cond b x x ≡ x
either true x = refl
either false x = refl

pub cast_null : cast Integer Null ≡ Null
unfolding unary
cast_null = either _ Null

-- ---- a row with the next number comes last

lower_than : (a b c : ℤ) → int_cmp a b ≡ Less → b <ℤ c → a <ℤ c
lower_than a b c p q = grind (arith, ints, nat_tests)

pub below_is : (a b : ℤ) → a <ℤ b → value_cmp (Int a) (Int b) ≡ Less
below_is a b h = value_cmp-Int a b ∙ grind (arith, ints, nat_tests)

abbrev step_rowid : ℤ → Row → ℤ
step_rowid n r = id_in (rowid r) +ℤ pos 1

pub below_next : (x : Row) (rows : List Row) → IsTable (x ∷ rows) → AllByRecursion (λ r. IsTrue (is_int (rowid r))) (x ∷ rows)
    → AllByRecursion (λ r. id_in (rowid r) <ℤ fold step_rowid (step_rowid (pos 1) x) rows) (x ∷ rows)
below_next x [] up keyed = (omega (arith, ints), tt)
below_next x (y ∷ rows) up keyed =
    let later = below_next y rows up.1 keyed.1 in
    let lower = rw (int_is (rowid x) keyed.0, int_is (rowid y) keyed.1.0, value_cmp-Int (id_in (rowid x)) (id_in (rowid y))) at up.0.0 in
    let first = later.0 in
    (lower_than (id_in (rowid x)) (id_in (rowid y)) _ lower first, later)

put_last : (n : ℤ) (rest : Row) (rows : List Row) → AllByRecursion (λ r. id_in (rowid r) <ℤ n) rows → AllByRecursion (λ r. IsTrue (is_int (rowid r))) rows
    → put_row (Int n ∷ rest) rows ≡ rows ++ (Int n ∷ rest) ∷ []
put_last n rest [] low keyed = refl
put_last n rest (r ∷ rows) low keyed =
    let less : value_cmp (rowid r) (Int n) ≡ Less = ap (λ v. value_cmp v (Int n)) (int_is (rowid r) keyed.0) ∙ below_is (id_in (rowid r)) n low.0 in
    rw less (ap (λ l. r ∷ l) (put_last n rest rows low.1 keyed.1))

put_next : (rest : Row) (rows : List Row) → IsShaped shape.Table rows → put_row (Int (next_rowid rows) ∷ rest) rows ≡ rows ++ (Int (next_rowid rows) ∷ rest) ∷ []
put_next rest [] up = refl
put_next rest (x ∷ rows) up = put_last _ rest (x ∷ rows) (below_next x rows up.0 up.1) up.1

map_push : {A B : Type 0} (f : A → B) (xs : List A) (x : A) → map f (xs ++ x ∷ []) ≡ map f xs ++ f x ∷ []
map_push f [] x = refl
map_push f (y ∷ xs) x = ap (λ l. f y ∷ l) (map_push f xs x)

-- ---- the statement

module _ (s : State) (text : List ℕ) (journal : IsJournal s) where
  abbrev params : Row
  params = Text text ∷ []

  abbrev sql : List ℕ
  sql = statement_of insert_text (understood journal_schema insert_text)

  pub record Adds (after : Database) : Type 0 where
    pub schema : after.schema ≡ journal_schema
    pub texts : texts_in after.trees ≡ texts_in s.now.trees ++ text ∷ []
    pub numbered : IsShaped shape.Table (after.trees 0)
    pub version : settings_in after.trees ≡ version ∷ []

  pub inserts : (tally : Tally) (after : Database) → Does s.step_limit (mode_of s) params s.now sql None insert (Ok (tally, after)) → Adds after
  inserts tally after changed =
      let db = s.now.trees in
      let rows = db 0 in
      let new : Row = Int (next_rowid rows) ∷ Null ∷ Text text ∷ [] in
      let done = went (subst (λ c. Does s.step_limit (mode_of s) params (record s.now { schema = c }) sql None insert (Ok (tally, after))) journal.schema changed) in
      let now = ap (λ (p : Tally × Database). p.1) (same_value (went (went done.2).2).2) in
      let given = went done.1 in
      let written = went (went given.2).2 in
      let counted = went written.2 in
      let trees : done.0.trees ≡ written.0 = ap (λ (it : Written). it.trees) (same_value counted.2) ∙ same_value counted.1 in
      let step = one_step journal_schema _ db written.0 (edit_of db entries [] Chosen 0 given.0) refl written.1 in
      let edit : edited db (edit_of db entries [] Chosen 0 given.0) ≡ put_row new rows = ap (λ all. edited db (edit_of db entries [] Chosen 0 all)) given.1.1 ∙ rw cast_null in
      let tree : after.trees 0 ≡ put_row new rows = ap (λ (d : Database). d.trees 0) now ∙ ap (λ (t : Trees). t 0) trees ∙ step.rows ∙ edit in
      let other : after.trees 1 ≡ db 1 = ap (λ (d : Database). d.trees 1) now ∙ ap (λ (t : Trees). t 1) trees ∙ step.tables.1.0 (λ e. omega (arith, e)) in
      record {
        schema = ap (λ (d : Database). d.schema) now;
        texts = ap (map row_text) (tree ∙ put_next (Null ∷ Text text ∷ []) rows journal.numbered) ∙ map_push row_text rows new;
        numbered = subst (IsShaped shape.Table) (sym tree) (IsShaped-put_row new rows refl journal.numbered);
        version = ap (map row_text) other ∙ journal.version;
      }

  pub executed : (new : State) (count : ℕ) → Executes insert_text params s new (Ok count) → Adds new.now × IsJournal new
  executed new count h =
      let w : Writes s new None insert sql params count = runs_as insert_text params s new journal_schema journal.schema insert insert_is insert_plain count h in
      let it = inserts w.tally new.now w.changed in
      let last : new.committed ≡ new.now = rw journal.autocommit at w.shown.committed_is in
      (it, record { is_open = w.shown.is_open; autocommit = w.shown.mode ∙ journal.autocommit; schema = it.schema; committed = last; numbered = it.numbered; version = it.version })

  pub commits : (db : Trees) → CommitsBy insert_text params s db → (texts_in db ≡ texts_in s.now.trees ++ text ∷ []) × IsSound journal_schema db
  unfolding CommitsBy
  commits db h =
      let known = sym h.1.is ∙ ap (λ c. understood c insert_text) journal.schema in
      let bare = subst IsPlain (sym known) insert_plain in
      let may : MayCommit s None h.0.command (text_of insert_text h.0) params db = rw (bare.0, bare.1) at h.2 in
      let it : MayCommit s None insert sql params db = subst₂ (λ k t. MayCommit s None k t params db) (ap command_of known ∙ insert_is) (ap (statement_of insert_text) known) may in
      elim it [
        | inl ends ↦ absurd (elim ends.0 [ inl e ↦ cc | inr e ↦ (let f = e.2 in cc) ])
        | inr w ↦ (
          ap texts_in w.5 ∙ (inserts w.1 w.2 w.3).texts,
          subst (IsSound journal_schema) (sym w.5) (subst (λ (c : Schema). IsSound c w.2.trees) (inserts w.1 w.2 w.3).schema w.4),
        )
      ]

  -- a refusal changes nothing, unless it shuts the database
  pub keeps : (new : State) (e : Error) → Executes insert_text params s new (Err e) → IsTrue new.is_open → IsSame s new
  unfolding ExecutesIn IsNotRun
  keeps new e (inl (inl h)) stays = unchanged journal h.1
  keeps new e (inl (inr f)) stays = undone journal f.3 stays
  keeps new e (inr h) stays = elim (cases_Bool (shows_rows false h.0)) [
    | inl shows ↦ unchanged journal (rw shows at h.2).1
    | inr runs ↦ elim (rw runs at h.2) [
      | inl why ↦ unchanged journal why.1
      | inr f ↦ undone journal f.3 stays
    ]
  ]

-- ---- the statement at a journal that may be closed

module _ (s : State) (text : List ℕ) (holds : IsTrue s.is_open → IsJournal s) (new : State) where
  pub kept : (r : Result ℕ Error) → Executes insert_text (Text text ∷ []) s new r → IsTrue new.is_open → IsJournal new
  kept (Ok count) h is_open = (executed s text (holds (was_open s new _ count h)) new count h).1
  kept (Err e) h is_open = (let was = still_open insert_text s new _ e h is_open in same_journal (holds was) (keeps s text (holds was) new e h is_open) is_open)

  module _ (settles : Settles new) where
    pub appended : (r : Result ℕ Error) → Executes insert_text (Text text ∷ []) s new r → OnOk r (Appends s new text)
    appended (Err e) h = tt
    appended (Ok count) h =
        let was = was_open s new _ count h in
        let it = executed s text (holds was) new count h in
        record {
          was_open = was;
          journal = it.1;
          texts = it.0.texts;
          durable = λ db may. ap texts_in (settles it.1.is_open db may ∙ ap (λ (d : Database). d.trees) it.1.committed) ∙ it.0.texts;
        }

    pub refused : (r : Result ℕ Error) → Executes insert_text (Text text ∷ []) s new r → IsTrue new.is_open → OnErr r (Keeps s new)
    refused (Ok count) h stays = tt
    refused (Err e) h stays =
        let was = still_open insert_text s new _ e h stays in
        keeps_texts (holds was) (keeps s text (holds was) new e h stays) settles stays
