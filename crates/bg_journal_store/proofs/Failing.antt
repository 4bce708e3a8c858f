-- Why the insert of a text fails.
use Rattle.std.proofs.Common.{◌≡◌, ◌⊎◌, inl, inr, ◌<◌, ◌≤◌, ◌+◌, ◌^◌, ℕ, zero, suc, ℤ, pos, negsuc, ◌<ℤ◌, List, [], ◌∷◌, length, length-append, true, false, Option, None, Some, IsSome, option_map, ◌&&◌, Ok, Err, Result, Less, IfErr, IsTrue, refl, sym, ap, subst, subst₂, ◌∙◌, arith}
use Rattle.std.proofs.lemmas.Bool.{cases_Bool, cases_lt}
use Rattle.std.proofs.lemmas.Nat.Bits.{bit_at-zero}
use Rattle.std.specs.List.{AllByRecursion}
use Rattle.sqlite.specs.declared.types.Value.TheVariants.{Null, Int, Text}
use Rattle.sqlite.specs.Order.{Row, value_cmp}
use Rattle.sqlite_resolve.specs.declared.compiled.Compiled.{Compiled}
use Rattle.sqlite_resolve.specs.declared.error.CompileError.{CompileError}
use Rattle.sqlite_rules.specs.declared.error.Refusal.{Refusal}
use Rattle.sqlite_rules.specs.declared.error.Refusal.TheVariants as why
use Rattle.sqlite_schema.specs.declared.schema.Constraint.TheVariants as rule
use Rattle.sqlite_schema.specs.declared.schema.Keys.{Keys}
use Rattle.sqlite_schema.specs.declared.schema.Keys.TheVariants.{Enforced}
use Rattle.sqlite.specs.Schema.{Schema}
use Rattle.sqlite.specs.Source.TheVariants.{Values}
use Rattle.sqlite.specs.Effect.{edit_error}
use Rattle.sqlite.specs.Rows.{Sourced, Edited}
use Rattle.sqlite_trees.specs.View.{is_int, IsShaped, IsStorableRow}
use Rattle.sqlite_trees.specs.declared.store.Shape.TheVariants as shape
use Rattle.sqlite_value.specs.Order.{exact}
use Rattle.std.specs.Float.Ieee
use Rattle.std.specs.Float.{NotNan, float_zero}
use Rattle.sqlite_rules.specs.Lists.{Has}
use Rattle.sqlite_rules.proofs.TableLemmas.{int_is}
use Rattle.sqlite_sql.specs.Ops.{fits_i64}
use Rattle.sqlite_trees.specs.Tree.{Trees, rowid}
use Rattle.sqlite_trees.specs.declared.error.StoreError.{StoreError}
use Rattle.sqlite_trees.specs.declared.error.StoreError.TheVariants as store
use Rattle.sqlite_rules.specs.Edit.{Edit, id_in, next_rowid, edit_of, is_taken, IsRefused, IsOversized}
use Rattle.sqlite_rules.specs.Action.{Leads, Writes}
use Rattle.sqlite.specs.Rowids.TheVariants.{Chosen}
use Rattle.sqlite_tied.specs.Compute.{everything}
use Rattle.sqlite.specs.declared.error.ErrorCode.TheVariants as code
use Rattle.sqlite.specs.declared.error.Error.{Error}
use Rattle.sqlite.specs.declared.error.Error.TheVariants.{SqliteFailure}
use Rattle.sqlite.specs.Listing.{understood}
use Rattle.sqlite.specs.Does.{Does}
use Rattle.sqlite.specs.State.{State, mode_of, store_error, HasCause, Fails, IsNoStatement, IsMisplaced, IsNotRun, ExecutesIn, Executes, shows_rows, text_of}
use Rattle.sqlite.proofs.Callers.{IsPlain, command_of, statement_of}
use Rattle.bg_journal_store.specs.Schema.{entries, journal_schema}
use Rattle.bg_journal_store.specs.Journal.{IsJournal}
use Rattle.bg_journal_store.specs.Faults.{fault_of}
use Rattle.bg_journal_store.specs.Failures.{FailsToAppend, IsTooLong, IsFull}
use Rattle.bg_journal_store.proofs.Opened.{insert_text}
use Rattle.bg_journal_store.proofs.Inserting.{insert, insert_is, insert_plain, cast_null, below_next, below_is, terms}

-- ---- the store failed

module _ (old new : State) (text : List ℕ) where
  caused : (too_big : Type 0) → (too_big → IsTrue old.is_open → IsTooLong text) → (cause : StoreError) → HasCause old new too_big cause → FailsToAppend old new text (fault_of (store_error cause))
  caused too_big long store.OutOfMemory h = tt
  caused too_big long store.Io h = h
  caused too_big long store.Corrupt h = h
  caused too_big long store.Full h = h
  caused too_big long store.Broken h = h
  caused too_big long store.Unstorable h = long h

  store_failed : (too_big : Type 0) → (too_big → IsTrue old.is_open → IsTooLong text) → (e : Error) → Fails old new too_big e → FailsToAppend old new text (fault_of e)
  store_failed too_big long e f = subst (λ e. FailsToAppend old new text (fault_of e)) (sym f.1) (caused too_big long f.0 f.2)

-- ---- the text is one statement, and a place to run it

-- the text has one statement with so many parameters, and does not read the time
abbrev pub IsWhole : List ℕ → ℕ → Result Compiled CompileError → Type 0
IsWhole sql given (Ok c) = (c.tail ≡ length sql) × (length c.names ≡ given) × (c.formats ≡ [])
IsWhole sql given (Err e) = ⊥

insert_whole : IsWhole insert_text 1 (understood journal_schema insert_text)
unfolding understood everything
insert_whole = (refl, refl, refl)

pub never_refused : (s : State) (sql : List ℕ) (params : Row) (e : Error) → IsWhole sql (length params) (understood s.now.schema sql) → ¬ IsNoStatement s sql params e
never_refused s sql params e whole (inl h) = subst (IsWhole sql (length params)) h.1 whole
never_refused s sql params e whole (inr h) =
    let fits = subst (IsWhole sql (length params)) h.1 whole in
    elim h.2 [
      | inl longer ↦ longer.0 (omega (arith, fits.0))
      | inr other ↦ elim other [
        | inl given ↦ given.0 (sym fits.1)
        | inr times ↦ times.0 fits.2
      ]
    ]

well_placed : (s : State) (e : Error) → ¬ IsMisplaced s insert e
well_placed s e (inl h) = elim h.1 [
  | inl begins ↦ absurd (let is = begins.0 in cc)
  | inr ends ↦ elim ends.0 [ inl is ↦ cc | inr is ↦ cc ]
]
well_placed s e (inr h) = elim h.2 [ inl is ↦ cc | inr is ↦ cc ]

-- ---- the row fits the table

not_taken : (n : ℤ) (rest : Row) (rows : List Row) → AllByRecursion (λ r. id_in (rowid r) <ℤ n) rows → AllByRecursion (λ r. IsTrue (is_int (rowid r))) rows → is_taken rows (Int n ∷ rest) ≡ false
not_taken n rest [] low keyed = refl
not_taken n rest (r ∷ rows) low keyed =
    let less : value_cmp (rowid r) (Int n) ≡ Less = ap (λ v. value_cmp v (Int n)) (int_is (rowid r) keyed.0) ∙ below_is (id_in (rowid r)) n low.0 in
    rw less (not_taken n rest rows low.1 keyed.1)

next_fresh : (rest : Row) (rows : List Row) → IsShaped shape.Table rows → is_taken rows (Int (next_rowid rows) ∷ rest) ≡ false
next_fresh rest [] up = refl
next_fresh rest (x ∷ rows) up = not_taken _ rest (x ∷ rows) (below_next x rows up.0 up.1) up.1

number_is : (n : ℤ) → NotNan (exact n)
unfolding Ieee.is_nan
number_is (pos n) = tt
number_is (negsuc n) = tt

zero_is : NotNan float_zero
unfolding Ieee.is_nan
zero_is = tt

every : {X : Type 0} (xs : List X) → AllByRecursion (λ _. true ≡ true) xs
every [] = tt
every (x ∷ xs) = (refl, every xs)

never_leads : (schema : Schema) (keys : Keys) (n : ℕ) (db : Trees) (why : Option Refusal) → ¬ Leads schema keys n db [] (Err why)
never_leads schema keys zero db why h = absurd (let e = h.1 in cc)
never_leads schema keys (suc n) db why h = absurd (omega (arith, ap length h.2, length-append h.0 (h.1 ∷ [])))

same_stop : {B E : Type 0} {a b : E} → ◌≡◌ {A = Result B E} (Err a) (Err b) → a ≡ b
same_stop e = cc

module _ (s : State) (text : List ℕ) (journal : IsJournal s) (unlimited : s.step_limit ≡ None) where
  abbrev params : Row
  params = Text text ∷ []

  abbrev sql : List ℕ
  sql = statement_of insert_text (understood journal_schema insert_text)

  abbrev new_row : Row
  new_row = Int (next_rowid (s.now.trees 0)) ∷ Null ∷ Text text ∷ []

  abbrev the_edit : Edit
  the_edit = record { table = entries; gone = []; news = new_row ∷ [] }

  -- the insert stops at a row that is too long, or by this error
  abbrev Stops : Option Error → Type 0
  Stops None = IsTooLong text
  Stops (Some e) = (e ≡ SqliteFailure code.NoRowid) × IsFull s

  no_number : fits_i64 (next_rowid (s.now.trees 0)) && true ≡ false → IsFull s
  no_number h = elim (cases_Bool (fits_i64 (next_rowid (s.now.trees 0)))) [
    | inl fits ↦ absurd (let e : true ≡ false = rw fits at h in cc)
    | inr none ↦ none
  ]

  fresh_row : is_taken (s.now.trees 0) new_row ≡ false
  fresh_row = next_fresh (Null ∷ Text text ∷ []) (s.now.trees 0) journal.numbered

  judged : (r : Refusal) → IsRefused journal_schema Enforced s.now.trees the_edit r → Stops (Some (edit_error r))
  judged (why.Violates rule.Datatype) h = absurd (let e : true ≡ false = h in cc)
  judged (why.Violates rule.NotNull) h = absurd (let e : true ≡ false = h in cc)
  judged (why.Violates rule.Check) h = absurd (let e : true ≡ false = h in cc)
  judged (why.Violates rule.PrimaryKey) h = absurd (let e : true ≡ false = rw fresh_row at h in cc)
  judged (why.Violates rule.Unique) h = absurd (h (every _, (every _, tt)))
  judged (why.Violates rule.ForeignKey) h = absurd h
  judged why.Mismatch h = absurd (let e : true ≡ false = h in cc)
  judged why.BadReference h = absurd (let e : true ≡ false = h in cc)
  judged why.NoRowid h = (refl, no_number h)
  judged why.TooDeep h = absurd h

  storable : 54 + length text ≤ 10 ^ 9 → IsStorableRow 0 new_row
  storable short = (
    record {
      typed = λ c bit. absurd (let none = bit_at-zero c in cc);
      columns = (omega arith, omega arith);
      numbers = λ at d low. elim (three at low) [
        | inl first ↦ rw first (number_is (next_rowid (s.now.trees 0)))
        | inr later ↦ elim later [ inl second ↦ rw second zero_is | inr third ↦ rw third zero_is ]
      ];
      short = omega (arith, short);
    },
    omega arith,
  )
    where
      three : (at : ℕ) → at < 3 → (at ≡ 0) ⊎ (at ≡ 1) ⊎ (at ≡ 2)
      three at low = search (arith)

  oversized : (row : Row) → Has (new_row ∷ []) row → IsOversized journal_schema entries row → IsTooLong text
  oversized row (inl is) (inl big) = elim (cases_lt (10 ^ 9) (54 + length text)) [
    | inl long ↦ long
    | inr short ↦ absurd (big (subst (IsStorableRow 0) (sym is) (storable short)))
  ]
  oversized row (inl is) (inr h) = absurd h.1
  oversized row (inr none) big = absurd none

  goes : (r : Option Refusal) → Writes journal_schema Enforced s.now.trees the_edit (Err r) → Stops (option_map edit_error r)
  goes r (inl h) = subst (λ w. Stops (option_map edit_error w)) (sym (same_stop h.2)) (judged h.0 h.1)
  goes r (inr (inl h)) = subst (λ w. Stops (option_map edit_error w)) (sym (same_stop h.3)) (oversized h.0 h.1 h.2)
  goes r (inr (inr h)) = absurd (never_leads journal_schema Enforced h.2.0 h.0 r h.2.1)

  unedited : (stop : Option Error) (rows : List Row) → edit_of s.now.trees entries [] Chosen 0 rows ≡ the_edit → Edited journal_schema Enforced s.now.trees (edit_of s.now.trees entries [] Chosen 0 rows) (Err stop)
      → Stops stop
  unedited stop rows is h = subst Stops (sym h.2) (goes h.0 (subst (λ edit. Writes journal_schema Enforced s.now.trees edit (Err h.0)) is h.1))

  unsourced : (stop : Option Error) → ¬ Sourced s.step_limit (record { schema = journal_schema; trees = s.now.trees }) params (Values terms 3) (Err stop)
  unsourced None h = h
  unsourced (Some e) (inl h) = absurd (let e : true ≡ false = h.1 in cc)
  unsourced (Some e) (inr h) = let some : IsSome {T = ℕ} None = subst IsSome unlimited h.1 in cc

  stops : (stop : Option Error) → Does s.step_limit (mode_of s) params s.now sql None insert (Err stop) → Stops stop
  stops stop h =
      elim (subst (λ c. Does s.step_limit (mode_of s) params (record s.now { schema = c }) sql None insert (Err stop)) journal.schema h) [
        | inl early ↦ subst Stops (sym (same_stop early.2)) (elim early.1 [
          | inl no_source ↦ absurd (unsourced no_source.0 no_source.1)
          | inr sourced ↦ elim sourced.2 [
            | inl no_count ↦ absurd (let e = no_count.1 in cc)
            | inr counted ↦ elim counted.2 [
              | inl no_edit ↦ subst Stops (sym (same_stop no_edit.2)) (unedited no_edit.0 sourced.0 (ap (λ all. edit_of s.now.trees entries [] Chosen 0 all) sourced.1.1 ∙ rw cast_null) no_edit.1)
              | inr made ↦ elim made.2 [
                | inl no_total ↦ absurd (let e = no_total.1 in cc)
                | inr total ↦ absurd (let e = total.2 in cc)
              ]
            ]
          ]
        ])
        | inr late ↦ elim late.2 [
          | inl untested ↦ absurd (untested.1.0 (every _, (every _, tt)))
          | inr tested ↦ elim tested.2 [
            | inl unshown ↦ absurd (let e = unshown.1 in cc)
            | inr shown ↦ absurd (let e = shown.2 in cc)
          ]
        ]
      ]

  insert_failed : (new : State) (e : Error) → Executes insert_text params s new (Err e) → FailsToAppend s new text (fault_of e)
  unfolding ExecutesIn IsNotRun
  insert_failed new e (inl (inl h)) = absurd (never_refused s insert_text params e (rw journal.schema insert_whole) h.0)
  insert_failed new e (inl (inr f)) = store_failed s new text ⊥ (λ none. absurd none) e f
  insert_failed new e (inr h) =
      let known = sym h.1.is ∙ ap (λ c. understood c insert_text) journal.schema in
      let bare = subst IsPlain (sym known) insert_plain in
      let command : h.0.command ≡ insert = ap command_of known ∙ insert_is in
      let as_sql : text_of insert_text h.0 ≡ sql = ap (statement_of insert_text) known in
      elim (cases_Bool (shows_rows false h.0)) [
        | inl shows ↦ absurd (let e : false ≡ true = rw (command, bare.0) at shows in cc)
        | inr runs ↦ elim (rw (bare.0, bare.1) at (rw runs at h.2)) [
          | inl named ↦ elim named.0 [
            | inl misplaced ↦ absurd (well_placed s e (subst (λ k. IsMisplaced s k e) command misplaced))
            | inr does ↦ (let it = stops (Some e) (subst₂ (λ k t. Does s.step_limit (mode_of s) params s.now t None k (Err (Some e))) command as_sql does.1) in
                subst (λ e. FailsToAppend s new text (fault_of e)) (sym it.0) (refl, it.1))
          ]
          | inr f ↦ store_failed s new text _ (λ big _. stops None (subst₂ (λ k t. Does s.step_limit (mode_of s) params s.now t None k (Err None)) command as_sql big)) e f
        ]
      ]

-- ---- the statement at a journal that may be closed

closed_failed : (s new : State) (text : List ℕ) → s.is_open ≡ false → (e : Error) → Executes insert_text (Text text ∷ []) s new (Err e) → FailsToAppend s new text (fault_of e)
unfolding ExecutesIn IsNotRun
closed_failed s new text shut e (inl (inl h)) = absurd (let e : false ≡ true = subst IsTrue shut h.1.0.was_open in cc)
closed_failed s new text shut e (inl (inr f)) = store_failed s new text ⊥ (λ none. absurd none) e f
closed_failed s new text shut e (inr h) = elim (cases_Bool (shows_rows false h.0)) [
  | inl shows ↦ absurd (let e : false ≡ true = subst IsTrue shut (rw shows at h.2).1.0.was_open in cc)
  | inr runs ↦ elim (rw runs at h.2) [
    | inl named ↦ absurd (let e : false ≡ true = subst IsTrue shut named.1.0.was_open in cc)
    | inr f ↦ store_failed s new text _ (λ big opened. absurd (let e : false ≡ true = subst IsTrue shut opened in cc)) e f
  ]
]

pub failed : (s : State) (text : List ℕ) (holds : IsTrue s.is_open → IsJournal s) (unlimited : s.step_limit ≡ None) (new : State) (r : Result ℕ Error)
    → Executes insert_text (Text text ∷ []) s new r → IfErr r (λ e. FailsToAppend s new text (fault_of e))
failed s text holds unlimited new (Ok count) h = tt
failed s text holds unlimited new (Err e) h = elim (cases_Bool s.is_open) [
  | inl opened ↦ insert_failed s text (holds opened) unlimited new e h
  | inr shut ↦ closed_failed s new text shut e h
]
