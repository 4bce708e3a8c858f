-- Why a reading of the texts fails.
use Rattle.std.proofs.Common.{◌≡◌, ◌≢◌, ◌⊎◌, inl, inr, ◌<◌, ℕ, List, [], length, slice_index_or, true, false, Option, Some, None, IsSome, IsTrue, refl, sym, ap, subst, subst₂, ◌∙◌, arith}
use Rattle.std.proofs.lemmas.Bool.{cases_Bool}
use Rattle.std.proofs.lemmas.List.{get_or-map, length-map}
use Rattle.sqlite.specs.Order.{Row, column}
use Rattle.sqlite.specs.Listing.{understood, reads_listing, IsSourceOf}
use Rattle.sqlite_tied.specs.Compute.{everything}
use Rattle.sqlite_trees.specs.declared.error.StoreError.{StoreError}
use Rattle.sqlite_trees.specs.declared.error.StoreError.TheVariants as store
use Rattle.sqlite_resolve.specs.declared.compiled.Compiled.{Compiled}
use Rattle.sqlite_schema.specs.declared.command.Returning.{Returning}
use Rattle.sqlite.specs.declared.error.ErrorCode.TheVariants as code
use Rattle.sqlite.specs.declared.error.Error.{Error}
use Rattle.sqlite.specs.declared.error.Error.TheVariants.{SqliteFailure}
use Rattle.sqlite.specs.Effect.{RefusesToRead}
use Rattle.sqlite.specs.Reading.{IsReadError, read_error}
use Rattle.sqlite.specs.Values.{text_refusal}
use Rattle.sqlite.specs.State.{State, store_error, HasCause, Fails, FailsToQuery, FailsToShow, IsNotRun, Shown}
use Rattle.sqlite.proofs.Callers.{IsPlain, command_of}
use Rattle.bg_journal_store.specs.declared.fault.JournalFault.{JournalFault}
use Rattle.bg_journal_store.specs.declared.fault.JournalFault.TheVariants.{OutOfMemory, Refused}
use Rattle.bg_journal_store.specs.Schema.{journal_schema}
use Rattle.bg_journal_store.specs.Journal.{IsJournal}
use Rattle.bg_journal_store.specs.Faults.{fault_of}
use Rattle.bg_journal_store.specs.Failures.{IsReadable, HidesText, FailsToShowTexts, FailsToRead}
use Rattle.bg_journal_store.proofs.Failing.{IsWhole, never_refused}
use Rattle.bg_journal_store.proofs.Queried.{shown_open}
use Rattle.bg_journal_store.proofs.Selecting.{entries_text, entries_plain, entries_is, entries_unlisted, entries_rows, text_row, selects}

-- a value that is not read
pub hides_text : (row : Row) (e : Error) → IsReadError 0 (column row 0) e → (e ≢ SqliteFailure code.OutOfMemory → 0 < length row → ¬ IsReadable (column row 0))
    → (e ≢ SqliteFailure code.OutOfMemory → 0 < length row → e ≡ read_error 0 (column row 0) (text_refusal (column row 0))) → (fault_of e ≡ OutOfMemory) ⊎ HidesText row (fault_of e)
hides_text row e named kind which = elim named [
  | inl is ↦ inr (λ some. hidden (rw is (λ same. cc)) (rw is refl) some)
  | inr other ↦ elim other [
    | inl is ↦ inr (λ some. hidden (rw is (λ same. cc)) (rw is refl) some)
    | inr range ↦ elim range [
      | inl is ↦ inr (λ some. hidden (rw is (λ same. cc)) (rw is refl) some)
      | inr utf8 ↦ elim utf8 [
        | inl is ↦ inr (λ some. hidden (rw is (λ same. cc)) (rw is refl) some)
        | inr memory ↦ inl (ap fault_of memory)
      ]
    ]
  ]
]
  where
    hidden : e ≢ SqliteFailure code.OutOfMemory → fault_of e ≡ Refused e → 0 < length row → (¬ IsReadable (column row 0)) × (fault_of e ≡ Refused (read_error 0 (column row 0) (text_refusal (column row 0))))
    hidden other is some = (kind other some, is ∙ ap Refused (which other some))

entries_whole : IsWhole entries_text 0 (understood journal_schema entries_text)
unfolding understood everything
entries_whole = (refl, refl, refl)

module _ (old new : State) where
  caused : (too_big : Type 0) → (too_big → old.is_open ≡ false) → (cause : StoreError) → HasCause old new too_big cause → FailsToRead old new (fault_of (store_error cause))
  caused too_big shut store.OutOfMemory h = tt
  caused too_big shut store.Io h = h
  caused too_big shut store.Corrupt h = h
  caused too_big shut store.Full h = h
  caused too_big shut store.Broken h = h
  caused too_big shut store.Unstorable h = shut h

  store_failed : (too_big : Type 0) → (too_big → old.is_open ≡ false) → (e : Error) → Fails old new too_big e → FailsToRead old new (fault_of e)
  store_failed too_big shut e f = subst (λ e. FailsToRead old new (fault_of e)) (sym f.1) (caused too_big shut f.0 f.2)

  closed_shows : old.is_open ≡ false → (c : Compiled) (params : Row) (e : Error) (returning : Option Returning) → FailsToShow old new entries_text c params e returning → FailsToRead old new (fault_of e)
  closed_shows shut c params e None h = absurd (let is : false ≡ true = subst IsTrue shut h.3.0.was_open in cc)
  closed_shows shut c params e (Some what) (inl named) = absurd (let is : false ≡ true = subst IsTrue shut named.1.0.was_open in cc)
  closed_shows shut c params e (Some what) (inr f) = store_failed _ (λ _. shut) e f

  closed_query : old.is_open ≡ false → (e : Error) → FailsToQuery entries_text [] old new e → FailsToRead old new (fault_of e)
  unfolding FailsToQuery IsNotRun
  closed_query shut e (inl (inl h)) = absurd (let is : false ≡ true = subst IsTrue shut h.1.0.was_open in cc)
  closed_query shut e (inl (inr f)) = store_failed ⊥ (λ none. absurd none) e f
  closed_query shut e (inr h) = closed_shows shut h.0 _ e h.0.returning h.2

  module _ (journal : IsJournal old) (unlimited : old.step_limit ≡ None) where
    refuses_nothing : (e : Error) → ¬ RefusesToRead old.step_limit (selects 0) (record old.now { schema = journal_schema }) [] e
    refuses_nothing e (inl typed) = let is : true ≡ false = typed.1 in cc
    refuses_nothing e (inr (inl (is, inl overflows))) = overflows
    refuses_nothing e (inr (inl (is, inr folds))) = folds.4
    refuses_nothing e (inr (inr limited)) = let some : IsSome {T = ℕ} None = subst IsSome unlimited limited.1 in cc

    open_query : (e : Error) → FailsToQuery entries_text [] old new e → FailsToRead old new (fault_of e)
    unfolding FailsToQuery IsNotRun
    open_query e (inl (inl h)) = absurd (never_refused old entries_text [] e (rw journal.schema entries_whole) h.0)
    open_query e (inl (inr f)) = store_failed ⊥ (λ none. absurd none) e f
    open_query e (inr h) =
        let known = sym h.1.is ∙ ap (λ s. understood s entries_text) journal.schema in
        let bare = subst IsPlain (sym known) entries_plain in
        let it = rw (bare.0, bare.1) at h.2 in
        let db : it.0 ≡ old.now = subst (λ b. IsSourceOf b old.now it.0) (ap (λ s. reads_listing s entries_text) journal.schema ∙ entries_unlisted) it.1 in
        absurd (refuses_nothing e (subst (λ s. RefusesToRead old.step_limit (selects 0) (record old.now { schema = s }) [] e) journal.schema
        (subst₂ (λ k d. RefusesToRead old.step_limit k d [] e) (ap command_of known ∙ entries_is) db it.2)))

    open_shown : (rows : List Row) (fault : JournalFault) → Shown entries_text [] old new rows → FailsToShowTexts rows fault → FailsToRead old new fault
    open_shown rows fault shown (inl memory) = subst (FailsToRead old new) (sym memory) tt
    open_shown rows fault shown (inr (at, low, hides)) =
        let all = old.now.trees 0 in
        let rows_are = entries_rows old new rows journal.schema journal.numbered.0 shown in
        let below : at < length all = omega (arith, low, ap length rows_are, length-map all text_row) in
        let row_is : slice_index_or rows at [] ≡ text_row (slice_index_or all at []) = ap (λ rs. slice_index_or rs at []) rows_are ∙ get_or-map text_row all at [] [] below in
        let hidden = subst (λ row. HidesText row fault) row_is hides (omega arith) in
        subst (FailsToRead old new) (sym hidden.1) (at, below, (hidden.0, refl))

  -- the rows were shown, so it was open
  shown_was_open : (rows : List Row) → Shown entries_text [] old new rows → IsTrue old.is_open
  unfolding Shown
  shown_was_open rows h = shown_open old new entries_text h.0 _ rows h.0.returning h.2

  pub read_failed : (IsTrue old.is_open → IsJournal old) → old.step_limit ≡ None → (fault : JournalFault)
      → ((e : Error) × FailsToQuery entries_text [] old new e × (fault ≡ fault_of e)) ⊎ ((rows : List Row) × Shown entries_text [] old new rows × FailsToShowTexts rows fault) → FailsToRead old new fault
  read_failed holds unlimited fault (inl (e, fails, is)) = subst (FailsToRead old new) (sym is) (elim (cases_Bool old.is_open) [
    | inl opened ↦ open_query (holds opened) unlimited e fails
    | inr shut ↦ closed_query shut e fails
  ])
  read_failed holds unlimited fault (inr (rows, shown, hides)) = open_shown (holds (shown_was_open rows shown)) unlimited rows fault shown hides
