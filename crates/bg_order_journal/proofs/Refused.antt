-- Lemmas on the rows of which a fault is told.
use Rattle.std.proofs.Common.{inl, inr, ◌≡◌, ◌≢◌, ℕ, ◌<◌, List, [], ◌∷◌, length, map, string_bytes, Result, IfErr, IsErrAnd, Ok, Err, get_or, refl, sym, ap, subst, ◌∙◌, arith}
use Rattle.std.specs.Prelude.{String, Some, None, slice_get}
use Rattle.std.specs.declared.alloc.Global.{Global}
use Rattle.sqlite.specs.Held.{Held, state}
use Rattle.sqlite.specs.State.{HasCleanDisk}
use Rattle.sqlite_trees.specs.declared.store.Store.{Ghosts}
use Rattle.bg_journal_store.specs.Failures.{FailsToAppend}
use Rattle.bg_journal_store.specs.declared.fault.JournalFault.{JournalFault}
use Rattle.bg_order_journal.specs.FirstRow.{first_row}
use Rattle.bg_order_journal.specs.Refusals.{HasFailed, FailsToBegin, FailsToBeginInFile, FailsToMove, FailsToOpen, FirstRowFaultIs, HaveMore, OrdersFaultIs, RowsFaultIs, WasRead}
use Rattle.bg_order_journal.specs.Ties.{Ties}
use Rattle.bg_order_journal.specs.declared.start_fault.StartFault.{StartFault}
use Rattle.bg_order_journal.specs.declared.start_fault.StartFault.TheVariants as fault

pub if_err_is : {T E : Type 0} (P : E → Type 0) (r : Result T E) (e : E) → IsErrAnd r (λ f. f ≡ e) → P e → IfErr r P
if_err_is P (Ok x) e h p = tt
if_err_is P (Err f) e h p = subst P (sym h) p

pub no_texts : (rows : List (String Global)) → length rows < 1 → map string_bytes rows ≡ []
no_texts [] few = refl
no_texts (row ∷ rows) few = absurd (omega arith)

pub no_first : (rows : List (String Global)) → None ≡ slice_get rows 0 → map string_bytes rows ≡ []
no_first [] is = refl
no_first (row ∷ rows) is = cc

pub some_first : (rows : List (String Global)) (row : String Global) → Some row ≡ slice_get rows 0 → map string_bytes rows ≢ []
some_first [] row is none = cc
some_first (first ∷ rows) row is none = cc

-- the rows of a journal that is open
pub was_read : {S : Type 0} (g : Ghosts S) (journal : Held S) (rows : List (List ℕ)) (AreSo : List (List ℕ) → Type 0)
    → (HasCleanDisk (state g journal) → Ties (state g journal) rows []) → AreSo rows → WasRead g AreSo
was_read g journal rows AreSo ties so = record {
  journal = journal;
  rows = rows;
  are_read = λ clean. (ties clean).settled refl;
  are_so = so;
}

-- a fault of the first row
pub first_refused : {S : Type 0} (g : Ghosts S) (Fails : JournalFault → Type 0) (journal : Held S) (settings row : List ℕ) (texts rows : List (List ℕ)) (why : StartFault)
    → (HasCleanDisk (state g journal) → Ties (state g journal) rows []) → rows ≡ row ∷ texts → FirstRowFaultIs settings row why
    → FailsToOpen g Fails settings why
first_refused g Fails journal settings row texts rows fault.OtherStrategy ties are is =
    was_read g journal rows _ ties (subst (λ rs. RowsFaultIs settings rs fault.OtherStrategy) (sym are) is)
first_refused g Fails journal settings row texts rows fault.NoFirstRevision ties are is =
    was_read g journal rows _ ties (subst (λ rs. RowsFaultIs settings rs fault.NoFirstRevision) (sym are) is)
first_refused g Fails journal settings row texts rows fault.OutOfMemory ties are is = tt
first_refused g Fails journal settings row texts rows (fault.Journal f) ties are is = absurd is
first_refused g Fails journal settings row texts rows fault.NoStrategy ties are is = absurd is
first_refused g Fails journal settings row texts rows (fault.BadLine order line) ties are is = absurd is
first_refused g Fails journal settings row texts rows fault.NotNew ties are is = absurd is
first_refused g Fails journal settings row texts rows fault.Changed ties are is = absurd is

-- a fault of the other rows
pub orders_refused : {S : Type 0} (g : Ghosts S) (Fails : JournalFault → Type 0) (journal : Held S) (settings row name ports : List ℕ) (texts rows : List (List ℕ)) (why : StartFault)
    → (HasCleanDisk (state g journal) → Ties (state g journal) rows []) → rows ≡ row ∷ texts → row ≡ first_row settings name ports
    → OrdersFaultIs texts why → FailsToOpen g Fails settings why
orders_refused g Fails journal settings row name ports texts rows (fault.BadLine order line) ties are first is =
    was_read g journal rows _ ties (subst (λ rs. RowsFaultIs settings rs (fault.BadLine order line)) (sym are) ((name, ports, first), is))
orders_refused g Fails journal settings row name ports texts rows fault.OutOfMemory ties are first is = tt
orders_refused g Fails journal settings row name ports texts rows (fault.Journal f) ties are first is = absurd is.6
orders_refused g Fails journal settings row name ports texts rows fault.OtherStrategy ties are first is = absurd is.6
orders_refused g Fails journal settings row name ports texts rows fault.NoFirstRevision ties are first is = absurd is.6
orders_refused g Fails journal settings row name ports texts rows fault.NoStrategy ties are first is = absurd is.6
orders_refused g Fails journal settings row name ports texts rows fault.NotNew ties are first is = absurd is.6
orders_refused g Fails journal settings row name ports texts rows fault.Changed ties are first is = absurd is.6

-- a journal that was begun, and does not go on in its file alone
pub not_moved : {S : Type 0} (g : Ghosts S) (first second : List ℕ) (why : StartFault) → FailsToMove g (first ∷ second ∷ []) why
    → FailsToBeginInFile g first second why
not_moved g first second fault.Changed is = is
not_moved g first second fault.OutOfMemory is = tt
not_moved g first second (fault.Journal f) is = tt
not_moved g first second fault.OtherStrategy is = absurd is
not_moved g first second fault.NoFirstRevision is = absurd is
not_moved g first second fault.NoStrategy is = absurd is
not_moved g first second (fault.BadLine order line) is = absurd is
not_moved g first second fault.NotNew is = absurd is

-- two rows are more than the first one
pub have_two : (rows : List (String Global)) (first : List ℕ) → 1 < length rows → HaveMore first (map string_bytes rows)
have_two [] first two = absurd (omega arith)
have_two (row ∷ []) first two = absurd (omega arith)
have_two (row ∷ next ∷ more) first two = (λ none. cc, λ one. cc)

-- another row is more than the first one
pub have_other : (rows : List (String Global)) (only : String Global) (first : List ℕ) → 0 < length rows → only ≡ get_or rows 0 only → string_bytes only ≢ first
    → HaveMore first (map string_bytes rows)
have_other [] only first some is other = absurd (omega arith)
have_other (row ∷ more) only first some is other = (λ none. cc, λ one. other (ap string_bytes is ∙ head row one))
  where
    head : (row : String Global) → string_bytes row ∷ map string_bytes more ≡ first ∷ [] → string_bytes row ≡ first
    head row one = cc

-- a journal that was not begun
pub not_begun : {S : Type 0} (g : Ghosts S) (Fails : JournalFault → Type 0) (first second : List ℕ) (why : StartFault) → FailsToBegin g Fails first why
    → FailsToBeginInFile g first second why
not_begun g Fails first second fault.OutOfMemory is = tt
not_begun g Fails first second (fault.Journal f) is = tt
not_begun g Fails first second fault.NotNew is = is
not_begun g Fails first second fault.Changed is = absurd is
not_begun g Fails first second fault.OtherStrategy is = absurd is
not_begun g Fails first second fault.NoFirstRevision is = absurd is
not_begun g Fails first second fault.NoStrategy is = absurd is
not_begun g Fails first second (fault.BadLine order line) is = absurd is

-- what may fail by no fault of its own may fail by any
pub fails_more : {S : Type 0} (g : Ghosts S) (Fails : JournalFault → Type 0) (first : List ℕ) (why : StartFault) → FailsToBegin g (λ _. ⊥) first why
    → FailsToBegin g Fails first why
fails_more g Fails first fault.OutOfMemory is = tt
fails_more g Fails first (fault.Journal f) (inl none) = absurd none
fails_more g Fails first (fault.Journal f) (inr failed) = inr failed
fails_more g Fails first fault.NotNew is = is
fails_more g Fails first fault.Changed is = absurd is
fails_more g Fails first fault.OtherStrategy is = absurd is
fails_more g Fails first fault.NoFirstRevision is = absurd is
fails_more g Fails first fault.NoStrategy is = absurd is
fails_more g Fails first (fault.BadLine order line) is = absurd is

pub append_failed : {S T : Type 0} (g : Ghosts S) (before after : Held S) (text : List ℕ) (r : Result T JournalFault)
    → (HasCleanDisk (state g after) → IfErr r (FailsToAppend (state g before) (state g after) text)) → IfErr r (HasFailed g)
append_failed g before after text (Ok x) failed = tt
append_failed g before after text (Err why) failed = record { before = before; after = after; call = λ clean. inr (text, failed clean) }
