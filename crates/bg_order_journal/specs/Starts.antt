-- What a switch begins with that has a journal.
use Rattle.std.specs.Prelude.{◌≡◌, ◌⊎◌, ℕ, false, List, [], ◌∷◌, ◌++◌, Option, is_none, count_by}
use Rattle.sqlite.specs.Held.{Held}
use Rattle.bg_history.specs.declared.entry.Entry.{Entry}
use Rattle.bg_journal.specs.Bounds.{bound_in, bound_text, last_bound}
use Rattle.bg_script.specs.declared.answering.FirstRevision.{FirstRevision}
use Rattle.bg_script.specs.declared.numbered_journal.NumberedJournal.{NumberedJournal}
use Rattle.bg_script.specs.RequestNumbers.{number_behind}
use Rattle.bg_script.specs.Survival.{AreReadFrom}
use Rattle.bg_order_journal.specs.FirstRow.{first_row}

-- the number of orders that texts have: of those that say no bound of request numbers
abbrev pub order_count : List (List ℕ) → ℕ
order_count texts = count_by (λ text. is_none (bound_in text)) texts

-- these are the entries of the orders that these texts have, their last bound of request numbers, and the number of orders
pub record AreSaid (texts : List (List ℕ)) (entries : List Entry) (numbers count : ℕ) : Type 0 where
  pub entries_are : AreReadFrom texts entries
  pub numbers_are : numbers ≡ last_bound texts
  pub count_is : count ≡ order_count texts

-- these are the first revision, the entries, the last bound and the number of orders of a journal with these rows, and none is
-- in doubt
pub record AreOf (settings : List ℕ) (rows doubt : List (List ℕ)) (first : FirstRevision) (entries : List Entry) (numbers count : ℕ) : Type 0 where
  pub texts : List (List ℕ)
  pub rows_are : rows ≡ first_row settings first.name first.ports ∷ texts
  pub said : AreSaid texts entries numbers count
  pub settled : doubt ≡ []

-- more requests than a run gives numbers
abbrev pub numbers_of_run : ℕ
numbers_of_run = 1000000000000

-- the text of the bound of all numbers that a run gives behind this one
abbrev pub run_bound : ℕ → List ℕ
run_bound offset = bound_text (number_behind offset numbers_of_run)

-- the text is a row behind the rows before, or it is in doubt
abbrev pub IsKeptOrInDoubt : List (List ℕ) → List ℕ → List (List ℕ) → List (List ℕ) → Type 0
IsKeptOrInDoubt before text rows doubt =
    ((rows ≡ before ++ text ∷ []) × (doubt ≡ []))
    ⊎ ((rows ≡ before) × (doubt ≡ text ∷ []))

-- the journal of a run that goes on behind these rows and this bound: it knows so many outcomes, no order is lost, and the bound
-- of its numbers is kept or in doubt
pub record GoesOn {S : Type 0} (before : List (List ℕ)) (offset known : ℕ) (run : NumberedJournal (Option (Held S) × (List (List ℕ) × List (List ℕ)))) : Type 0 where
  pub offset_is : run.offset ≡ offset
  pub known_is : run.desk.known ≡ known
  pub none_lost : run.desk.is_lost ≡ false
  pub bound : IsKeptOrInDoubt before (run_bound offset) run.desk.journal.1.0 run.desk.journal.1.1
