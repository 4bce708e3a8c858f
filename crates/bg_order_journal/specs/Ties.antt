-- How the texts that a process remembers stand to the database that has them.
use Rattle.std.specs.Prelude.{◌≡◌, ◌≢◌, ℕ, Bool, true, false, List, [], ◌∷◌, ◌++◌, drop, Option, Some, None, IsTrue, string_bytes, String}
use Rattle.std.specs.declared.alloc.Global.{Global}
use Rattle.sqlite.specs.Held.{Held, state}
use Rattle.sqlite.specs.State.{State, HasCleanDisk}
use Rattle.sqlite_trees.specs.Tree.{Trees}
use Rattle.sqlite_trees.specs.declared.store.Store.{Ghosts}
use Rattle.bg_journal_store.specs.Journal.{LeavesEither, LeavesJournals, texts_in}

-- Whatever a crash leaves is a journal with these rows, or with the one in doubt too. If none is in doubt, the database is open
-- and has these rows.
pub record Ties (s : State) (rows doubt : List (List ℕ)) : Type 0 where
  pub journals : LeavesJournals s
  pub crash : LeavesEither s rows (rows ++ doubt)
  pub settled : doubt ≡ [] → IsTrue s.is_open × (texts_in s.now.trees ≡ rows)

-- A journal that could not be opened again has a row in doubt.
abbrev pub IsTied : {S : Type 0} → Ghosts S → Option (Held S) → List (List ℕ) → List (List ℕ) → Type 0
IsTied g None rows doubt = doubt ≢ []
IsTied g (Some journal) rows doubt = HasCleanDisk (state g journal) → Ties (state g journal) rows doubt

-- the same after a try to append a row, which was kept or is in doubt
abbrev pub IsTiedAs : {S : Type 0} → Ghosts S → Option (Held S) → List (List ℕ) → List ℕ → Bool → Type 0
IsTiedAs g journal rows text true = IsTied g journal (rows ++ text ∷ []) []
IsTiedAs g journal rows text false = IsTied g journal rows (text ∷ [])

-- the text in doubt, or none
abbrev pub doubt_in : Option (String Global) → List (List ℕ)
doubt_in None = []
doubt_in (Some text) = string_bytes text ∷ []

-- The texts of orders that a start after a crash may find, by what the store of the database says of a crash. It says nothing
-- if the disk did not return what was written, or if the journal could not be opened again.
abbrev pub MayFind : {S : Type 0} → Ghosts S → Option (Held S) → List (List ℕ) → Type 0
MayFind g None found = ⊥
MayFind g (Some journal) found =
    HasCleanDisk (state g journal) × ((db : Trees) × (state g journal).may_leave db × (found ≡ drop 1 (texts_in db)))
