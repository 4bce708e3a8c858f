-- The first row of the database of a journal.
use Rattle.std.specs.Prelude.{◌≢◌, ℕ, List, ◌++◌}
use Rattle.bg_history.specs.declared.entry.Entry.TheVariants.{Deploy}
use Rattle.bg_journal.specs.Texts.{entry_text}

-- what the strategy means, a line for each setting, and then the first revision, in the form of a deploy of revision 1
abbrev pub first_row : List ℕ → List ℕ → List ℕ → List ℕ
first_row settings name ports = settings ++ entry_text (Deploy 1 name ports)

-- the row does not begin with these settings
abbrev pub HasOtherSettings : List ℕ → List ℕ → Type 0
HasOtherSettings settings row = (rest : List ℕ) → row ≢ settings ++ rest
