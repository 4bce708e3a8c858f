-- The entries of a history that are in use.
use Rattle.std.specs.Prelude.{ℕ, ◌+◌, ◌*◌, List, length}
use Rattle.bg_history.specs.declared.entry.Entry.{Entry}
use Rattle.bg_rollout.specs.Refusals.{all_open}

-- the number of entries of the past, and three that are reserved for each open request
abbrev pub entries_used : List Entry → ℕ
entries_used past = length past + 3 * all_open past
