-- The sizes in a list of revisions.
use Rattle.std.specs.Prelude.{ℕ, List, Option, Some, None}
use Rattle.bg_revisions.specs.declared.revision.Revision.{Revision}
use Rattle.bg_revisions.specs.Rosters.{numbered}

-- the number of endpoints that a revision wants; 0 if there is none
abbrev pub desired : Option Revision → ℕ
desired None = 0
desired (Some v) = v.desired

-- the number of endpoints that the revision of that number wants; 0 if there is none
abbrev pub desired_in : ℕ → List Revision → ℕ
desired_in number revisions = desired (numbered number revisions)
