-- The entries that change no revision.
use Rattle.std.specs.Prelude.{Bool, true, false}
use Rattle.bg_history.specs.declared.entry.Entry.{Entry}
use Rattle.bg_history.specs.declared.entry.Entry.TheVariants.{Deploy, Available, Retry, Outcome}
use Rattle.bg_history.specs.declared.entry.Outcome.TheVariants.{Resumed, ScaledDown, Removed}

-- the entry adds and removes no revision, and changes neither how many endpoints of one are desired nor how many are
-- available
abbrev pub resizes_none : Entry → Bool
resizes_none (Deploy r name ports) = false
resizes_none (Available r n) = false
resizes_none Retry = false
resizes_none (Outcome (Resumed r)) = false
resizes_none (Outcome (ScaledDown r)) = false
resizes_none (Outcome (Removed r)) = false
resizes_none _ = true
