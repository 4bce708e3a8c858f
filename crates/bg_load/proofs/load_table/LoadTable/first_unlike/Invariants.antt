use Rattle.std.proofs.Common.{◌≡◌, ◌<◌, None, slice_index_or, ℕ}
use Rattle.bg_load.specs.Pauses.{is_large_from, is_paused}
use Rattle.bg_load.proofs.load_table.LoadTable.first_unlike.Given as goal

-- each request so far is paused, or goes on, as it should
abbrev pub invariant-loop-key : goal.invariant-loop-key
invariant-loop-key l =
    (k : ℕ) → k < l.key → is_paused (slice_index_or l.self k None) ≡ is_large_from l.least (slice_index_or l.self k None)
