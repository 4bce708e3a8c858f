use Rattle.std.proofs.Common.{◌≡◌, ◌<◌, ◌≤◌, None, false, slice_index_or, ℕ}
use Rattle.bg_load.specs.Pauses.{is_stuck}
use Rattle.bg_load.proofs.load_table.LoadTable.stuck_from.Given as goal

-- no request so far is stuck
abbrev pub invariant-loop-key : goal.invariant-loop-key
invariant-loop-key l = (k : ℕ) → l.from ≤ k → k < l.key → is_stuck l.now (slice_index_or l.self k None) ≡ false
