use Rattle.std.proofs.Common.{◌≡◌, ◌<◌, None, false, slice_index_or, ℕ}
use Rattle.bg_load.specs.Stalls.{is_moving}
use Rattle.bg_load.proofs.load_table.LoadTable.has_moving.Given as goal

-- no request so far is moving
abbrev pub invariant-loop-place : goal.invariant-loop-place
invariant-loop-place l = (k : ℕ) → k < l.place-index → is_moving l.now (slice_index_or l.self k None) ≡ false
