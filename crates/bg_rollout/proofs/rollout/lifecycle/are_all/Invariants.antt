use Rattle.std.proofs.Common.{◌≡◌, ◌<◌, ℕ, Some, slice_get}
use Rattle.bg_ledger.specs.declared.holding.Holding.{Holding}
use Rattle.bg_rollout.proofs.rollout.lifecycle.are_all.Given as goal

-- each seat before the place has its index
abbrev pub invariant-loop-place : goal.invariant-loop-place
invariant-loop-place g l = (k : ℕ) (seat : Holding) → k < l.place → slice_get l.seats k ≡ Some seat → seat.index ≡ k
