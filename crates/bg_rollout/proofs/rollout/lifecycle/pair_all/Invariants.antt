use Rattle.std.proofs.Common.{◌≡◌, ◌≤◌, vec_capacity}
use Rattle.bg_ledger.specs.Blanks.{AreFrom}
use Rattle.bg_rollout.specs.Changes.{NewSeats}
use Rattle.bg_rollout.proofs.rollout.lifecycle.pair_all.Given as goal

-- the pairs so far, the blanks that are still to be taken, and room for the rest
abbrev pub invariant-loop-index : goal.invariant-loop-index
invariant-loop-index g l =
    NewSeats l.index l.seats.items × (l.records.items ≡ l.seats.items)
    × AreFrom g.N.Names l.index l.blanks
    × ((l.fn.count ≤ vec_capacity l.records) × (l.fn.count ≤ vec_capacity l.seats))
