use Rattle.std.proofs.Common.{◌≡◌, ◌≤◌, length, filter, take}
use Rattle.bg_rollout.specs.Settling.{old_among}
use Rattle.bg_rollout.proofs.rollout.settling.count_old.Given as goal

abbrev pub invariant-loop-revision : goal.invariant-loop-revision
invariant-loop-revision l =
    (l.count ≡ length (filter (old_among l.selectors) (take l.revision-index l.revisions)))
    × (l.count ≤ l.revision-index)
