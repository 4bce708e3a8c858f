-- A rollout whose history is compacted.
use Rattle.bg_history.specs.Compacted.{compacted, closed_after}
use Rattle.bg_rollout.specs.Routing.{Routing}
use Rattle.bg_rollout.specs.Invariant.{RolloutModel}

-- the routing with its history compacted: the dropped requests are counted for their seats, and the rest is unchanged
abbrev pub with_compacted : Routing → Routing
with_compacted b = record b { closed = closed_after b.past b.closed; past = compacted b.past }

abbrev pub part_compacted : RolloutModel → RolloutModel
part_compacted r = record r { routing = with_compacted r.routing }
