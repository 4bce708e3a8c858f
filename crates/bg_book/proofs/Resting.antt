-- A book at rest is at rest once its history is compacted.
use Rattle.std.proofs.Common.{◌≡◌, ◌≤◌, ℕ, List, length, is_none, arith, ap, sym, ◌∙◌}
use Rattle.bg_history.specs.declared.entry.Entry.{Entry}
use Rattle.bg_history.specs.Requests.{open_requests}
use Rattle.bg_history.specs.Compacted.{compacted}
use Rattle.bg_history_laws.specs.Compaction.{Compacts}
use Rattle.bg_rollout.specs.Compaction.{part_compacted}
use Rattle.bg_rollout.specs.Invariant.{RolloutModel}
use Rattle.bg_book.specs.Invariant.{AtRest}

pub at-rest : ((past : List Entry) → length (compacted past) ≤ length past) → (seats : ℕ) (r : RolloutModel) → Compacts r.routing.strategy r.routing.opening r.routing.closed r.routing.past
    → AtRest seats r → AtRest seats (part_compacted r)
at-rest shorter seats r c h =
    let same : length (open_requests (compacted r.routing.past)) ≡ length (open_requests r.routing.past) = ap length (sym c.same.held) in
    record {
      all_seats = h.all_seats;
      settled = ap is_none c.first ∙ h.settled;
      spare = omega (arith, h.spare, same);
      room = omega (arith, h.room, same, shorter r.routing.past);
    }
