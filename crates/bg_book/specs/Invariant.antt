-- The invariant of a book between its calls, in addition to the invariant of its rollout.
use Rattle.std.specs.Prelude.{◌≡◌, ◌≤◌, ◌+◌, ◌*◌, ℕ, IsTrue, length}
use Rattle.bg_history.specs.Steps.{is_settled}
use Rattle.bg_rollout.specs.Invariant.{RolloutModel}
use Rattle.bg_rollout.specs.Refusals.{all_open}

-- between calls the book has `seats` seats, no allowed outcome is left undone, and three entries are reserved for
-- each open request within the limit
pub record AtRest (seats : ℕ) (r : RolloutModel) : Type 0 where
  pub all_seats : r.routing.opening.seats ≡ seats
  pub settled : IsTrue (is_settled r.routing.strategy r.routing.past)
  pub spare : 3 * all_open r.routing.past ≤ r.spare
  pub room : length r.routing.past + 3 * all_open r.routing.past ≤ r.routing.limits.entries
