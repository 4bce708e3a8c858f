-- The past after the outcomes that it allows.
use Rattle.std.specs.Prelude.{◌≡◌, ℕ, Bool, not, ◌&&◌, ◌==◌, List, length}
use Rattle.bg_revisions.specs.declared.revision.Revision.{Revision}
use Rattle.bg_revisions.specs.declared.revision.Selectors.{Selectors}
use Rattle.bg_history.specs.declared.entry.Outcome.{Outcome}
use Rattle.bg_history.specs.Steps.{Follows, with_outcomes}
use Rattle.bg_rollout.specs.Changes.{with_past}
use Rattle.bg_rollout.specs.Routing.{Routing}

-- the routing was reached by n outcomes; each was the first allowed one at its place
pub record Reached (from now : Routing) (n : ℕ) : Type 0 where
  pub outcomes : List Outcome
  pub count_is : length outcomes ≡ n
  pub follow : Follows from.strategy outcomes from.past
  pub now_is : now ≡ with_past from (with_outcomes outcomes from.past) from.seats

-- the revision isn't scaled, and is neither selected nor the newest
abbrev pub old_among : Selectors → Revision → Bool
old_among x v =
    (v.desired == 0) && not (v.number == x.active) && not (v.number == x.preview)
    && not (v.number == x.stable) && not (v.number == x.newest)
