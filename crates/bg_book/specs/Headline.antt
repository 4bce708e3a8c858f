-- What holds of a book between its calls.
use Rattle.std.specs.Prelude.{◌≡◌, ℕ, Bool, false, ◌==◌, ◌&&◌, ◌||◌, IsTrue, List, [], ◌∷◌, length, map, sum_by}
use Rattle.bg_strategy.specs.declared.strategy.Strategy.{Strategy}
use Rattle.bg_history.specs.declared.entry.Entry.{Entry}
use Rattle.bg_history.specs.declared.entry.Entry.TheVariants.{Deploy, Outcome}
use Rattle.bg_history.specs.declared.entry.Outcome.TheVariants.{Switched}
use Rattle.bg_history.specs.AttemptBounds.{is_halt, stable_of}
use Rattle.bg_history.specs.Selections.{active_of, preview_of}
use Rattle.bg_history.specs.Sizes.{is_scaled}
use Rattle.bg_history.specs.Deadlines.{deadline}
use Rattle.bg_history.specs.Promotion.{may_switch}
use Rattle.bg_history.specs.Requests.{open_at}
use Rattle.bg_history.specs.Steps.{IsLegal, is_settled}
use Rattle.bg_history_laws.specs.Reachable.{exists_scaled}
use Rattle.bg_rollout.specs.RequestLists.{requests_of}
use Rattle.bg_rollout.specs.PastState.{lists_of, requests_at, share, SeatsInvariant}
use Rattle.bg_rollout.specs.Routing.{Routing}
use Rattle.bg_rollout.specs.State.{deadline_at, state_of}

-- the entry is a switch that is allowed
abbrev pub switches_by_rule : Strategy → Entry → List Entry → Bool
switches_by_rule s (Outcome (Switched r)) before = may_switch s r before
switches_by_rule s _ before = false

-- the entry halts an attempt or deploys the stable revision
abbrev pub may_go_back : Entry → List Entry → Bool
may_go_back (Deploy r name ports) before = r == stable_of before
may_go_back e before = is_halt e

-- at this entry, the active service keeps its revision, switches by the rule, or goes back to the stable revision
abbrev pub moves_by_rule : Strategy → Entry → List Entry → Bool
moves_by_rule s e before =
    (active_of (e ∷ before) == active_of before) || switches_by_rule s e before
    || (may_go_back e before && (active_of (e ∷ before) == stable_of before))

-- the active service selects revision 1 at the opening, and each later move follows the rule
abbrev pub is_reached_by_rule : Strategy → List Entry → Bool
is_reached_by_rule s [] = active_of [] == 1
is_reached_by_rule s (e ∷ before) = moves_by_rule s e before && is_reached_by_rule s before

-- the headline: the running state is the state of the book's past, that past is legal, no allowed outcome is left
-- undone, and the other parts hold
pub record Headline (b : Routing) : Type 0 where
  pub fold : b.running ≡ state_of b.strategy b.opening b.closed b.past
  -- the deadline that the state shows for each revision is the one that the past gives
  pub deadlines : (r : ℕ) → deadline_at b.running r ≡ deadline b.strategy r b.past
  pub legal : IsLegal b.strategy b.opening b.closed b.past
  pub settled : IsTrue (is_settled b.strategy b.past)
  pub active : IsTrue (exists_scaled b.strategy (active_of b.past) b.past)
  pub preview : IsTrue (exists_scaled b.strategy (preview_of b.past) b.past)
  pub by_rule : IsTrue (is_reached_by_rule b.strategy b.past)
  pub lists : b.lists ≡ lists_of b.past
  -- the list of r has each request open at r, at the node of its seat's index
  pub nodes : (r : ℕ) → requests_of r b.lists ≡ requests_at r b.past
  pub listed : (r : ℕ) → map (λ q. q.number) (requests_of r b.lists) ≡ open_at r b.past
  pub counted : (r : ℕ) → length (requests_of r b.lists) ≡ length (open_at r b.past)
  pub shares : (r : ℕ) → sum_by (share r) b.seats ≡ length (open_at r b.past)
  pub seats : SeatsInvariant b.opening b.closed b.past b.seats
  pub unscaled : (r : ℕ) → is_scaled b.strategy r b.past ≡ false → open_at r b.past ≡ []
