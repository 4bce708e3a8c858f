-- What holds of every past that calls can reach.
use Rattle.std.specs.Prelude.{◌≡◌, ◌≤◌, ◌<◌, ℕ, ◌+◌, ◌^◌, Bool, true, false, ◌&&◌, List, [], length, None, is_some, IsTrue, IsFalse}
use Rattle.std.specs.List.{list_all}
use Rattle.bg_strategy.specs.declared.strategy.Strategy.{Strategy}
use Rattle.bg_history.specs.declared.entry.Entry.{Entry}
use Rattle.bg_history.specs.Kept.{Opening}
use Rattle.bg_history.specs.AttemptBounds.{moment, stable_of, newest_of}
use Rattle.bg_history.specs.Selections.{active_of, preview_of}
use Rattle.bg_history.specs.Sizes.{existing, last_number, desired, available, is_scaled}
use Rattle.bg_history.specs.Requests.{open_requests, open_at}
use Rattle.bg_history.specs.Deadlines.{deadline, exists_in}
use Rattle.bg_history.specs.Templates.{template}

-- r exists and is scaled
abbrev pub exists_scaled : Strategy → ℕ → List Entry → Bool
exists_scaled s r past = exists_in r past && is_scaled s r past

-- what holds of every past that calls can reach
pub record Reachable (s : Strategy) (o : Opening) (past : List Entry) : Type 0 where
  -- the selected revisions exist and are scaled, and the newest one exists
  pub active : IsTrue (exists_scaled s (active_of past) past)
  pub preview : IsTrue (exists_scaled s (preview_of past) past)
  pub stable : IsTrue (exists_scaled s (stable_of past) past)
  pub newest : IsTrue (exists_in (newest_of past) past)
  -- a revision wants at most full size, and has at most as many available endpoints as it wants
  pub desired_most : (r : ℕ) → desired s r past ≤ s.replicas
  pub available_most : (r : ℕ) → available r past ≤ desired s r past
  -- the numbers of existing revisions were given; a number that wasn't given yet has no size and no template
  pub given_from : (r : ℕ) → IsTrue (exists_in r past) → 1 ≤ r
  pub given_to : (r : ℕ) → IsTrue (exists_in r past) → r ≤ last_number past
  pub undeployed_size : (r : ℕ) → last_number past < r → desired s r past ≡ 0
  pub undeployed_available : (r : ℕ) → last_number past < r → available r past ≡ 0
  pub undeployed_template : (r : ℕ) → last_number past < r → template o r past ≡ None
  -- each existing revision has a template, and at most 64 exist
  pub templates : (r : ℕ) → IsTrue (exists_in r past) → IsTrue (is_some (template o r past))
  pub few : length (existing past) ≤ 64
  -- the opening or an entry gave each number
  pub numbers : last_number past ≤ 1 + length past
  -- a revision with a deadline exists, is scaled, and is neither active nor preview
  pub marked_exists : (r : ℕ) → IsTrue (is_some (deadline s r past)) → IsTrue (exists_in r past)
  pub marked_scaled : (r : ℕ) → IsTrue (is_some (deadline s r past)) → IsTrue (is_scaled s r past)
  pub active_unmarked : IsFalse (is_some (deadline s (active_of past) past))
  pub preview_unmarked : IsFalse (is_some (deadline s (preview_of past) past))
  -- each open request is at a revision that exists and is scaled, so an unscaled revision has none
  pub open_scaled : list_all (λ q. exists_scaled s q.revision past) (open_requests past) ≡ true
  pub unscaled_empty : (r : ℕ) → is_scaled s r past ≡ false → open_at r past ≡ []
  -- the moment is at most 2 ^ 53
  pub moment : moment past ≤ 2 ^ 53
