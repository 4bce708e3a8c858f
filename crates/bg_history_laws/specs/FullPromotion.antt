-- A running attempt can always be fully promoted, in at most three calls (Argo Rollouts,
-- `kubectl argo rollouts promote --full`).
use Rattle.std.specs.Prelude.{◌≡◌, ℕ, zero, suc, if◌then◌else◌, ◌⊎◌, List, IsTrue, IsFalse}
use Rattle.bg_strategy.specs.declared.strategy.Strategy.{Strategy}
use Rattle.bg_history.specs.declared.entry.Entry.{Entry}
use Rattle.bg_history.specs.declared.entry.Entry.TheVariants.{Available, PromoteFull}
use Rattle.bg_history.specs.declared.entry.Outcome.{Outcome}
use Rattle.bg_history.specs.Kept.{Opening}
use Rattle.bg_history.specs.AttemptBounds.{stable_of, newest_of, is_running}
use Rattle.bg_history.specs.Attempts.{has_promote_full}
use Rattle.bg_history.specs.Selections.{active_of, preview_of}
use Rattle.bg_history.specs.Sizes.{desired}
use Rattle.bg_history.specs.Allowed.{is_allowed}
use Rattle.bg_history.specs.Steps.{Step}

-- r is fully promoted: newest, active, preview and stable, and no attempt runs
pub record IsFullyPromoted (r : ℕ) (past : List Entry) : Type 0 where
  pub newest : newest_of past ≡ r
  pub active : active_of past ≡ r
  pub preview : preview_of past ≡ r
  pub stable : stable_of past ≡ r
  pub ended : IsFalse (is_running past)

-- the next call of a full promotion: the full promotion if the attempt has none; else the report that all desired
-- endpoints of its revision are available
abbrev pub next_promotion_call : Strategy → List Entry → Entry
next_promotion_call s past =
    if has_promote_full past then Available (newest_of past) (desired s (newest_of past) past)
    else PromoteFull

-- at most this many of these calls fully promote r; each is allowed after the ones before it
abbrev pub CanPromote : ℕ → Strategy → Opening → ℕ → List Entry → Type 0
CanPromote zero s o r past = IsFullyPromoted r past
CanPromote (suc calls) s o r past =
    IsFullyPromoted r past
    ⊎ (IsTrue (is_allowed s o (next_promotion_call s past) past)
    × ((outcomes : List Outcome) (new : List Entry) → Step s (next_promotion_call s past) past outcomes new
    → CanPromote calls s o r new))
