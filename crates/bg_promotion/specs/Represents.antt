-- When a core represents a past.
use Rattle.std.specs.Prelude.{◌≡◌, Bool, true, false, List}
use Rattle.bg_history.specs.declared.entry.Entry.{Entry}
use Rattle.bg_history.specs.declared.entry.Entry.TheVariants.{Tick, Available, Enter, Leave, Outcome}
use Rattle.bg_history.specs.declared.entry.Outcome.TheVariants.{ScaledDown, Removed}
use Rattle.bg_strategy.specs.declared.strategy.Strategy.{Strategy}
use Rattle.bg_history.specs.AttemptBounds.{stable_of, newest_of, is_running, is_halted}
use Rattle.bg_history.specs.Attempts.{has_ready, has_resumed, has_switched, has_promote, has_promote_full, has_post_success, pass_moment}
use Rattle.bg_history.specs.Selections.{active_of}
use Rattle.bg_promotion.specs.Core.{Core}

-- the core has the strategy's settings, and each other field is what the past says
pub record CoreRepresents (s : Strategy) (core : Core) (past : List Entry) : Type 0 where
  pub replicas_is : core.replicas ≡ s.replicas
  pub preview_replicas_is : core.preview_replicas ≡ s.preview_replicas
  pub auto_promotion_is : core.auto_promotion ≡ s.auto_promotion
  pub auto_seconds_is : core.auto_seconds ≡ s.auto_seconds
  pub pre_is : core.pre ≡ s.pre
  pub post_is : core.post ≡ s.post
  pub running_is : core.running ≡ is_running past
  pub halted_is : core.halted ≡ is_halted past
  pub ready_is : core.attempt.ready ≡ has_ready past
  pub resumed_is : core.attempt.resumed ≡ has_resumed past
  pub switched_is : core.attempt.switched ≡ has_switched past
  pub promote_given_is : core.attempt.promote_given ≡ has_promote past
  pub promote_full_given_is : core.attempt.promote_full_given ≡ has_promote_full past
  pub post_passed_is : core.attempt.post_passed ≡ has_post_success past
  pub passed_at_is : core.attempt.passed_at ≡ pass_moment s past
  pub active_is : core.active ≡ active_of past
  pub stable_is : core.stable ≡ stable_of past
  pub newest_is : core.newest ≡ newest_of past

-- the entry has no part in promotion
abbrev pub is_neutral : Entry → Bool
is_neutral (Tick m) = true
is_neutral (Available r n) = true
is_neutral (Enter seat service number r port) = true
is_neutral (Leave seat number r) = true
is_neutral (Outcome (ScaledDown r)) = true
is_neutral (Outcome (Removed r)) = true
is_neutral _ = false
