-- What a state says of a past.
use Rattle.std.specs.Prelude.{◌≡◌, false, List, None}
use Rattle.bg_history.specs.declared.entry.Entry.{Entry}
use Rattle.bg_strategy.specs.declared.strategy.Strategy.{Strategy}
use Rattle.bg_history.specs.AttemptBounds.{moment, stable_of, newest_of, is_running, is_halted}
use Rattle.bg_history.specs.Attempts.{has_ready, has_resumed, has_switched, has_promote, has_promote_full, has_post_success, pass_moment}
use Rattle.bg_history.specs.Selections.{active_of}
use Rattle.bg_history.specs.Sizes.{last_number}
use Rattle.bg_audit.specs.declared.audited_attempt.AuditedAttempt.{AuditedAttempt}
use Rattle.bg_audit.specs.declared.audited_state.AuditedState.{AuditedState}

-- an attempt in which nothing has happened
abbrev pub empty_attempt : AuditedAttempt
empty_attempt = record {
  ready = false;
  resumed = false;
  switched = false;
  promote_given = false;
  promote_full_given = false;
  post_passed = false;
  passed_at = None;
}

-- what the running attempt has after a past
abbrev pub attempt_of : Strategy → List Entry → AuditedAttempt
attempt_of s past = record {
  ready = has_ready past;
  resumed = has_resumed past;
  switched = has_switched past;
  promote_given = has_promote past;
  promote_full_given = has_promote_full past;
  post_passed = has_post_success past;
  passed_at = pass_moment s past;
}

-- the moment and the revisions of the state are what the past says
pub record HasSelectors (past : List Entry) (c : AuditedState) : Type 0 where
  pub moment_is : c.moment ≡ moment past
  pub stable_is : c.stable ≡ stable_of past
  pub newest_is : c.newest ≡ newest_of past
  pub active_is : c.active ≡ active_of past
  pub last_is : c.last ≡ last_number past

-- each field of the state is what the past says
pub record IsAuditedState (s : Strategy) (past : List Entry) (c : AuditedState) : Type 0 where
  pub moment_is : c.moment ≡ moment past
  pub stable_is : c.stable ≡ stable_of past
  pub newest_is : c.newest ≡ newest_of past
  pub active_is : c.active ≡ active_of past
  pub last_is : c.last ≡ last_number past
  pub running_is : c.running ≡ is_running past
  pub halted_is : c.halted ≡ is_halted past
  pub ready_is : c.attempt.ready ≡ has_ready past
  pub resumed_is : c.attempt.resumed ≡ has_resumed past
  pub switched_is : c.attempt.switched ≡ has_switched past
  pub promote_given_is : c.attempt.promote_given ≡ has_promote past
  pub promote_full_given_is : c.attempt.promote_full_given ≡ has_promote_full past
  pub post_passed_is : c.attempt.post_passed ≡ has_post_success past
  pub passed_at_is : c.attempt.passed_at ≡ pass_moment s past
