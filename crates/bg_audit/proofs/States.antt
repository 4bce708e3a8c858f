-- A state, its selectors and its attempt.
use Rattle.std.proofs.Common.{List, refl}
use Rattle.bg_strategy.specs.declared.strategy.Strategy.{Strategy}
use Rattle.bg_history.specs.declared.entry.Entry.{Entry}
use Rattle.bg_history.specs.AttemptBounds.{is_running, is_halted}
use Rattle.bg_audit.specs.declared.audited_state.AuditedState.{AuditedState}
use Rattle.bg_audit.specs.AuditedState.{IsAuditedState, HasSelectors, attempt_of}

-- a state of a past has its selectors
pub has-selectors : (s : Strategy) (past : List Entry) (c : AuditedState) → IsAuditedState s past c → HasSelectors past c
has-selectors s past c is = record {
  moment_is = is.moment_is;
  stable_is = is.stable_is;
  newest_is = is.newest_is;
  active_is = is.active_is;
  last_is = is.last_is;
}

-- a state that has the selectors of a past, with what the past says of the attempt
pub looked-back : (s : Strategy) (past : List Entry) (c : AuditedState) → HasSelectors past c
    → IsAuditedState s past (record c { running = is_running past; halted = is_halted past; attempt = attempt_of s past })
looked-back s past c has = record {
  moment_is = has.moment_is;
  stable_is = has.stable_is;
  newest_is = has.newest_is;
  active_is = has.active_is;
  last_is = has.last_is;
  running_is = refl;
  halted_is = refl;
  ready_is = refl;
  resumed_is = refl;
  switched_is = refl;
  promote_given_is = refl;
  promote_full_given_is = refl;
  post_passed_is = refl;
  passed_at_is = refl;
}
