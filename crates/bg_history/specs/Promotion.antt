-- When each step of an attempt is allowed.
use Rattle.std.specs.Prelude.{ℕ, Bool, false, not, if◌then◌else◌, ◌+◌, ◌==◌, ◌&&◌, ◌||◌, nat_lt, nat_le, List, Option, Some, None}
use Rattle.bg_history.specs.declared.entry.Entry.{Entry}
use Rattle.bg_history.specs.declared.entry.Outcome.{Outcome}
use Rattle.bg_history.specs.declared.entry.Outcome.TheVariants.{Ready, Resumed, Switched, Promoted}
use Rattle.bg_strategy.specs.declared.strategy.Strategy.{Strategy}
use Rattle.bg_history.specs.AttemptBounds.{moment, newest_of, is_running}
use Rattle.bg_history.specs.Attempts.{has_ready, has_resumed, has_switched, has_promote, has_promote_full, has_post_success, pass_moment, is_passed}
use Rattle.bg_history.specs.Sizes.{available}
use Rattle.bg_history.specs.Phases.{needs_pause}

-- an attempt of r runs
abbrev pub attempts : ℕ → List Entry → Bool
attempts r past = is_running past && (r == newest_of past)

abbrev pub may_be_ready : Strategy → ℕ → List Entry → Bool
may_be_ready s r past =
    attempts r past && not (has_ready past) && nat_le s.preview_replicas (available r past)

-- promotion needs no operator, and the seconds of the pause have passed since it began at `at`
abbrev pub waited : Bool → ℕ → ℕ → Option ℕ → Bool
waited auto seconds now None = false
waited auto seconds now (Some at) = auto && nat_lt 0 seconds && nat_le (at + seconds) now

abbrev pub may_resume : Strategy → ℕ → List Entry → Bool
may_resume s r past =
    attempts r past && has_ready past && not (has_resumed past)
    && (has_promote_full past
    || (is_passed s past && not (needs_pause s))
    || (is_passed s past && has_promote past)
    || waited s.auto_promotion s.auto_seconds (moment past) (pass_moment s past))

abbrev pub may_switch : Strategy → ℕ → List Entry → Bool
may_switch s r past =
    attempts r past && has_resumed past && not (has_switched past)
    && (available r past == s.replicas)

abbrev pub may_promote : Strategy → ℕ → List Entry → Bool
may_promote s r past =
    attempts r past && has_switched past
    && (not s.post || has_post_success past || has_promote_full past)

-- the first of the four steps of an attempt that the past allows
abbrev pub first_promotion : Strategy → List Entry → Option Outcome
first_promotion s past =
    if may_be_ready s (newest_of past) past then Some (Ready (newest_of past))
    else if may_resume s (newest_of past) past then Some (Resumed (newest_of past))
    else if may_switch s (newest_of past) past then Some (Switched (newest_of past))
    else if may_promote s (newest_of past) past then Some (Promoted (newest_of past))
    else None
