-- A bound on the number of outcomes that may still come.
use Rattle.std.specs.Prelude.{ℕ, Bool, if◌then◌else◌, ◌+◌, ◌*◌, List, length, count_by}
use Rattle.bg_history.specs.declared.entry.Entry.{Entry}
use Rattle.bg_strategy.specs.declared.strategy.Strategy.{Strategy}
use Rattle.bg_history.specs.AttemptBounds.{is_running}
use Rattle.bg_history.specs.Attempts.{has_ready, has_resumed, has_switched}
use Rattle.bg_history.specs.Sizes.{existing, is_scaled}

-- 1 unless the step was taken
abbrev pub one_unless : Bool → ℕ
one_unless taken = if taken then 0 else 1

-- the number of steps that the running attempt still has to take: Ready, Resumed, Switched and Promoted
abbrev pub steps_left : List Entry → ℕ
steps_left past =
    if is_running past then
    1 + one_unless (has_ready past) + one_unless (has_resumed past) + one_unless (has_switched past)
    else 0

-- the number of existing revisions that are scaled
abbrev pub scaled_count : Strategy → List Entry → ℕ
scaled_count s past = count_by (λ r. is_scaled s r past) (existing past)

-- a bound on the number of outcomes to come: a step counts twice, because it may scale its revision; each scaled
-- revision may be scaled down, and each existing revision may be removed
abbrev pub work : Strategy → List Entry → ℕ
work s past = 2 * steps_left past + scaled_count s past + length (existing past)
