use Rattle.std.proofs.Common.{◌≡◌}
use Rattle.std.specs.Option.{option_or}
use Rattle.bg_history.specs.AttemptBounds.{is_running}
use Rattle.bg_history.specs.Attempts.{pass_moment}
use Rattle.bg_audit.specs.Openings.{oldest}
use Rattle.bg_audit.proofs.looking_back.passed_at.Given as goal

abbrev pub invariant-loop-place : goal.invariant-loop-place
invariant-loop-place l =
    (option_or (pass_moment l.strategy (oldest l.place l.history.past)) l.found ≡ pass_moment l.strategy (oldest l.fn.count l.history.past))
    × (l.running ≡ is_running (oldest l.place l.history.past))
