use Rattle.std.proofs.Common.{◌≡◌}
use Rattle.bg_history.specs.AttemptBounds.{is_running}
use Rattle.bg_history.specs.Attempts.{in_attempt}
use Rattle.bg_audit.specs.Openings.{oldest}
use Rattle.bg_audit.specs.Steps.{is_step}
use Rattle.bg_audit.proofs.looking_back.has_step.Given as goal

abbrev pub invariant-loop-place : goal.invariant-loop-place
invariant-loop-place l =
    (in_attempt (is_step l.step) (oldest l.place l.history.past) ≡ in_attempt (is_step l.step) (oldest l.fn.count l.history.past))
    × (l.running ≡ is_running (oldest l.place l.history.past))
