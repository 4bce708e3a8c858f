use Rattle.std.proofs.Common.{◌≡◌}
use Rattle.bg_history.specs.AttemptBounds.{stable_of, is_running}
use Rattle.bg_audit.specs.Openings.{oldest}
use Rattle.bg_audit.proofs.looking_back.is_running.Given as goal

abbrev pub invariant-loop-place : goal.invariant-loop-place
invariant-loop-place l =
    (is_running (oldest l.place l.history.past) ≡ is_running (oldest l.fn.count l.history.past))
    × (l.stable ≡ stable_of (oldest l.place l.history.past))
