use Rattle.std.proofs.Common.{◌≡◌, ◌≤◌}
use Rattle.bg_history.specs.Requests.{entered}
use Rattle.bg_audit.specs.Openings.{oldest}
use Rattle.bg_audit.proofs.numbers.entered.Given as goal

abbrev pub invariant-loop-place : goal.invariant-loop-place
invariant-loop-place l = (l.count ≡ entered (oldest l.place l.history.past)) × (l.count ≤ l.place)
