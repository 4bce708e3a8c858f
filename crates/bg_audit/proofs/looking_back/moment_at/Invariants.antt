use Rattle.std.proofs.Common.{◌≡◌}
use Rattle.bg_history.specs.AttemptBounds.{moment}
use Rattle.bg_audit.specs.Openings.{oldest}
use Rattle.bg_audit.proofs.looking_back.moment_at.Given as goal

abbrev pub invariant-loop-place : goal.invariant-loop-place
invariant-loop-place l = moment (oldest l.place l.history.past) ≡ moment (oldest l.fn.count l.history.past)
