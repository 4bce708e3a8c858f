use Rattle.std.proofs.Common.{◌≡◌}
use Rattle.bg_history.specs.AttemptBounds.{is_halted}
use Rattle.bg_audit.specs.Openings.{oldest}
use Rattle.bg_audit.proofs.looking_back.is_halted.Given as goal

abbrev pub invariant-loop-place : goal.invariant-loop-place
invariant-loop-place l = is_halted (oldest l.place l.history.past) ≡ is_halted (oldest l.fn.count l.history.past)
