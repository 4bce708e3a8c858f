use Rattle.std.proofs.Common.{length, ◌-◌, ◌≤◌}
use Rattle.bg_control_port.proofs.writing.write_what_fits.Given as goal

-- no more was taken than there is
abbrev pub invariant-loop-taken : goal.invariant-loop-taken
invariant-loop-taken l = l.taken ≤ length l.bytes

abbrev pub decreases-loop-taken : goal.decreases-loop-taken
decreases-loop-taken l = length l.bytes - l.taken
