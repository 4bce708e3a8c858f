use Rattle.std.specs.Prelude.{◌≡◌}
use Rattle.bg_tests_forward.proofs.many_requests.pass_all.Given as goal

abbrev pub invariant-loop-number : goal.invariant-loop-number
invariant-loop-number g l = l.seat.index ≡ l.fn.seat.index
