use Rattle.std.specs.Prelude.{◌≡◌}
use Rattle.bg_tests_refused_memory.proofs.forwarding.fill.Given as goal

abbrev pub invariant-loop : goal.invariant-loop
invariant-loop g l = l.seat.index ≡ l.fn.seat.index
