use Rattle.std.specs.Prelude.{◌≡◌}
use Rattle.bg_tests.proofs.desk.threads.work.Given as goal

abbrev pub invariant-loop : goal.invariant-loop
invariant-loop g l = (l.seat.number ≡ 0) × (l.seat.index ≡ l.fn.seat.index)
