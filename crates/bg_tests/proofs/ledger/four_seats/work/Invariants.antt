use Rattle.std.specs.Prelude.{◌≡◌, ◌*◌}
use Rattle.bg_ledger.specs.Holdings.{fresh}
use Rattle.bg_tests.proofs.ledger.four_seats.work.Given as goal

abbrev pub invariant-loop-round : goal.invariant-loop-round
invariant-loop-round g l = l.seat ≡ record (fresh l.fn.seat.index) { calls = 2 * l.round }
