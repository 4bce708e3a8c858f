use Rattle.std.proofs.Common.{◌≡◌}
use Rattle.bg_rollout.specs.Gathering.{indices}
use Rattle.bg_tests.proofs.desk.cut.tell.Given as goal

abbrev pub invariant-loop-call : goal.invariant-loop-call
invariant-loop-call g l = record {
  order : indices l.seats ≡ indices l.initial.seats;
}
