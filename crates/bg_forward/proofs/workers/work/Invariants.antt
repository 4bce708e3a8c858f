use Rattle.bg_forward.specs.Seats.{Worked}
use Rattle.bg_forward.proofs.workers.work.Given as goal

abbrev pub invariant-loop : goal.invariant-loop
invariant-loop g l = Worked l.counter l.initial.seat l.seat
