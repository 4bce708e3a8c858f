use Rattle.bg_event_loop.specs.Seats.{AllUsed}
use Rattle.bg_event_loop.proofs.running.serve_due.Given as goal

abbrev pub invariant-loop : goal.invariant-loop
invariant-loop g l = AllUsed l.initial.seats l.seats
