use Rattle.bg_event_loop.specs.Seats.{AllUsed}
use Rattle.bg_event_loop.proofs.running.serve_clients.Given as goal

abbrev pub invariant-loop : goal.invariant-loop
invariant-loop g l = AllUsed l.initial.seats l.seats
