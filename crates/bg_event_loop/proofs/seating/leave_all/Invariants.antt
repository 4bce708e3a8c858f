use Rattle.std.proofs.Common.{◌≡◌, ◌++◌, map, take, drop}
use Rattle.bg_event_loop.specs.Seats.{emptied}
use Rattle.bg_event_loop.proofs.seating.leave_all.Given as goal

abbrev pub invariant-loop-seat : goal.invariant-loop-seat
invariant-loop-seat g l =
    l.seats ≡ map emptied (take l.seat-index l.initial.seats) ++ drop l.seat-index l.initial.seats
