use Rattle.std.proofs.Common.{◌≡◌, length}
use Rattle.std.specs.VecDeque.{deque_capacity}
use Rattle.bg_client_side.specs.Seating.{first_seats}
use Rattle.bg_client_side.proofs.seats.free_seats.Given as goal

abbrev pub invariant-loop-seat : goal.invariant-loop-seat
invariant-loop-seat l =
    record { items : l.free.items ≡ first_seats l.seat; size : length l.free.items ≡ l.seat; room : deque_capacity l.free ≡ l.count }
