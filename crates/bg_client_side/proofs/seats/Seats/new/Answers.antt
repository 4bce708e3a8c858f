use Rattle.std.proofs.Common.{ap, arith, length}
use Rattle.bg_client_side.proofs.SeatLemmas.{length_first}
use Rattle.bg_client_side.proofs.seats.Seats.new.Goals as goal

pub invariant_of-result : goal.invariant_of-result
invariant_of-result c =
    let free = ap length c.in_ok-free.ensures.items in
    let all = length_first c.args.count in
    let taken = ap length c.in_ok-with_capacity-2.ensures.items in (
      omega (arith, free, all, taken),
      omega (arith, c.in_ok-free.ensures.room),
      omega (arith, c.in_ok-with_capacity-2.ensures.exact),
      omega (arith, c.in_ok-with_capacity.ensures.exact),
    )
