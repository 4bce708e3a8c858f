use Rattle.std.proofs.Common.{◌∙◌, ap, arith, length, length-append, sym, [], ◌∷◌}
use Rattle.bg_client_side.proofs.SeatLemmas.{length_left}
use Rattle.bg_client_side.specs.SeatRuns.{one_if}
use Rattle.bg_client_side.proofs.seats.Seats.leave.Goals as goal

pub invariant_of-self : goal.invariant_of-self
invariant_of-self c =
    let inside = c.self.inside in
    let left = ap length c.take_out.ensures.left in
    let size = length_left c.args.seat inside.taken.items in
    let none = ap one_if (sym c.take_out.ensures.there ∙ c.if-not-take_out.true) in (
      omega (arith, c.self.invariant.0, left, size, none),
      c.self.invariant.1,
      omega (arith, c.self.invariant.2, c.take_out.ensures.room),
      c.self.invariant.3,
    )

pub invariant_of-self-2 : goal.invariant_of-self-2
invariant_of-self-2 c =
    let inside = c.self.inside in
    let left = ap length c.take_out.ensures.left in
    let size = length_left c.args.seat inside.taken.items in
    let one = ap one_if (sym c.take_out.ensures.there ∙ c.if-not-take_out.false) in
    let free = ap length c.push_back_reserved.ensures.items in
    let more = length-append inside.free.items (c.args.seat ∷ []) in (
      omega (arith, c.self.invariant.0, left, size, one, free, more),
      omega (arith, c.self.invariant.1, c.push_back_reserved.ensures.capacity),
      omega (arith, c.self.invariant.2, c.take_out.ensures.room),
      c.self.invariant.3,
    )
