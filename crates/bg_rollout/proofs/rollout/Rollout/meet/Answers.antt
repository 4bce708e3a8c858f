use Rattle.std.proofs.Common.{◌≡◌, ℕ, Some, slice_get, subst, arith}
use Rattle.bg_rollout.proofs.SeatRecords.MetSeats.{meets_of}
use Rattle.bg_rollout.proofs.rollout.Rollout.meet.Goals as goal

pub agree-requires-clause-within : goal.agree-requires-clause-within
agree-requires-clause-within g c = omega (arith, c.index-index.ensures.below, c.requires)

pub returns-clause-met : goal.returns-clause-met
returns-clause-met g c =
    let b = c.args.self.now.routing in
    let seat = c.args.seat.now in
    meets_of b seat c.holds_invariant.ensures (c.reachable.ensures b.strategy b.opening)
    (subst (λ (n : ℕ). slice_get b.seats n ≡ Some seat) c.index-index.ensures.index c.agree.ensures.known)
