use Rattle.std.proofs.Common.{ℕ, ◌<◌, List, Some, length, get_or, slice_get, inl, inr, refl, sym, ap, subst}
use Rattle.std.proofs.lemmas.List.{set-get_or}
use Rattle.std.proofs.lemmas.Option.{slice_get-get_or}
use Rattle.bg_book.specs.declared.calls.Reply.{Reply}
use Rattle.bg_ledger.specs.declared.holding.Holding.{Holding}
use Rattle.bg_rollout.specs.Gathering.{indices}
use Rattle.bg_rollout.specs.Routing.{Routing}
use Rattle.bg_book.specs.Runs.{LeaveAt}
use Rattle.bg_book.proofs.Running.{same_order, holds_one, holds_none}
use Rattle.bg_book.proofs.SeatAlone.{left_at}
use Rattle.bg_book.proofs.book.Book.leave_at.Goals as goal

at_seat : (b : Routing) (seats : List Holding) (place : ℕ) (d : Holding) (reply : Reply) (new : Routing) (new_seats : List Holding) → place < length seats
    → LeaveAt b seats place (Some (get_or seats place d)) reply new new_seats → LeaveAt b seats place (slice_get seats place) reply new new_seats
at_seat b seats place d reply new new_seats h left = subst (λ o. LeaveAt b seats place o reply new new_seats) (sym (slice_get-get_or seats place d h)) left

pub returns-then-not-is_in-clause-reply : goal.returns-then-not-is_in-clause-reply
returns-then-not-is_in-clause-reply g c =
    at_seat _ _ c.args.place c.index-seats-place.result _ _ _ c.if-place-seats.false
    (inl (holds_none _ _ c.is_in.ensures c.if-not-is_in.true, (refl, (refl, set-get_or _ _ _))))

pub returns-clause-reply : goal.returns-clause-reply
returns-clause-reply g c =
    let seats = c.args.seats.now in
    let seat = get_or seats c.args.place c.index-seats-place.result in
    at_seat c.args.self.now seats c.args.place c.index-seats-place.result _ _ _ c.if-place-seats.false
    (inr (holds_one _ _ c.is_in.ensures c.if-not-is_in.false, left_at c.args.self.now c.leave.new.self seats c.args.place seat c.leave.new.seat c.leave.result c.leave.ensures.told.step))

pub returns-clause-order : goal.returns-clause-order
returns-clause-order g c =
    same_order c.args.seats.now c.args.place c.index-seats-place.result c.leave.new.seat c.if-place-seats.false (ap (λ (v : Holding). v.index) c.leave.ensures.seat)

pub returns-then-not-is_in-clause-order : goal.returns-then-not-is_in-clause-order
returns-then-not-is_in-clause-order g c = ap indices (set-get_or c.args.seats.now c.args.place _)
