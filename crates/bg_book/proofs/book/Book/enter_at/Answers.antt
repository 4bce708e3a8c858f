use Rattle.std.proofs.Common.{ℕ, ◌<◌, List, Some, length, get_or, slice_get, inl, inr, refl, sym, ap, subst}
use Rattle.std.proofs.lemmas.List.{set-get_or}
use Rattle.std.proofs.lemmas.Option.{slice_get-get_or}
use Rattle.bg_revisions.specs.declared.revision.Service.{Service}
use Rattle.bg_book.specs.declared.calls.Reply.{Reply}
use Rattle.bg_book.specs.declared.calls.Reply.TheVariants.{Entered, EnterRefused}
use Rattle.bg_ledger.specs.declared.holding.Holding.{Holding}
use Rattle.bg_rollout.specs.Gathering.{indices}
use Rattle.bg_rollout.specs.Routing.{Routing}
use Rattle.bg_book.specs.Runs.{EnterAt}
use Rattle.bg_book.proofs.Running.{same_order, holds_one, holds_none}
use Rattle.bg_book.proofs.SeatAlone.{entered_at}
use Rattle.bg_book.proofs.book.Book.enter_at.Goals as goal

at_seat : (b : Routing) (seats : List Holding) (place : ℕ) (d : Holding) (service : Service) (reply : Reply) (new : Routing) (new_seats : List Holding) → place < length seats
    → EnterAt b seats place (Some (get_or seats place d)) service reply new new_seats → EnterAt b seats place (slice_get seats place) service reply new new_seats
at_seat b seats place d service reply new new_seats h entered = subst (λ o. EnterAt b seats place o service reply new new_seats) (sym (slice_get-get_or seats place d h)) entered

pub returns-then-is_in-clause-reply : goal.returns-then-is_in-clause-reply
returns-then-is_in-clause-reply g c =
    at_seat _ _ c.args.place c.index-seats-place.result _ _ _ _ c.if-place-seats.false
    (inl (holds_one _ _ c.is_in.ensures c.if-is_in.true, (refl, (refl, set-get_or _ _ _))))

pub returns-in-Ok-clause-reply : goal.returns-in-Ok-clause-reply
returns-in-Ok-clause-reply g c =
    at_seat c.args.self.now c.args.seats.now c.args.place c.index-seats-place.result _ _ _ _ c.if-place-seats.false
    (inr (holds_none _ _ c.is_in.ensures c.if-is_in.false, entered_at c.args.self.now c.enter.new.self c.args.seats.now c.args.place c.index-seats-place.result c.enter.new.seat c.args.service (Entered c.in-Ok.ticket) c.in-Ok.ensures.told.step))

pub returns-in-Err-clause-reply : goal.returns-in-Err-clause-reply
returns-in-Err-clause-reply g c =
    at_seat c.args.self.now c.args.seats.now c.args.place c.index-seats-place.result _ _ _ _ c.if-place-seats.false
    (inr (holds_none _ _ c.is_in.ensures c.if-is_in.false, entered_at c.args.self.now c.enter.new.self c.args.seats.now c.args.place c.index-seats-place.result c.enter.new.seat c.args.service (EnterRefused c.in-Err.fault) c.in-Err.ensures.told.step))

pub returns-in-Ok-clause-order : goal.returns-in-Ok-clause-order
returns-in-Ok-clause-order g c =
    same_order c.args.seats.now c.args.place c.index-seats-place.result c.enter.new.seat c.if-place-seats.false
    (ap (λ (v : Holding). v.index) c.in-Ok.ensures.seat)

pub returns-in-Err-clause-order : goal.returns-in-Err-clause-order
returns-in-Err-clause-order g c =
    same_order c.args.seats.now c.args.place c.index-seats-place.result c.enter.new.seat c.if-place-seats.false
    (ap (λ (v : Holding). v.index) c.in-Err.ensures.seat_unchanged)

pub returns-then-is_in-clause-order : goal.returns-then-is_in-clause-order
returns-then-is_in-clause-order g c = ap indices (set-get_or c.args.seats.now c.args.place _)
