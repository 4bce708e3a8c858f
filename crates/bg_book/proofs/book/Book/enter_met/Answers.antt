use Rattle.std.proofs.Common.{◌≡◌, ◌≤◌, ◌+◌, ◌*◌, ◌∷◌, ℕ, true, List, [], length, slice_set, refl, sym, ap, ◌∙◌, subst, arith}
use Rattle.bg_strategy.specs.declared.strategy.Strategy.{Strategy}
use Rattle.bg_revisions.specs.declared.revision.Service.{Service}
use Rattle.bg_history.specs.declared.entry.Entry.{Entry}
use Rattle.bg_history.specs.declared.entry.Entry.TheVariants.{Enter}
use Rattle.bg_history.specs.Steps.{is_settled}
use Rattle.bg_rollout.specs.declared.ticket.Ticket.{Ticket}
use Rattle.bg_ledger.specs.declared.holding.Holding.{Holding}
use Rattle.bg_rollout.specs.Changes.{Stepped, enter_entry, seat_in, with_past}
use Rattle.bg_rollout.specs.Refusals.{all_open, IsTicket}
use Rattle.bg_rollout.specs.Routing.{Routing}
use Rattle.bg_rollout.specs.Invariant.{RolloutModel}
use Rattle.bg_book.specs.Invariant.{AtRest}
use Rattle.bg_book.proofs.book.Book.enter_met.Goals as goal

-- the invariant after a request that had room
at_rest : {n : ℕ} (rollout new : RolloutModel) (service : Service) (t : Ticket) (seat : Holding) → AtRest n rollout
    → length rollout.routing.past + 1 + 3 * (all_open rollout.routing.past + 1) ≤ rollout.routing.limits.entries → all_open new.routing.past ≡ all_open rollout.routing.past + 1
    → new.routing ≡ with_past rollout.routing (enter_entry seat.index service t ∷ rollout.routing.past) (slice_set rollout.routing.seats seat.index (seat_in seat t))
    → 3 * all_open rollout.routing.past + 3 ≤ new.spare
    → ((s : Strategy) (past : List Entry) (i : ℕ) (v : Service) (n r p : ℕ) → is_settled s past ≡ true → is_settled s (Enter i v n r p ∷ past) ≡ true) → AtRest n new
at_rest rollout new service t seat rest room one made places settles =
    let b = rollout.routing in
    let entries : length new.routing.past ≡ length (enter_entry seat.index service t ∷ b.past) = ap (λ (v : Routing). length v.past) made in
    let limit : new.routing.limits.entries ≡ b.limits.entries = ap (λ (v : Routing). v.limits.entries) made in
    record {
      all_seats = ap (λ (v : Routing). v.opening.seats) made ∙ rest.all_seats;
      settled = subst (λ (v : Routing). is_settled v.strategy v.past ≡ true) (sym made) (settles b.strategy b.past seat.index service t.number t.revision t.port rest.settled);
      spare = omega (arith, one, places);
      room = omega (arith, one, entries, limit, room);
    }

-- the routing after the request, from the routing before the reservation
entered_from : (rollout reserved new : RolloutModel) (service : Service) (t : Ticket) (seat : Holding) → reserved.routing ≡ rollout.routing
    → new.routing ≡ with_past reserved.routing (enter_entry seat.index service t ∷ reserved.routing.past) (slice_set reserved.routing.seats seat.index (seat_in seat t))
    → new.routing ≡ with_past rollout.routing (enter_entry seat.index service t ∷ rollout.routing.past) (slice_set rollout.routing.seats seat.index (seat_in seat t))
entered_from rollout reserved new service t seat same made =
    made ∙ ap (λ (v : Routing). with_past v (enter_entry seat.index service t ∷ v.past) (slice_set v.seats seat.index (seat_in seat t))) same

pub invariant_of-self : goal.invariant_of-self
invariant_of-self g c = subst (λ (m : RolloutModel). AtRest g.N.Names.seats m) (sym c.in_err-reserve.ensures.err) c.self.invariant

pub record_enter-requires-clause-ticket : goal.record_enter-requires-clause-ticket
record_enter-requires-clause-ticket g c = subst (λ (v : Routing). IsTicket v c.args.service c.in_ok-ticket.ticket) (sym c.reserve.ensures.routing) c.in_ok-ticket.ensures.judged.1

pub invariant_of-self-2 : goal.invariant_of-self-2
invariant_of-self-2 g c =
    at_rest c.self.inside.rollout c.record_enter.new.self c.args.service c.in_ok-ticket.ticket c.args.seat.now c.self.invariant c.in_ok-ticket.ensures.room
    (c.record_enter.ensures.one_more ∙ ap (λ (v : Routing). all_open v.past + 1) c.reserve.ensures.routing)
    (entered_from c.self.inside.rollout c.reserve.new.self c.record_enter.new.self c.args.service c.in_ok-ticket.ticket c.args.seat.now c.reserve.ensures.routing c.record_enter.ensures.routing)
    (omega (arith, c.in_ok-reserve.ensures.ok, c.record_enter.ensures.spare, c.places_kept.ensures)) c.entering_settles.ensures

-- the Enter, which allows no outcome
stepped : (b now new : Routing) (seat : Holding) (service : Service) (t : Ticket) → b ≡ now
    → new ≡ with_past b (enter_entry seat.index service t ∷ b.past) (slice_set b.seats seat.index (seat_in seat t)) → is_settled new.strategy new.past ≡ true
    → Stepped now.strategy (enter_entry seat.index service t) now.past new.past 0
stepped b now new seat service t is made settled =
    let past : new.past ≡ enter_entry seat.index service t ∷ b.past = ap (λ (v : Routing). v.past) made in
    subst (λ (v : Routing). Stepped v.strategy (enter_entry seat.index service t) v.past new.past 0) is (record {
      outcomes = [];
      step = record { new_is = past; follow = tt; settled = subst (λ (v : Routing). is_settled v.strategy new.past ≡ true) made settled };
      count_is = refl;
    })

pub returns-clause-step : goal.returns-clause-step
returns-clause-step g c =
    let rest = at_rest c.self.inside.rollout c.record_enter.new.self c.args.service c.in_ok-ticket.ticket c.args.seat.now c.self.invariant c.in_ok-ticket.ensures.room
    (c.record_enter.ensures.one_more ∙ ap (λ (v : Routing). all_open v.past + 1) c.reserve.ensures.routing)
    (entered_from c.self.inside.rollout c.reserve.new.self c.record_enter.new.self c.args.service c.in_ok-ticket.ticket c.args.seat.now c.reserve.ensures.routing c.record_enter.ensures.routing)
    (omega (arith, c.in_ok-reserve.ensures.ok, c.record_enter.ensures.spare, c.places_kept.ensures)) c.entering_settles.ensures in
    stepped _ _ _ c.args.seat.now c.args.service c.in_ok-ticket.ticket c.self.view_is
    (entered_from c.self.inside.rollout c.reserve.new.self c.record_enter.new.self c.args.service c.in_ok-ticket.ticket c.args.seat.now c.reserve.ensures.routing c.record_enter.ensures.routing) rest.settled

-- the book after the request, with the new seat
book_after : (b now new : Routing) (seat v : Holding) (service : Service) (t : Ticket) → b ≡ now
    → new ≡ with_past b (enter_entry seat.index service t ∷ b.past) (slice_set b.seats seat.index (seat_in seat t)) → v ≡ seat_in seat t
    → new ≡ with_past now new.past (slice_set now.seats seat.index v)
book_after b now new seat v service t is made seated =
    made
    ∙ ap (λ (p : List Entry). with_past b p (slice_set b.seats seat.index (seat_in seat t))) (sym (ap (λ (r : Routing). r.past) made))
    ∙ ap (λ (w : Holding). with_past b new.past (slice_set b.seats seat.index w)) (sym seated)
    ∙ ap (λ (r : Routing). with_past r new.past (slice_set r.seats seat.index v)) is

pub returns-clause-book : goal.returns-clause-book
returns-clause-book g c =
    book_after _ _ _ c.args.seat.now _ c.args.service c.in_ok-ticket.ticket c.self.view_is
    (entered_from c.self.inside.rollout c.reserve.new.self c.record_enter.new.self c.args.service c.in_ok-ticket.ticket c.args.seat.now c.reserve.ensures.routing c.record_enter.ensures.routing) c.record_enter.ensures.seat
