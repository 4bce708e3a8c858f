use Rattle.std.proofs.Common.{◌≡◌, ◌≤◌, ◌+◌, ◌∷◌, ◌++◌, [], ℕ, None, length, slice_set, refl, subst, sym, ap, ◌∙◌, arith}
use Rattle.bg_revisions.specs.declared.revision.Service.{Service}
use Rattle.bg_history_laws.specs.Reachable.{Reachable}
use Rattle.bg_rollout.specs.declared.ticket.Ticket.{Ticket}
use Rattle.bg_ledger.specs.declared.holding.Holding.{Holding}
use Rattle.bg_rollout.specs.RequestLists.{changed, has_request}
use Rattle.bg_rollout.specs.Changes.{enter_entry, seat_in, with_past}
use Rattle.bg_rollout.specs.Refusals.{enter_refusal, IsTicket}
use Rattle.bg_rollout.specs.Routing.{Routing}
use Rattle.bg_rollout.specs.Invariant.{RolloutModel, PartsRepresent, model_of, parts_of, state_shown}
use Rattle.bg_rollout.proofs.OpenRequests.Lists.{has_list, no_request}
use Rattle.bg_rollout.proofs.OpenRequests.Entering.{lists_entered, represents_entered}
use Rattle.bg_rollout.proofs.OpenRequests.JudgedEnters.{selected_exists}
use Rattle.bg_rollout.proofs.SeatRecords.Seated.{known_inside, routing_seated}
use Rattle.bg_rollout.proofs.SeatRecords.Seating.{few_calls, few_seats, out_holds_none, seated_of}
use Rattle.bg_rollout.proofs.rollout.Rollout.record_enter.Given.{Over}
use Rattle.bg_rollout.proofs.rollout.Rollout.record_enter.Goals as goal
use Rattle.bg_rollout.proofs.rollout.Rollout.record_enter.Goals.{After-push_reserved}

short_inside : (inside now : RolloutModel) → inside ≡ now → length now.routing.past ≤ 1000000 → length inside.routing.past ≤ 1000000
short_inside inside now is short = subst (λ (m : RolloutModel). length m.routing.past ≤ 1000000) (sym is) short

-- the request is accepted, in the fields of the rollout
accepted_inside : (inside now : RolloutModel) (service : Service) (t : Ticket) → inside ≡ now → enter_refusal now.routing service ≡ None → IsTicket now.routing service t
    → (enter_refusal inside.routing service ≡ None) × IsTicket inside.routing service t
accepted_inside inside now service t is none ticket = subst (λ (m : RolloutModel). (enter_refusal m.routing service ≡ None) × IsTicket m.routing service t) (sym is) (none, ticket)

pub append-requires-clause-revision : goal.append-requires-clause-revision
append-requires-clause-revision g c =
    let b = (model_of c.self.inside).routing in
    let represents : PartsRepresent b (parts_of c.self.inside) = c.self.invariant in
    let reach : Reachable b.strategy b.opening b.past = c.reachable.ensures b.strategy b.opening b.past represents.routing.legal.allowed in
    let ok = accepted_inside _ _ c.args.service c.args.ticket c.self.view_is c.requires.accepted c.requires.ticket in
    has_list b.past c.self.inside.lists _ represents.routing.lists (selected_exists b.strategy b.opening b.past c.args.service c.args.ticket.revision reach ok.1.revision_is)

pub append-requires-clause-seat : goal.append-requires-clause-seat
append-requires-clause-seat g c =
    let b = (model_of c.self.inside).routing in
    let represents : PartsRepresent b (parts_of c.self.inside) = c.self.invariant in
    let mine = seated_of b c.args.seat.now represents.routing (known_inside _ _ c.args.seat.now c.self.view_is c.requires.known) in
    omega (arith, c.index-index.ensures.index, mine.within, few_seats b represents.routing)

pub append-requires-clause-free : goal.append-requires-clause-free
append-requires-clause-free g c =
    let b = (model_of c.self.inside).routing in
    let represents : PartsRepresent b (parts_of c.self.inside) = c.self.invariant in
    let none = out_holds_none b c.args.seat.now represents.routing (known_inside _ _ c.args.seat.now c.self.view_is c.requires.known) c.requires.out in
    ap (λ (n : ℕ). has_request n b.lists) c.index-index.ensures.index ∙ ap (has_request c.args.seat.now.index) represents.routing.lists ∙ no_request b.past c.args.seat.now.index none

pub enter-requires-clause-calls : goal.enter-requires-clause-calls
enter-requires-clause-calls g c =
    let b = (model_of c.self.inside).routing in
    let represents : PartsRepresent b (parts_of c.self.inside) = c.self.invariant in
    few_calls b c.args.seat.now represents.routing (short_inside _ _ c.self.view_is c.requires.short) (known_inside _ _ c.args.seat.now c.self.view_is c.requires.known)

-- the routing after the code
entered : (g : Over) (c : After-push_reserved g) → record (model_of c.self.inside).routing {
  opening = c.push_reserved.new.self.opening;
  closed = c.push_reserved.new.self.closed;
  past = c.push_reserved.new.self.past;
  lists = c.append.new.self;
  seats = slice_set c.self.inside.records.items c.index-index.result c.enter.new.self;
  running = state_shown (record (parts_of c.self.inside) { given = c.args.ticket.number; open_requests = (parts_of c.self.inside).open_requests + 1 }) c.append.new.self
      (slice_set c.self.inside.records.items c.index-index.result c.enter.new.self);
}
    ≡ with_past (model_of c.self.inside).routing (enter_entry c.args.seat.now.index c.args.service c.args.ticket ∷ c.self.inside.history.past)
    (slice_set c.self.inside.records.items c.args.seat.now.index (seat_in c.args.seat.now c.args.ticket))
entered g c =
    let b = (model_of c.self.inside).routing in
    let represents : PartsRepresent b (parts_of c.self.inside) = c.self.invariant in
    let seat = c.args.seat.now in
    let t = c.args.ticket in
    let known = known_inside _ _ seat c.self.view_is c.requires.known in
    let ok = accepted_inside _ _ c.args.service t c.self.view_is c.requires.accepted c.requires.ticket in
    let at : c.index-index.result ≡ seat.index = c.index-index.ensures.index in
    let pushed : c.push_reserved.new.self ≡ record c.self.inside.history { past = enter_entry seat.index c.args.service t ∷ b.past; spare = c.push_reserved.new.self.spare } =
    subst (λ (n : ℕ). c.push_reserved.new.self ≡ record c.self.inside.history { past = enter_entry n c.args.service t ∷ b.past; spare = c.push_reserved.new.self.spare }) at c.push_reserved.ensures.entry in
    let held : c.enter.new.self ≡ seat_in seat t = c.enter.ensures.own ∙ c.enter.ensures.seat in
    let appended : c.append.new.self ≡ changed t.revision (λ requests. requests ++ record { seat = c.index-index.result; number = t.number } ∷ []) b.lists = c.append.ensures in
    routing_seated b (enter_entry seat.index c.args.service t) _ _ _ _ c.push_reserved.new.self c.self.inside.history refl pushed
    (lists_entered b seat c.args.service t _ represents.routing (c.existing_ascends.ensures b.past)
    (appended ∙ ap (λ (n : ℕ). changed t.revision (λ requests. requests ++ record { seat = n; number = t.number } ∷ []) b.lists) at))
    (ap (λ (n : ℕ). slice_set b.seats n c.enter.new.self) at ∙ ap (λ (v : Holding). slice_set b.seats seat.index v) held)
    (represents_entered b (parts_of c.self.inside) c.args.service t seat represents (c.neutral.ensures _ _ _ refl represents.core) ok.0 ok.1 known c.requires.out)

pub invariant_of-self : goal.invariant_of-self
invariant_of-self g c =
    let b = (model_of c.self.inside).routing in
    let k = parts_of c.self.inside in
    let represents : PartsRepresent b k = c.self.invariant in
    let seat = c.args.seat.now in
    let t = c.args.ticket in
    let ok = accepted_inside _ _ c.args.service t c.self.view_is c.requires.accepted c.requires.ticket in
    subst (λ (v : Routing). PartsRepresent v (record k { given = t.number; open_requests = k.open_requests + 1 })) (sym (entered g c))
    (represents_entered b k c.args.service t seat represents (c.neutral.ensures _ _ _ refl represents.core) ok.0 ok.1 (known_inside _ _ seat c.self.view_is c.requires.known) c.requires.out)

-- the same in terms of the rollout before the call
entered_now : (inside now : RolloutModel) (new : Routing) (seat : Holding) (service : Service) (t : Ticket) → inside ≡ now
    → new ≡ with_past inside.routing (enter_entry seat.index service t ∷ inside.routing.past) (slice_set inside.routing.seats seat.index (seat_in seat t))
    → new ≡ with_past now.routing (enter_entry seat.index service t ∷ now.routing.past) (slice_set now.routing.seats seat.index (seat_in seat t))
entered_now inside now new seat service t is made =
    subst (λ (m : RolloutModel). new ≡ with_past m.routing (enter_entry seat.index service t ∷ m.routing.past) (slice_set m.routing.seats seat.index (seat_in seat t))) is made

pub returns-clause-routing : goal.returns-clause-routing
returns-clause-routing g c = entered_now _ _ _ c.args.seat.now c.args.service c.args.ticket c.self.view_is (entered g c)
