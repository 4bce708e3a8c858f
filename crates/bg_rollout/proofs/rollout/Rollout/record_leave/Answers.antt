use Rattle.std.proofs.Common.{◌≡◌, ◌-◌, ◌∷◌, ℕ, slice_set, refl, subst, sym, ap, ◌∙◌, arith}
use Rattle.bg_history.specs.declared.entry.Entry.{Entry}
use Rattle.bg_history.specs.declared.entry.Entry.TheVariants.{Leave}
use Rattle.bg_history_laws.specs.Reachable.{Reachable}
use Rattle.bg_ledger.specs.declared.holding.Holding.{Holding}
use Rattle.bg_ledger.specs.Holdings.{after_leave}
use Rattle.bg_rollout.specs.RequestLists.{has_request, without_seat}
use Rattle.bg_rollout.specs.Changes.{with_past}
use Rattle.bg_rollout.specs.Routing.{Routing}
use Rattle.bg_rollout.specs.Invariant.{RolloutModel, PartsRepresent, model_of, parts_of, state_shown}
use Rattle.bg_rollout.proofs.OpenRequests.Leaving.{is_held, has_held, one_open, lists_left, represents_left}
use Rattle.bg_rollout.proofs.SeatRecords.Seated.{known_inside, routing_seated}
use Rattle.bg_rollout.proofs.rollout.Rollout.record_leave.Given.{Over}
use Rattle.bg_rollout.proofs.rollout.Rollout.record_leave.Goals as goal
use Rattle.bg_rollout.proofs.rollout.Rollout.record_leave.Goals.{After-push_reserved}

pub remove-requires : goal.remove-requires
remove-requires g c =
    let b = (model_of c.self.inside).routing in
    let represents : PartsRepresent b (parts_of c.self.inside) = c.self.invariant in
    let reach : Reachable b.strategy b.opening b.past = c.reachable.ensures b.strategy b.opening b.past represents.routing.legal.allowed in
    ap (λ (n : ℕ). has_request n b.lists) c.index-index.ensures.index
    ∙ has_held b c.args.seat.now represents.routing reach.open_scaled (known_inside _ _ c.args.seat.now c.self.view_is c.requires.known) (is_held _ c.requires.within)

pub overflow_sub-self : goal.overflow_sub-self
overflow_sub-self g c =
    let b = (model_of c.self.inside).routing in
    let represents : PartsRepresent b (parts_of c.self.inside) = c.self.invariant in
    omega (arith, represents.open_is, one_open b c.args.seat.now represents.routing (known_inside _ _ c.args.seat.now c.self.view_is c.requires.known) (is_held _ c.requires.within))

-- the routing after the code
left : (g : Over) (c : After-push_reserved g) → record (model_of c.self.inside).routing {
  opening = c.push_reserved.new.self.opening;
  closed = c.push_reserved.new.self.closed;
  past = c.push_reserved.new.self.past;
  lists = c.remove.new.self;
  seats = slice_set c.self.inside.records.items c.index-index.result c.leave-number.new.self;
  running = state_shown (record (parts_of c.self.inside) { open_requests = (parts_of c.self.inside).open_requests - 1 }) c.remove.new.self
      (slice_set c.self.inside.records.items c.index-index.result c.leave-number.new.self);
}
    ≡ with_past (model_of c.self.inside).routing (Leave c.args.seat.now.index c.args.seat.now.number c.args.seat.now.revision ∷ c.self.inside.history.past)
    (slice_set c.self.inside.records.items c.args.seat.now.index (after_leave c.args.seat.now))
left g c =
    let b = (model_of c.self.inside).routing in
    let represents : PartsRepresent b (parts_of c.self.inside) = c.self.invariant in
    let seat = c.args.seat.now in
    let known = known_inside _ _ seat c.self.view_is c.requires.known in
    let at : c.index-index.result ≡ seat.index = c.index-index.ensures.index in
    let was : Leave c.index-index.result c.leave-number.result.0 c.leave-number.result.1 ≡ Leave seat.index seat.number seat.revision =
    ap (λ (n : ℕ). Leave n c.leave-number.result.0 c.leave-number.result.1) at ∙ ap (λ (p : ℕ × ℕ). Leave seat.index p.0 p.1) c.leave-number.ensures.answer in
    let pushed : c.push_reserved.new.self ≡ record c.self.inside.history { past = Leave seat.index seat.number seat.revision ∷ b.past; spare = c.push_reserved.new.self.spare } =
    subst (λ (e : Entry). c.push_reserved.new.self ≡ record c.self.inside.history { past = e ∷ b.past; spare = c.push_reserved.new.self.spare }) was c.push_reserved.ensures.entry in
    let held : c.leave-number.new.self ≡ after_leave seat = c.leave-number.ensures.own ∙ c.leave-number.ensures.seat in
    let taken : c.remove.new.self ≡ without_seat seat.index b.lists = c.remove.ensures ∙ ap (λ (n : ℕ). without_seat n b.lists) at in
    routing_seated b (Leave seat.index seat.number seat.revision) _ _ _ _ c.push_reserved.new.self c.self.inside.history refl pushed
    (lists_left b seat _ represents.routing known (is_held _ c.requires.within) taken)
    (ap (λ (n : ℕ). slice_set b.seats n c.leave-number.new.self) at ∙ ap (λ (v : Holding). slice_set b.seats seat.index v) held)
    (represents_left b (parts_of c.self.inside) seat represents (c.neutral.ensures _ _ _ refl represents.core) known (is_held _ c.requires.within))

pub invariant_of-self : goal.invariant_of-self
invariant_of-self g c =
    let b = (model_of c.self.inside).routing in
    let k = parts_of c.self.inside in
    let represents : PartsRepresent b k = c.self.invariant in
    let seat = c.args.seat.now in
    subst (λ (v : Routing). PartsRepresent v (record k { open_requests = k.open_requests - 1 })) (sym (left g c))
    (represents_left b k seat represents (c.neutral.ensures _ _ _ refl represents.core) (known_inside _ _ seat c.self.view_is c.requires.known) (is_held _ c.requires.within))

-- the same in terms of the rollout before the call
left_now : (inside now : RolloutModel) (new : Routing) (seat : Holding) → inside ≡ now
    → new ≡ with_past inside.routing (Leave seat.index seat.number seat.revision ∷ inside.routing.past) (slice_set inside.routing.seats seat.index (after_leave seat))
    → new ≡ with_past now.routing (Leave seat.index seat.number seat.revision ∷ now.routing.past) (slice_set now.routing.seats seat.index (after_leave seat))
left_now inside now new seat is made =
    subst (λ (m : RolloutModel). new ≡ with_past m.routing (Leave seat.index seat.number seat.revision ∷ m.routing.past) (slice_set m.routing.seats seat.index (after_leave seat))) is made

pub returns-clause-routing : goal.returns-clause-routing
returns-clause-routing g c = left_now _ _ _ c.args.seat.now c.self.view_is (left g c)
