use Rattle.std.proofs.Common.{◌≡◌, ◌≢◌, ◌<◌, ◌≤◌, ◌+◌, ◌∷◌, ◌==◌, ◌||◌, not, ℕ, false, true, List, length, Some, slice_get, slice_set, sym, ap, ◌∙◌, subst, arith}
use Rattle.std.specs.List.{list_all}
use Rattle.bg_strategy.specs.declared.strategy.Strategy.{Strategy}
use Rattle.bg_history.specs.Requests.{open_requests}
use Rattle.bg_history.specs.declared.entry.Entry.{Entry}
use Rattle.bg_history.specs.declared.entry.Outcome.{Outcome}
use Rattle.bg_history.specs.declared.entry.Entry.TheVariants.{Leave}
use Rattle.bg_history.specs.Steps.{Follows, is_settled}
use Rattle.bg_history.specs.Deadlines.{may_scale_down}
use Rattle.bg_rollout.specs.declared.ticket.Left.{Left}
use Rattle.bg_ledger.specs.declared.holding.Holding.{Holding}
use Rattle.bg_ledger.specs.Holdings.{after_leave}
use Rattle.bg_rollout.specs.declared.limits.Limits.{Limits}
use Rattle.bg_rollout.specs.Changes.{Stepped, with_past}
use Rattle.bg_rollout.specs.Refusals.{all_open}
use Rattle.bg_rollout.specs.Routing.{Routing}
use Rattle.bg_rollout.specs.Settling.{Reached}
use Rattle.bg_rollout.specs.Invariant.{RolloutModel}
use Rattle.bg_book.specs.Invariant.{AtRest}
use Rattle.bg_book.proofs.Stepping.{stepped_by, open_after, length_after, limits_after}
use Rattle.bg_book.proofs.book.Book.leave_met.Given.{Over}
use Rattle.bg_book.proofs.book.Book.leave_met.Goals as goal
use Rattle.bg_book.proofs.book.Book.leave_met.Goals.{After-settle_at}

is_held : (n : ℕ) → 0 < n → n ≢ 0
is_held n h e = absurd (omega (arith, h, e))

known_inside : (b now : Routing) (seat : Holding) → b ≡ now → slice_get now.seats seat.index ≡ Some seat → slice_get b.seats seat.index ≡ Some seat
known_inside b now seat is known = subst (λ (v : Routing). slice_get v.seats seat.index ≡ Some seat) (sym is) known

pub record_leave-left-requires-clause-spare : goal.record_leave-left-requires-clause-spare
record_leave-left-requires-clause-spare g c =
    let known = known_inside _ _ c.args.seat.now c.self.view_is c.requires.known in
    omega (arith, c.self.invariant.spare, c.has_request.ensures.one_less c.self.inside.rollout.routing c.args.seat.now c.holds_invariant.ensures known (is_held _ c.requires.within))

-- at most two outcomes follow
two_follow : (b left : Routing) (seat : Holding) (outcomes : List Outcome)
    → ((s : Strategy) (past : List Entry) (i number r : ℕ) (xs : List Outcome) → is_settled s past ≡ true
    → list_all (λ q. not (q.number == number) || (q.revision == r)) (open_requests past) ≡ true → Follows s xs (Leave i number r ∷ past) → length xs ≤ 2)
    → is_settled b.strategy b.past ≡ true → list_all (λ q. not (q.number == seat.number) || (q.revision == seat.revision)) (open_requests b.past) ≡ true
    → left ≡ with_past b (Leave seat.index seat.number seat.revision ∷ b.past) (slice_set b.seats seat.index (after_leave seat))
    → Follows left.strategy outcomes left.past → length outcomes ≤ 2
two_follow b left seat outcomes two settled alone made follow =
    two b.strategy b.past seat.index seat.number seat.revision outcomes settled alone (subst (λ (v : Routing). Follows v.strategy outcomes v.past) made follow)

pub settle_at-requires-clause-room : goal.settle_at-requires-clause-room
settle_at-requires-clause-room g c = λ outcomes follow.
    let b = c.self.inside.rollout.routing in
    let seat = c.args.seat.now in
    let known = known_inside _ _ seat c.self.view_is c.requires.known in
    let few = two_follow b _ seat outcomes c.leaving_allows_two.ensures c.self.invariant.settled (c.has_request.ensures.alone b seat c.holds_invariant.ensures known (is_held _ c.requires.within)) c.record_leave-left.ensures.routing follow in
    omega (arith, few, c.record_leave-left.ensures.spare, c.self.invariant.spare, c.has_request.ensures.one_less b seat c.holds_invariant.ensures known (is_held _ c.requires.within))

-- if the revision may not be scaled down, no outcome is allowed
none_follows : (b left : Routing) (seat : Holding) (r : ℕ)
    → ((s : Strategy) (past : List Entry) (i number q : ℕ) → is_settled s past ≡ true
    → list_all (λ o. not (o.number == number) || (o.revision == q)) (open_requests past) ≡ true
    → may_scale_down s q (Leave i number q ∷ past) ≡ false → is_settled s (Leave i number q ∷ past) ≡ true)
    → is_settled b.strategy b.past ≡ true → list_all (λ o. not (o.number == seat.number) || (o.revision == seat.revision)) (open_requests b.past) ≡ true
    → left ≡ with_past b (Leave seat.index seat.number seat.revision ∷ b.past) (slice_set b.seats seat.index (after_leave seat)) → r ≡ seat.revision
    → may_scale_down left.strategy r left.past ≡ false → is_settled left.strategy left.past ≡ true
none_follows b left seat r settles settled alone made at stays =
    subst (λ (v : Routing). is_settled v.strategy v.past ≡ true) (sym made)
    (settles b.strategy b.past seat.index seat.number seat.revision settled alone
    (subst (λ (v : Routing). may_scale_down v.strategy seat.revision v.past ≡ false) made
    (subst (λ (n : ℕ). may_scale_down left.strategy n left.past ≡ false) at stays)))

pub settle_at-requires-clause-alone : goal.settle_at-requires-clause-alone
settle_at-requires-clause-alone g c = λ stays.
    let b = c.self.inside.rollout.routing in
    let seat = c.args.seat.now in
    let known = known_inside _ _ seat c.self.view_is c.requires.known in
    none_follows b _ seat _ c.leaving_settles.ensures c.self.invariant.settled (c.has_request.ensures.alone b seat c.holds_invariant.ensures known (is_held _ c.requires.within)) c.record_leave-left.ensures.routing
    (ap (λ (l : Left). l.revision) c.record_leave-left.ensures.left) stays

-- at most two outcomes followed
few : (g : Over) (c : After-settle_at g) → c.settle_at.result ≤ 2
few g c =
    let b = c.self.inside.rollout.routing in
    let seat = c.args.seat.now in
    let known = known_inside _ _ seat c.self.view_is c.requires.known in
    let most = two_follow b _ seat c.settle_at.ensures.reached.outcomes c.leaving_allows_two.ensures c.self.invariant.settled (c.has_request.ensures.alone b seat c.holds_invariant.ensures known (is_held _ c.requires.within)) c.record_leave-left.ensures.routing
    c.settle_at.ensures.reached.follow in
    omega (arith, most, c.settle_at.ensures.reached.count_is)

-- the invariant after these outcomes
at_rest : {count : ℕ} (rollout left settled : RolloutModel) (seat : Holding) (n : ℕ) → AtRest count rollout → all_open (Leave seat.index seat.number seat.revision ∷ rollout.routing.past) + 1 ≡ all_open rollout.routing.past
    → left.routing ≡ with_past rollout.routing (Leave seat.index seat.number seat.revision ∷ rollout.routing.past) (slice_set rollout.routing.seats seat.index (after_leave seat))
    → left.spare + 1 ≡ rollout.spare → Reached left.routing settled.routing n → n ≤ 2 → settled.spare + n ≡ left.spare → is_settled settled.routing.strategy settled.routing.past ≡ true → AtRest count settled
at_rest rollout left settled seat n rest one made taken reached two spare quiet =
    let b = rollout.routing in
    let kept : all_open settled.routing.past ≡ all_open left.routing.past = open_after left.routing settled.routing n reached in
    let now : all_open left.routing.past ≡ all_open (Leave seat.index seat.number seat.revision ∷ b.past) = ap (λ (v : Routing). all_open v.past) made in
    let entries : length settled.routing.past ≡ n + length left.routing.past = length_after left.routing settled.routing n reached in
    let more : length left.routing.past ≡ length (Leave seat.index seat.number seat.revision ∷ b.past) = ap (λ (v : Routing). length v.past) made in
    let limits : settled.routing.limits ≡ b.limits = limits_after left.routing settled.routing n reached ∙ ap (λ (v : Routing). v.limits) made in
    let limit : settled.routing.limits.entries ≡ b.limits.entries = ap (λ (l : Limits). l.entries) limits in
    record {
      all_seats = ap (λ (v : Routing). v.opening.seats) reached.now_is ∙ ap (λ (v : Routing). v.opening.seats) made ∙ rest.all_seats;
      settled = quiet;
      spare = omega (arith, kept, now, one, spare, taken, rest.spare, two);
      room = omega (arith, kept, now, one, entries, more, limit, rest.room, two);
    }

pub invariant_of-self : goal.invariant_of-self
invariant_of-self g c =
    at_rest c.self.inside.rollout c.record_leave-left.new.self c.settle_at.new.self c.args.seat.now c.settle_at.result c.self.invariant
    (c.has_request.ensures.one_less c.self.inside.rollout.routing c.args.seat.now c.holds_invariant.ensures (known_inside _ _ c.args.seat.now c.self.view_is c.requires.known) (is_held _ c.requires.within)) c.record_leave-left.ensures.routing c.record_leave-left.ensures.spare c.settle_at.ensures.reached (few g c) c.settle_at.ensures.spare c.settle_at.ensures.settled

-- the Leave, and the outcomes after it
stepped : (b now left new : Routing) (seat : Holding) (n : ℕ) → b ≡ now
    → left ≡ with_past b (Leave seat.index seat.number seat.revision ∷ b.past) (slice_set b.seats seat.index (after_leave seat)) → Reached left new n → is_settled new.strategy new.past ≡ true
    → Stepped now.strategy (Leave seat.index seat.number seat.revision) now.past new.past n
stepped b now left new seat n is made reached settled =
    subst (λ (v : Routing). Stepped v.strategy (Leave seat.index seat.number seat.revision) v.past new.past n) is
    (stepped_by b left new (Leave seat.index seat.number seat.revision) _ n made reached settled)

pub returns-clause-step : goal.returns-clause-step
returns-clause-step g c =
    (c.settle_at.result, stepped _ _ _ _ c.args.seat.now c.settle_at.result c.self.view_is c.record_leave-left.ensures.routing c.settle_at.ensures.reached c.settle_at.ensures.settled, few g c)
