-- The invariant after a request left.
use Rattle.std.proofs.Common.{◌≡◌, ◌≢◌, ℕ, ◌+◌, ◌-◌, ◌<◌, ◌≤◌, Bool, true, false, cond, not, ◌==◌, ◌&&◌, ◌||◌, nat_le, List, [], ◌∷◌, length, filter, find, slice_get, slice_set, Option, Some, None, refl, sym, ap, ◌∙◌, arith}
use Rattle.std.specs.List.{list_all}
use Rattle.std.proofs.lemmas.Option.{same_Some}
use Rattle.bg_history.specs.declared.entry.Entry.TheVariants.{Leave}
use Rattle.bg_history.specs.Deadlines.{exists_in}
use Rattle.bg_history.specs.Requests.{Request, open_requests, held_by, calls_of, given}
use Rattle.bg_promotion.specs.Represents.{CoreRepresents}
use Rattle.bg_history_laws.specs.Reachable.{exists_scaled}
use Rattle.bg_ledger.specs.declared.holding.Holding.{Holding}
use Rattle.bg_ledger.specs.Holdings.{after_leave}
use Rattle.bg_rollout.specs.RequestLists.{OpenAt, has_request, without_seat}
use Rattle.bg_rollout.specs.PastState.{lists_of, seated, seat_of}
use Rattle.bg_rollout.specs.Changes.{with_past}
use Rattle.bg_rollout.specs.Refusals.{all_open}
use Rattle.bg_rollout.specs.Routing.{Routing}
use Rattle.bg_rollout.specs.Invariant.{are_apart, Differ, RoutingInvariant, RunningParts, PartsRepresent}
use Rattle.bg_rollout.proofs.ControlEvents.Legal.{legal-Leave, requests-Leave}
use Rattle.bg_rollout.proofs.OpenRequests.Lists.{has_its_request, lists-Leave}
use Rattle.bg_rollout.proofs.OpenRequests.Requests.{and_parts, and_both, all_weaker, found_passes, eq_refl, eq_sym, by_seat, one_less}
use Rattle.bg_rollout.proofs.SeatRecords.Seating.{in_holds, seated_of}
use Rattle.bg_rollout.proofs.SeatRecords.Seats.{seats_one_changed, seat-Leave_same, seat-Leave_other}

pub is_held : (n : ℕ) → 0 < n → n ≢ 0
is_held n h e = absurd (omega (arith, h, e))

-- a seat with a request holds an open request, at a revision that exists
pub one_open : (b : Routing) (seat : Holding) → RoutingInvariant b → slice_get b.seats seat.index ≡ Some seat → seat.number ≢ 0 → 1 ≤ all_open b.past
one_open b seat represents known some =
    let holds = in_holds b seat represents known some in
    let less = one_less seat.index (open_requests b.past) holds.0 represents.requests.differ holds.1.held in
    omega (arith, less)

held_exists : (b : Routing) (seat : Holding) → RoutingInvariant b → list_all (λ q. exists_scaled b.strategy q.revision b.past) (open_requests b.past) ≡ true
    → slice_get b.seats seat.index ≡ Some seat → seat.number ≢ 0 → exists_in seat.revision b.past ≡ true
held_exists b seat represents scaled known some =
    let holds = in_holds b seat represents known some in
    let here : exists_scaled b.strategy holds.0.revision b.past ≡ true =
    found_passes (λ q. q.seat == seat.index) (λ q. exists_scaled b.strategy q.revision b.past) (open_requests b.past) holds.0 holds.1.held scaled in
    (and_parts (exists_in seat.revision b.past) _ (ap (λ (r : ℕ). exists_scaled b.strategy r b.past) (sym holds.1.revision) ∙ here)).0

-- the request of the seat is in a list
pub has_held : (b : Routing) (seat : Holding) → RoutingInvariant b → list_all (λ q. exists_scaled b.strategy q.revision b.past) (open_requests b.past) ≡ true
    → slice_get b.seats seat.index ≡ Some seat → seat.number ≢ 0 → has_request seat.index b.lists ≡ true
has_held b seat represents scaled known some =
    let holds = in_holds b seat represents known some in
    let there : exists_in holds.0.revision b.past ≡ true = ap (λ (r : ℕ). exists_in r b.past) holds.1.revision ∙ held_exists b seat represents scaled known some in
    ap (has_request seat.index) represents.lists ∙ has_its_request b.past seat.index holds.0 holds.1.held there

-- the lists after the request left
pub lists_left : (b : Routing) (seat : Holding) (new : List OpenAt) → RoutingInvariant b → slice_get b.seats seat.index ≡ Some seat → seat.number ≢ 0
    → new ≡ without_seat seat.index b.lists → new ≡ lists_of (Leave seat.index seat.number seat.revision ∷ b.past)
lists_left b seat new represents known some made =
    let holds = in_holds b seat represents known some in
    made ∙ ap (without_seat seat.index) represents.lists
    ∙ sym (lists-Leave b.past seat.index seat.number seat.revision holds.0 represents.requests.differ holds.1.held holds.1.number)

or_left : (a b : Bool) → a ≡ true → (a || b) ≡ true
or_left a b h = rw h refl

or_right : (a b : Bool) → b ≡ true → (a || b) ≡ true
or_right true b h = refl
or_right false b h = h

-- a request other than the one of that number has another number
other_number : (q p : Request) (number : ℕ) → q.number ≡ number → are_apart q p ≡ true → not (p.number == number) ≡ true
other_number q p number same apart =
    ap not (eq_sym p.number number) ∙ ap (λ (n : ℕ). not (n == p.number)) (sym same) ∙ (and_parts (not (q.seat == p.seat)) (not (q.number == p.number)) apart).1

not_number : (q x : Request) (number : ℕ) → x.number ≡ number → are_apart q x ≡ true → not (q.number == number) ≡ true
not_number q x number same apart =
    ap (λ (n : ℕ). not (q.number == n)) (sym same) ∙ (and_parts (not (q.seat == x.seat)) (not (q.number == x.number)) apart).1

-- each open request of its number is at its revision
only_there : (number r : ℕ) (qs : List Request) (x : Request) (seat : ℕ) → Differ qs → find (λ q. q.seat == seat) qs ≡ Some x → x.number ≡ number → x.revision ≡ r
    → list_all (λ q. not (q.number == number) || (q.revision == r)) qs ≡ true
only_there number r [] x seat differ held is_number is_revision = refl
only_there number r (q ∷ qs) x seat differ held is_number is_revision = go (q.seat == seat) refl held (λ h. only_there number r qs x seat differ.1 h is_number is_revision) where
  go : (b : Bool) → (q.seat == seat) ≡ b → cond b (Some q) (find (λ p. p.seat == seat) qs) ≡ Some x
      → (find (λ p. p.seat == seat) qs ≡ Some x → list_all (λ p. not (p.number == number) || (p.revision == r)) qs ≡ true)
      → ((not (q.number == number) || (q.revision == r)) && list_all (λ p. not (p.number == number) || (p.revision == r)) qs) ≡ true
  go true e h rest =
      let is : q ≡ x = same_Some q x h in
      let here : (q.revision == r) ≡ true = rw (is, is_revision) (eq_refl r) in
      and_both _ _ (or_right (not (q.number == number)) (q.revision == r) here)
      (all_weaker (are_apart q) (λ p. not (p.number == number) || (p.revision == r)) (λ p apart. or_left _ (p.revision == r) (other_number q p number (ap (λ (y : Request). y.number) is ∙ is_number) apart)) qs differ.0)
  go false e h rest =
      let far_off : are_apart q x ≡ true = found_passes (λ p. p.seat == seat) (are_apart q) qs x h differ.0 in
      and_both _ _ (or_left _ (q.revision == r) (not_number q x number is_number far_off)) (rest h)

pub alone : (b : Routing) (seat : Holding) → RoutingInvariant b → slice_get b.seats seat.index ≡ Some seat → seat.number ≢ 0
    → list_all (λ q. not (q.number == seat.number) || (q.revision == seat.revision)) (open_requests b.past) ≡ true
alone b seat represents known some =
    let holds = in_holds b seat represents known some in
    only_there seat.number seat.revision (open_requests b.past) holds.0 seat.index represents.requests.differ holds.1.held holds.1.number holds.1.revision

-- one request fewer is open
pub one_left : (b : Routing) (seat : Holding) → RoutingInvariant b → slice_get b.seats seat.index ≡ Some seat → seat.number ≢ 0
    → all_open (Leave seat.index seat.number seat.revision ∷ b.past) + 1 ≡ all_open b.past
one_left b seat represents known some =
    let holds = in_holds b seat represents known some in
    ap (λ (n : ℕ). length (filter (λ q. not (q.number == n)) (open_requests b.past)) + 1) (sym holds.1.number)
    ∙ ap (λ (qs : List Request). length qs + 1) (by_seat seat.index (open_requests b.past) holds.0 represents.requests.differ holds.1.held)
    ∙ one_less seat.index (open_requests b.past) holds.0 represents.requests.differ holds.1.held

-- the routing after a request left
routing_left : (b : Routing) (seat : Holding) → RoutingInvariant b → slice_get b.seats seat.index ≡ Some seat → seat.number ≢ 0
    → RoutingInvariant (with_past b (Leave seat.index seat.number seat.revision ∷ b.past) (slice_set b.seats seat.index (after_leave seat)))
routing_left b seat represents known some =
    let past = b.past in
    let mine = seated_of b seat represents known in
    let holds = in_holds b seat represents known some in
    let x = holds.0 in
    let held = holds.1.held in
    let i = seat.index in
    record {
      legal = legal-Leave _ _ _ past i seat.number seat.revision x represents.legal held holds.1.number holds.1.revision
          (ap (λ (n : ℕ). nat_le 1 n && nat_le n (given b.closed past)) (sym holds.1.number) ∙ holds.1.is_given);
      running = refl;
      lists = refl;
      seats = seats_one_changed b.opening b.closed past _ b.seats i _ represents.seats mine.within
          (ap (λ (v : Holding). record { index = i; calls = v.calls + 1; number = 0; revision = 0; port = 0 }) (sym mine.is)
          ∙ ap (λ (n : ℕ). record { index = i; calls = n + 1; number = 0; revision = 0; port = 0 }) (seated_calls (held_by i past))
          ∙ sym (seat-Leave_same b.closed past i seat.revision x represents.requests.differ held)
          ∙ ap (λ (n : ℕ). seat_of b.closed i (Leave i n seat.revision ∷ past)) holds.1.number)
          (λ j other. ap (λ (n : ℕ). seat_of b.closed j (Leave i n seat.revision ∷ past)) (sym holds.1.number) ∙ seat-Leave_other b.closed past i j seat.revision x represents.requests.differ held other);
      requests = requests-Leave b.closed past i seat.number seat.revision represents.requests;
      entries = represents.entries;
      numbers = represents.numbers;
      spent = represents.spent;
    } where
      seated_calls : (h : Option Request) → (seated seat.index (calls_of b.closed seat.index b.past) h).calls ≡ calls_of b.closed seat.index b.past
      seated_calls None = refl
      seated_calls (Some q) = refl

-- the running state after the request left
pub represents_left : (b : Routing) (k : RunningParts) (seat : Holding) → PartsRepresent b k → CoreRepresents b.strategy k.core (Leave seat.index seat.number seat.revision ∷ b.past)
    → slice_get b.seats seat.index ≡ Some seat → seat.number ≢ 0
    → PartsRepresent (with_past b (Leave seat.index seat.number seat.revision ∷ b.past) (slice_set b.seats seat.index (after_leave seat))) (record k { open_requests = k.open_requests - 1 })
represents_left b k seat represents core known some = record {
  routing = routing_left b seat represents.routing known some;
  core = core;
  revisions = represents.revisions;
  replicas = represents.replicas;
  last = represents.last;
  deadlines = represents.deadlines;
  moment = represents.moment;
  given = represents.given;
  open_is = omega (arith, represents.open_is, one_left b seat represents.routing known some);
}
