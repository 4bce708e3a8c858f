-- What a past says of seats that can be gathered.
use Rattle.std.proofs.Common.{◌≡◌, ◌<◌, ◌==◌, ℕ, true, cond, nat_lt, List, [], ◌∷◌, find, slice_get, Option, Some, None, refl, sym, ap, ◌∙◌, arith}
use Rattle.std.specs.List.{list_all}
use Rattle.std.proofs.lemmas.Bool.Decides.{nat_tests}
use Rattle.std.proofs.lemmas.Option.{slice_get_within, same_Some}
use Rattle.bg_history.specs.Requests.{Request, open_requests, given, held_by, calls_of}
use Rattle.bg_ledger.specs.declared.holding.Holding.{Holding}
use Rattle.bg_rollout.specs.Invariant.{RoutingInvariant, has_number}
use Rattle.bg_rollout.specs.PastState.{seated, seat_of}
use Rattle.bg_rollout.specs.Routing.{Routing}
use Rattle.bg_rollout.proofs.OpenRequests.Placed.{placed}
use Rattle.bg_rollout.proofs.OpenRequests.Requests.{and_parts, eq_refl}

-- the record of an index is what the past says
pub record_is : (b : Routing) (i : ℕ) (r : Holding) → RoutingInvariant b → slice_get b.seats i ≡ Some r → r ≡ seat_of b.closed i b.past
record_is b i r represents get =
    same_Some r _ (sym get ∙ represents.seats.each i (omega (arith, slice_get_within b.seats i r get, represents.seats.count)))

-- if no seat holds a request, none is open
pub none_open : (b : Routing) → RoutingInvariant b → ((i : ℕ) → i < b.opening.seats → (seat_of b.closed i b.past).number ≡ 0) → open_requests b.past ≡ []
none_open b represents out = go (open_requests b.past) refl where
  go : (qs : List Request) → open_requests b.past ≡ qs → open_requests b.past ≡ []
  go [] e = e
  go (q ∷ rest) e =
      let held : held_by q.seat b.past ≡ Some q =
      ap (λ (qs : List Request). find (λ p. p.seat == q.seat) qs) e ∙ ap (λ t. cond t (Some q) (find (λ p. p.seat == q.seat) rest)) (eq_refl q.seat) in
      let here : nat_lt q.seat b.opening.seats ≡ true =
      (and_parts (nat_lt q.seat b.opening.seats) (list_all (λ p. nat_lt p.seat b.opening.seats) rest)
      (sym (ap (λ (qs : List Request). list_all (λ p. nat_lt p.seat b.opening.seats) qs) e) ∙ placed b.strategy b.opening b.past represents.legal.allowed)).0 in
      let some : has_number (given b.closed b.past) q ≡ true =
      (and_parts (has_number (given b.closed b.past) q) (list_all (has_number (given b.closed b.past)) rest)
      (sym (ap (λ (qs : List Request). list_all (has_number (given b.closed b.past)) qs) e) ∙ represents.requests.given)).0 in
      let within : q.seat < b.opening.seats = grind (arith, nat_tests) in
      let zero_number : q.number ≡ 0 =
      sym (ap (λ (h : Option Request). (seated q.seat (calls_of b.closed q.seat b.past) h).number) held) ∙ out q.seat within in
      absurd (grind (arith, nat_tests))

-- what a seat has by a past
pub seated_index : (i calls : ℕ) (h : Option Request) → (seated i calls h).index ≡ i
seated_index i calls None = refl
seated_index i calls (Some q) = refl

pub seated_calls : (i calls : ℕ) (h : Option Request) → (seated i calls h).calls ≡ calls
seated_calls i calls None = refl
seated_calls i calls (Some q) = refl
