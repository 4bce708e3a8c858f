-- The number of open requests of a revision is the sum of the seats' shares.
use Rattle.std.proofs.Common.{◌≡◌, ℕ, zero, suc, ◌+◌, ◌<◌, ◌≤◌, Bool, true, false, cond, not, ◌==◌, ◌&&◌, nat_lt, List, [], ◌∷◌, length, map, filter, find, slice_get, Option, Some, None, refl, sym, ap, ◌∙◌, arith}
use Rattle.std.specs.Prelude.{sum_by}
use Rattle.std.specs.List.{list_all}
use Rattle.std.proofs.lemmas.Bool.Decides.{nat_tests}
use Rattle.std.proofs.lemmas.List.Sums.{sum_by-cons}
use Rattle.std.proofs.lemmas.Option.{slice_get_within, same_Some}
use Rattle.bg_history.specs.Requests.{Request, open_requests, open_at, held_by, share_in, given, calls_of}
use Rattle.bg_ledger.specs.declared.holding.Holding.{Holding}
use Rattle.bg_rollout.specs.Invariant.{are_apart, Differ, RoutingInvariant, has_number}
use Rattle.bg_rollout.specs.PastState.{seated, seat_of, share}
use Rattle.bg_rollout.specs.Routing.{Routing}
use Rattle.bg_rollout.proofs.OpenRequests.Placed.{placed}
use Rattle.bg_rollout.proofs.OpenRequests.Requests.{and_parts, eq_from, eq_refl, eq_sym}
use Rattle.bg_rollout.proofs.SeatRecords.Seating.{held_number}

-- the sum of f over n numbers, from i on
abbrev total : (ℕ → ℕ) → ℕ → ℕ → ℕ
total f i zero = 0
total f i (suc n) = f i + total f (i + 1) n

total_zero : (i n : ℕ) → total (λ k. 0) i n ≡ 0
total_zero i zero = refl
total_zero i (suc n) = omega (arith, total_zero (i + 1) n)

-- functions that agree except at j
same_after : (f g : ℕ → ℕ) (j i n : ℕ) → ((k : ℕ) → (k == j) ≡ false → f k ≡ g k) → j < i → total f i n ≡ total g i n
same_after f g j i zero same h = refl
same_after f g j i (suc n) same h =
    let other : (i == j) ≡ false = grind (arith, nat_tests) in
    omega (arith, same i other, same_after f g j (i + 1) n same (omega (arith, h)))

one_more : (f g : ℕ → ℕ) (j d i n : ℕ) → ((k : ℕ) → (k == j) ≡ false → f k ≡ g k) → f j ≡ g j + d → i ≤ j → j < i + n → total f i n ≡ total g i n + d
one_more f g j d i zero same there low high = absurd (omega (arith, low, high))
one_more f g j d i (suc n) same there low high = go (i == j) refl (λ above. one_more f g j d (i + 1) n same there above (omega (arith, high))) where
  go : (b : Bool) → (i == j) ≡ b → (i + 1 ≤ j → total f (i + 1) n ≡ total g (i + 1) n + d) → f i + total f (i + 1) n ≡ g i + total g (i + 1) n + d
  go true e later =
      let at : i ≡ j = eq_from i j e in
      let here : f i ≡ g i + d = ap f at ∙ there ∙ ap (λ (k : ℕ). g k + d) (sym at) in
      omega (arith, here, same_after f g j (i + 1) n same (omega (arith, at)))
  go false e later =
      let above : i + 1 ≤ j = grind (arith, nat_tests) in
      omega (arith, same i e, later above)

none_there : (q : Request) (rest : List Request) → list_all (are_apart q) rest ≡ true → find (λ p. p.seat == q.seat) rest ≡ None
none_there q [] h = refl
none_there q (p ∷ rest) h =
    let both = and_parts (are_apart q p) (list_all (are_apart q) rest) h in
    let away = (and_parts (not (q.seat == p.seat)) (not (q.number == p.number)) both.0).0 in
    ap (λ b. cond b (Some p) (find (λ x. x.seat == q.seat) rest)) (eq_sym p.seat q.seat ∙ is_false (q.seat == p.seat) away) ∙ none_there q rest both.1
  where
    is_false : (b : Bool) → not b ≡ true → b ≡ false
    is_false true h = absurd (cc)
    is_false false h = refl

one_counted : (r : ℕ) (q : Request) (kept : List Request) (b : Bool) → length (cond b (q ∷ kept) kept) ≡ length kept + cond b 1 0
one_counted r q kept true = omega arith
one_counted r q kept false = omega arith

-- the shares of all seats, from the requests
shares_are : (r n : ℕ) (qs : List Request) → Differ qs → list_all (λ q. nat_lt q.seat n) qs ≡ true
    → total (λ i. share_in r (find (λ q. q.seat == i) qs)) 0 n ≡ length (filter (λ q. q.revision == r) qs)
shares_are r n [] differ low = total_zero 0 n
shares_are r n (q ∷ rest) differ low =
    let both = and_parts (nat_lt q.seat n) (list_all (λ p. nat_lt p.seat n) rest) low in
    let within : q.seat < n = grind (arith, nat_tests) in
    let more = one_more (λ i. share_in r (find (λ p. p.seat == i) (q ∷ rest))) (λ i. share_in r (find (λ p. p.seat == i) rest)) q.seat (share_in r (Some q)) 0 n
    (λ k other. ap (λ b. share_in r (cond b (Some q) (find (λ p. p.seat == k) rest))) (eq_sym q.seat k ∙ other))
    (ap (λ b. share_in r (cond b (Some q) (find (λ p. p.seat == q.seat) rest))) (eq_refl q.seat)
    ∙ plus_none (share_in r (Some q))
    ∙ ap (λ (x : Option Request). share_in r x + share_in r (Some q)) (sym (none_there q rest differ.0)))
    (omega arith) (omega (arith, within)) in
    omega (arith, more, shares_are r n rest differ.1 both.1, one_counted r q (filter (λ p. p.revision == r) rest) (q.revision == r))
  where
    plus_none : (d : ℕ) → d ≡ 0 + d
    plus_none d = omega arith

-- the sum over the seats, in order of index
by_index : (f : ℕ → ℕ) (g : Holding → ℕ) (i : ℕ) (seats : List Holding) → ((k : ℕ) (s : Holding) → slice_get seats k ≡ Some s → g s ≡ f (i + k)) → sum_by g seats ≡ total f i (length seats)
by_index f g i [] each = refl
by_index f g i (s ∷ rest) each =
    let start : i + 0 ≡ i = omega arith in
    omega (arith, sum_by-cons g s rest, each 0 s refl ∙ ap f start, by_index f g (i + 1) rest (λ k t get. each (suc k) t get ∙ ap f (next i k)))
  where
    next : (i k : ℕ) → i + suc k ≡ i + 1 + k
    next i k = omega arith

-- the share of a record is the share of the request that its seat holds
share_is : (r i calls : ℕ) (h : Option Request) → ((x : Request) → h ≡ Some x → nat_lt 0 x.number ≡ true) → share r (seated i calls h) ≡ share_in r h
share_is r i calls None some = refl
share_is r i calls (Some q) some = ap (λ b. cond (b && (q.revision == r)) 1 0) (some q refl)

numbers_counted : (qs : List Request) → length (map (λ q. q.number) qs) ≡ length qs
numbers_counted [] = refl
numbers_counted (q ∷ qs) = omega (arith, numbers_counted qs)

given_some : (n number : ℕ) (q : Request) → has_number n q ≡ true → nat_lt 0 q.number ≡ true
given_some n number q h = grind (arith, nat_tests)

pub shares_of : (b : Routing) (r : ℕ) → RoutingInvariant b → sum_by (share r) b.seats ≡ length (open_at r b.past)
shares_of b r represents =
    by_index (λ i. share_in r (held_by i b.past)) (share r) 0 b.seats (λ k s get. each k s get)
    ∙ ap (λ (n : ℕ). total (λ i. share_in r (held_by i b.past)) 0 n) represents.seats.count
    ∙ shares_are r b.opening.seats (open_requests b.past) represents.requests.differ (placed b.strategy b.opening b.past represents.legal.allowed)
    ∙ sym (numbers_counted (filter (λ q. q.revision == r) (open_requests b.past)))
  where
    zero_on : (k : ℕ) → k ≡ 0 + k
    zero_on k = omega arith

    each : (k : ℕ) (s : Holding) → slice_get b.seats k ≡ Some s → share r s ≡ share_in r (held_by (0 + k) b.past)
    each k s get =
        let within : k < b.opening.seats = omega (arith, slice_get_within b.seats k s get, represents.seats.count) in
        ap (share r) (same_Some s (seat_of b.closed k b.past) (sym get ∙ represents.seats.each k within))
        ∙ share_is r k (calls_of b.closed k b.past) (held_by k b.past) (λ x held. given_some (given b.closed b.past) 0 x (held_number b k x represents held))
        ∙ ap (λ (n : ℕ). share_in r (held_by n b.past)) (zero_on k)
