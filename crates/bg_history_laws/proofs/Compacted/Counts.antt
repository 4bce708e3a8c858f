-- The counts of requests and calls.
use Rattle.std.proofs.Common.{◌≡◌, ◌<◌, ◌≢◌, ◌+◌, ℕ, Bool, true, false, not, cond, ◌==◌, nat_lt, List, [], ◌∷◌, ◌++◌, length, sum, filter, find, get_or, Some, refl, arith, ap, sym, ◌∙◌}
use Rattle.std.specs.List.{list_all}
use Rattle.std.proofs.lemmas.Bool.Decides.{nat_tests}
use Rattle.std.proofs.lemmas.List.Sums.{sum_by-set}
use Rattle.std.proofs.lemmas.List.{get_or-set_same, get_or-set_other, length-set}
use Rattle.bg_strategy.specs.declared.strategy.Strategy.{Strategy}
use Rattle.bg_history.specs.declared.entry.Entry.{Entry}
use Rattle.bg_history.specs.declared.entry.Entry.TheVariants.{Enter, Leave}
use Rattle.bg_history.specs.Kept.{Opening}
use Rattle.bg_history.specs.Requests.{Request, open_requests, entered, calls_in, calls_of}
use Rattle.bg_history.specs.Allowed.{is_allowed, holds}
use Rattle.bg_history.specs.Steps.{all_allowed}
use Rattle.bg_history.specs.Compacted.{without, bump, raised, left_numbers}
use Rattle.bg_history_laws.proofs.Compacted.Closed.{all_kept, all_appended, all_stay, open-numbers, entering}
use Rattle.bg_history_laws.proofs.Tests.{and_parts}

one : Bool → ℕ
one true = 1
one false = 0

-- one more at the count of a seat
bump-length : (i : ℕ) (xs : List ℕ) → length (bump i xs) ≡ length xs
bump-length i xs = length-set xs i (get_or xs i 0 + 1)

pub bump-sum : (i : ℕ) (xs : List ℕ) → i < length xs → sum (bump i xs) ≡ sum xs + 1
bump-sum i xs lt = omega (arith, sum_by-set (λ (x : ℕ). x) xs i (get_or xs i 0 + 1) 0 lt)

bump-at : (i j : ℕ) (xs : List ℕ) → i < length xs → get_or (bump i xs) j 0 ≡ get_or xs j 0 + one (i == j)
unfolding one
bump-at i j xs lt = go (i == j) refl where
  go : (b : Bool) → (i == j) ≡ b → get_or (bump i xs) j 0 ≡ get_or xs j 0 + one b
  go true is = let e : j ≡ i = grind (arith, nat_tests) in rw e (get_or-set_same xs i (get_or xs i 0 + 1) 0 lt)
  go false is = let ne : j ≢ i = grind (arith, nat_tests) in get_or-set_other xs i j (get_or xs i 0 + 1) 0 ne ∙ (omega arith)

pub raised-length : (gone : ℕ → Bool) (past : List Entry) (closed : List ℕ) → length (raised gone past closed) ≡ length closed
raised-length gone [] closed = refl
raised-length gone (Enter seat service number r port ∷ before) closed = go (gone number) (raised-length gone before closed) where
  go : (b : Bool) → length (raised gone before closed) ≡ length closed → length (cond b (bump seat (raised gone before closed)) (raised gone before closed)) ≡ length closed
  go true h = bump-length seat (raised gone before closed) ∙ h
  go false h = h
raised-length gone (e ∷ before) closed = raised-length gone before closed

-- each seat of an Enter is one of the book's seats
pub seats-within : (s : Strategy) (o : Opening) (closed : List ℕ) (seat : ℕ) (gone : ℕ → Bool) (before : List Entry) → length closed ≡ o.seats → nat_lt seat o.seats ≡ true
    → seat < length (raised gone before closed)
seats-within s o closed seat gone before count lt = let e : length (raised gone before closed) ≡ length closed = raised-length gone before closed in grind (arith, nat_tests)

-- the number of given request numbers is the same
pub raised-given : (s : Strategy) (o : Opening) (gone : ℕ → Bool) (closed : List ℕ) (past : List Entry) → length closed ≡ o.seats → all_allowed s o past ≡ true
    → entered (without gone past) + sum (raised gone past closed) ≡ entered past + sum closed
raised-given s o gone closed [] count h = refl
raised-given s o gone closed (Enter seat service number r port ∷ before) count h =
    let two = and_parts (is_allowed s o (Enter seat service number r port) before) (all_allowed s o before) h in
    let e = entering s o seat service number r port before two.0 in
    go (gone number) (seats-within s o closed seat gone before count e.seat_is) (raised-given s o gone closed before count two.1) where
      go : (b : Bool) → seat < length (raised gone before closed) → entered (without gone before) + sum (raised gone before closed) ≡ entered before + sum closed
          → entered (cond (not b) (Enter seat service number r port ∷ without gone before) (without gone before)) + sum (cond b (bump seat (raised gone before closed)) (raised gone before closed))
          ≡ (1 + entered before) + sum closed
      go true lt rest = omega (arith, bump-sum seat (raised gone before closed) lt, rest)
      go false lt rest = omega (arith, rest)
raised-given s o gone closed (Leave seat number r ∷ before) count h =
    let two = and_parts (is_allowed s o (Leave seat number r) before) (all_allowed s o before) h in
    go (gone number) (raised-given s o gone closed before count two.1) where
      go : (b : Bool) → entered (without gone before) + sum (raised gone before closed) ≡ entered before + sum closed
          → entered (cond (not b) (Leave seat number r ∷ without gone before) (without gone before)) + sum (raised gone before closed) ≡ entered before + sum closed
      go true rest = rest
      go false rest = rest
raised-given s o gone closed (e ∷ before) count h = raised-given s o gone closed before count (and_parts (is_allowed s o e before) (all_allowed s o before) h).1

-- how often requests of a seat entered and left
enters : ℕ → List Entry → ℕ
enters i [] = 0
enters i (Enter seat service number r port ∷ before) = one (seat == i) + enters i before
enters i (e ∷ before) = enters i before

leaves : ℕ → List Entry → ℕ
leaves i [] = 0
leaves i (Leave seat number r ∷ before) = one (seat == i) + leaves i before
leaves i (e ∷ before) = leaves i before

one-cond : (b : Bool) → cond b 1 0 ≡ one b
unfolding one
one-cond true = refl
one-cond false = refl

calls-parts : (i : ℕ) (past : List Entry) → calls_in i past ≡ enters i past + leaves i past
unfolding enters leaves
calls-parts i [] = refl
calls-parts i (Enter seat service number r port ∷ before) = omega (arith, one-cond (seat == i), calls-parts i before)
calls-parts i (Leave seat number r ∷ before) = omega (arith, one-cond (seat == i), calls-parts i before)
calls-parts i (e ∷ before) = calls-parts i before

raised-at : (s : Strategy) (o : Opening) (gone : ℕ → Bool) (closed : List ℕ) (i : ℕ) (past : List Entry) → length closed ≡ o.seats → all_allowed s o past ≡ true
    → get_or (raised gone past closed) i 0 + enters i (without gone past) ≡ get_or closed i 0 + enters i past
unfolding enters
raised-at s o gone closed i [] count h = refl
raised-at s o gone closed i (Enter seat service number r port ∷ before) count h =
    let two = and_parts (is_allowed s o (Enter seat service number r port) before) (all_allowed s o before) h in
    let e = entering s o seat service number r port before two.0 in
    go (gone number) (seats-within s o closed seat gone before count e.seat_is) (raised-at s o gone closed i before count two.1) where
      go : (b : Bool) → seat < length (raised gone before closed) → get_or (raised gone before closed) i 0 + enters i (without gone before) ≡ get_or closed i 0 + enters i before
          → get_or (cond b (bump seat (raised gone before closed)) (raised gone before closed)) i 0 + enters i (cond (not b) (Enter seat service number r port ∷ without gone before) (without gone before))
          ≡ get_or closed i 0 + (one (seat == i) + enters i before)
      go true lt rest = omega (arith, bump-at seat i (raised gone before closed) lt, rest)
      go false lt rest = omega (arith, rest)
raised-at s o gone closed i (Leave seat number r ∷ before) count h =
    let two = and_parts (is_allowed s o (Leave seat number r) before) (all_allowed s o before) h in
    go (gone number) (raised-at s o gone closed i before count two.1) where
      go : (b : Bool) → get_or (raised gone before closed) i 0 + enters i (without gone before) ≡ get_or closed i 0 + enters i before
          → get_or (raised gone before closed) i 0 + enters i (cond (not b) (Leave seat number r ∷ without gone before) (without gone before)) ≡ get_or closed i 0 + enters i before
      go true rest = rest
      go false rest = rest
raised-at s o gone closed i (e ∷ before) count h = raised-at s o gone closed i before count (and_parts (is_allowed s o e before) (all_allowed s o before) h).1

-- no two open requests have the same number
pub Distinct : List Request → Type 0
Distinct [] = Unit {0}
Distinct (q ∷ rest) = (list_all (λ p. not (p.number == q.number)) rest ≡ true) × Distinct rest

distinct-append : (xs : List Request) (y : Request) → Distinct xs → list_all (λ q. nat_lt q.number y.number) xs ≡ true → Distinct (xs ++ y ∷ [])
unfolding Distinct
distinct-append [] y d h = (refl, tt)
distinct-append (x ∷ xs) y d h =
    let two = and_parts (nat_lt x.number y.number) (list_all (λ q. nat_lt q.number y.number) xs) h in
    let lt : nat_lt x.number y.number ≡ true = two.0 in
    let other : (y.number == x.number) ≡ false = grind (arith, nat_tests) in
    (all_appended (λ p. not (p.number == x.number)) xs y d.0 (ap not other), distinct-append xs y d.1 two.1)

distinct-filter : (k : Request → Bool) (xs : List Request) → Distinct xs → Distinct (filter k xs)
unfolding Distinct
distinct-filter k [] d = tt
distinct-filter k (x ∷ xs) d = go (k x) (all_kept (λ p. not (p.number == x.number)) k xs d.0) (distinct-filter k xs d.1) where
  go : (b : Bool) → list_all (λ p. not (p.number == x.number)) (filter k xs) ≡ true → Distinct (filter k xs) → Distinct (cond b (x ∷ filter k xs) (filter k xs))
  go true here rest = (here, rest)
  go false here rest = rest

pub open-distinct : (s : Strategy) (o : Opening) (past : List Entry) → all_allowed s o past ≡ true → Distinct (open_requests past)
unfolding Distinct
open-distinct s o [] h = tt
open-distinct s o (Enter seat service number r port ∷ before) h =
    let two = and_parts (is_allowed s o (Enter seat service number r port) before) (all_allowed s o before) h in
    let e = entering s o seat service number r port before two.0 in
    distinct-append (open_requests before) (record { seat = seat; number = number; revision = r; port = port }) (open-distinct s o before two.1) (open-numbers (λ n. nat_lt n number) before e.above)
open-distinct s o (Leave seat number r ∷ before) h =
    let two = and_parts (is_allowed s o (Leave seat number r) before) (all_allowed s o before) h in
    distinct-filter (λ q. not (q.number == number)) (open_requests before) (open-distinct s o before two.1)
open-distinct s o (e ∷ before) h = open-distinct s o before (and_parts (is_allowed s o e before) (all_allowed s o before) h).1

-- how many of the requests belong to a seat
seated : ℕ → List Request → ℕ
seated i [] = 0
seated i (q ∷ rest) = one (q.seat == i) + seated i rest

seated-append : (i : ℕ) (xs : List Request) (y : Request) → seated i (xs ++ y ∷ []) ≡ one (y.seat == i) + seated i xs
unfolding seated
seated-append i [] y = refl
seated-append i (x ∷ xs) y = omega (arith, seated-append i xs y)

-- the number of a request that a seat holds differs from another number
holds-other : (seat number r n : ℕ) (xs : List Request) → list_all (λ p. not (p.number == n)) xs ≡ true → holds number r (find (λ q. q.seat == seat) xs) ≡ true → (n == number) ≡ false
holds-other seat number r n [] a h = absurd (cc)
holds-other seat number r n (x ∷ xs) a h =
    let two = and_parts (not (x.number == n)) (list_all (λ p. not (p.number == n)) xs) a in
    go (x.seat == seat) two.0 h (holds-other seat number r n xs two.1) where
      go : (b : Bool) → not (x.number == n) ≡ true → holds number r (cond b (Some x) (find (λ q. q.seat == seat) xs)) ≡ true
          → (holds number r (find (λ q. q.seat == seat) xs) ≡ true → (n == number) ≡ false) → (n == number) ≡ false
      go true here h rest = grind (arith, nat_tests)
      go false here h rest = rest h

-- the request that is removed by its number belongs to its seat
taken-out : (i seat number r : ℕ) (xs : List Request) → Distinct xs → holds number r (find (λ q. q.seat == seat) xs) ≡ true
    → one (seat == i) + seated i (filter (λ q. not (q.number == number)) xs) ≡ seated i xs
unfolding Distinct seated
taken-out i seat number r [] d h = absurd (cc)
taken-out i seat number r (x ∷ xs) d h = go (x.seat == seat) refl h (taken-out i seat number r xs d.1) where
  go : (b : Bool) → (x.seat == seat) ≡ b → holds number r (cond b (Some x) (find (λ q. q.seat == seat) xs)) ≡ true
      → (holds number r (find (λ q. q.seat == seat) xs) ≡ true → one (seat == i) + seated i (filter (λ q. not (q.number == number)) xs) ≡ seated i xs)
      → one (seat == i) + seated i (filter (λ q. not (q.number == number)) (x ∷ xs)) ≡ one (x.seat == i) + seated i xs
  go true is h rest =
      let same : x.number ≡ number = grind (arith, nat_tests) in
      let seat_is : x.seat ≡ seat = grind (arith, nat_tests) in
      let test : (x.number == number) ≡ true = grind (arith, nat_tests) in
      let others : filter (λ q. not (q.number == number)) xs ≡ xs = all_stay (λ q. not (q.number == number)) xs (ap (λ n. list_all (λ p. not (p.number == n)) xs) (sym same) ∙ d.0) in
      rw (test, others, seat_is) refl
  go false is h rest =
      let other : (x.number == number) ≡ false = holds-other seat number r x.number xs d.0 h in
      rw other (omega (arith, rest h))

-- a seat has as many Enters as Leaves, and one more if it holds a request
seat-counts : (s : Strategy) (o : Opening) (i : ℕ) (past : List Entry) → all_allowed s o past ≡ true → enters i past ≡ leaves i past + seated i (open_requests past)
unfolding enters leaves seated
seat-counts s o i [] h = refl
seat-counts s o i (Enter seat service number r port ∷ before) h =
    omega (
      arith,
      seat-counts s o i before (and_parts (is_allowed s o (Enter seat service number r port) before) (all_allowed s o before) h).1,
      seated-append i (open_requests before) (record { seat = seat; number = number; revision = r; port = port }),
    )
seat-counts s o i (Leave seat number r ∷ before) h =
    let two = and_parts (is_allowed s o (Leave seat number r) before) (all_allowed s o before) h in
    omega (arith, seat-counts s o i before two.1, taken-out i seat number r (open_requests before) (open-distinct s o before two.1) two.0)
seat-counts s o i (e ∷ before) h = seat-counts s o i before (and_parts (is_allowed s o e before) (all_allowed s o before) h).1

none-leaves : (i : ℕ) (past : List Entry) → left_numbers past ≡ [] → leaves i past ≡ 0
unfolding leaves
none-leaves i [] h = refl
none-leaves i (Leave seat number r ∷ before) h = absurd (cc)
none-leaves i (e ∷ before) h = none-leaves i before h

-- the number of a seat's calls is the same
pub raised-calls : (s : Strategy) (o : Opening) (gone : ℕ → Bool) (closed : List ℕ) (i : ℕ) (past : List Entry) → length closed ≡ o.seats
    → all_allowed s o past ≡ true → all_allowed s o (without gone past) ≡ true → left_numbers (without gone past) ≡ [] → open_requests (without gone past) ≡ open_requests past
    → calls_of (raised gone past closed) i (without gone past) ≡ calls_of closed i past
raised-calls s o gone closed i past count h k none same =
    omega (
      arith,
      calls-parts i past,
      calls-parts i (without gone past),
      raised-at s o gone closed i past count h,
      seat-counts s o i past h,
      seat-counts s o i (without gone past) k,
      none-leaves i (without gone past) none,
      ap (seated i) same,
    )
