-- The lists that a past gives, entry by entry.
use Rattle.std.proofs.Common.{◌≡◌, ◌<◌, ℕ, Bool, true, false, not, cond, ◌||◌, ◌==◌, List, [], ◌∷◌, ◌++◌, length, filter, find, map, Some, None, IsSome, refl, sym, ap, ◌∙◌, arith}
use Rattle.std.specs.List.{list_any, list_all}
use Rattle.std.proofs.lemmas.Bool.Decides.{nat_tests}
use Rattle.std.proofs.lemmas.Option.{same_Some}
use Rattle.std.proofs.lemmas.List.Elements.{filter-append}
use Rattle.bg_strategy.specs.declared.strategy.Strategy.{Strategy}
use Rattle.bg_revisions.specs.declared.revision.Service.{Service}
use Rattle.bg_history.specs.declared.entry.Entry.{Entry}
use Rattle.bg_history.specs.declared.entry.Entry.TheVariants.{Enter, Leave, Outcome}
use Rattle.bg_history.specs.declared.entry.Outcome.TheVariants.{Removed}
use Rattle.bg_history.specs.Sizes.{existing, AllAbove, Ascends}
use Rattle.bg_history.specs.Deadlines.{exists_in}
use Rattle.bg_history.specs.Requests.{Request, open_requests, open_at, held_by}
use Rattle.bg_history_laws.specs.Reachable.{exists_scaled}
use Rattle.bg_rollout.specs.declared.request_lists.OpenRequest.{OpenRequest}
use Rattle.bg_rollout.specs.RequestLists.{OpenAt, requests_in, requests_of, changed, without_seat, has_request, is_empty_at}
use Rattle.bg_rollout.specs.PastState.{listed, requests_at, lists_of}
use Rattle.bg_rollout.specs.Invariant.{Differ}
use Rattle.bg_rollout.proofs.OpenRequests.Requests.{and_both, and_parts, eq_from, eq_refl, by_seat}

-- the list of a revision, from the function that gives the requests of each
abbrev pub at : (ℕ → List OpenRequest) → ℕ → OpenAt
at f q = record { revision = q; requests = f q }

-- if r is below all numbers, it is none of them
pub above_differs : (r : ℕ) (xs : List ℕ) (f g : ℕ → List OpenRequest) → AllAbove r xs → ((q : ℕ) → (q == r) ≡ false → g q ≡ f q)
    → map (at g) xs ≡ map (at f) xs
above_differs r [] f g above same = refl
above_differs r (x ∷ xs) f g above same =
    let other : (x == r) ≡ false = let lt : r < x = above.0 in grind (arith, nat_tests) in
    ap (λ qs. record { revision = x; requests = qs } ∷ map (at g) xs) (same x other)
    ∙ ap (λ ls. record { revision = x; requests = f x } ∷ ls) (above_differs r xs f g above.1 same)

-- the lists after a change of the requests of r alone
pub map_changed : (r : ℕ) (change : List OpenRequest → List OpenRequest) (xs : List ℕ) (f g : ℕ → List OpenRequest) → Ascends xs → g r ≡ change (f r) → ((q : ℕ) → (q == r) ≡ false → g q ≡ f q)
    → map (at g) xs ≡ changed r change (map (at f) xs)
map_changed r change [] f g ascends here there = refl
map_changed r change (x ∷ xs) f g ascends here there = go (x == r) refl (map_changed r change xs f g ascends.1 here there) where
  go : (b : Bool) → (x == r) ≡ b → map (at g) xs ≡ changed r change (map (at f) xs)
      → map (at g) (x ∷ xs)
      ≡ cond b (record { revision = x; requests = change (f x) } ∷ map (at f) xs)
      (record { revision = x; requests = f x } ∷ changed r change (map (at f) xs))
  go true e rest =
      let is : x ≡ r = eq_from x r e in
      let above : AllAbove r xs = rw (← is) ascends.0 in
      ap (λ qs. record { revision = x; requests = qs } ∷ map (at g) xs)
      (ap g is ∙ here ∙ ap (λ n. change (f n)) (sym is))
      ∙ ap (λ ls. record { revision = x; requests = change (f x) } ∷ ls) (above_differs r xs f g above there)
  go false e rest =
      ap (λ qs. record { revision = x; requests = qs } ∷ map (at g) xs) (there x e)
      ∙ ap (λ ls. record { revision = x; requests = f x } ∷ ls) rest

-- the requests of a revision after one entered, which is at the end of its own list
map-append : (xs ys : List Request) → map listed (xs ++ ys) ≡ map listed xs ++ map listed ys
map-append [] ys = refl
map-append (x ∷ xs) ys = ap (λ zs. listed x ∷ zs) (map-append xs ys)

requests-Enter : (past : List Entry) (q seat : ℕ) (service : Service) (number r port : ℕ)
    → requests_at q (Enter seat service number r port ∷ past) ≡ requests_at q past ++ map listed (cond (r == q) (record { seat = seat; number = number; revision = r; port = port } ∷ []) [])
requests-Enter past q seat service number r port =
    ap (map listed) (filter-append (λ (x : Request). x.revision == q) (open_requests past) _)
    ∙ map-append (filter (λ (x : Request). x.revision == q) (open_requests past)) _

append_none : (xs : List OpenRequest) → xs ++ [] ≡ xs
append_none [] = refl
append_none (x ∷ xs) = ap (λ ys. x ∷ ys) (append_none xs)

pub lists-Enter : (past : List Entry) (seat : ℕ) (service : Service) (number r port : ℕ) → Ascends (existing past)
    → lists_of (Enter seat service number r port ∷ past) ≡ changed r (λ requests. requests ++ record { seat = seat; number = number } ∷ []) (lists_of past)
lists-Enter past seat service number r port ascends =
    map_changed r _ (existing past) (λ q. requests_at q past) (λ q. requests_at q (Enter seat service number r port ∷ past)) ascends
    (requests-Enter past r seat service number r port ∙ ap (λ b. requests_at r past ++ map listed (cond b (x ∷ []) [])) same)
    (λ q other. requests-Enter past q seat service number r port ∙ ap (λ b. requests_at q past ++ map listed (cond b (x ∷ []) [])) (turned q other) ∙ append_none (requests_at q past))
  where
    x : Request
    x = record { seat = seat; number = number; revision = r; port = port }

    same : (r == r) ≡ true
    same = grind (arith, nat_tests)

    turned : (q : ℕ) → (q == r) ≡ false → (r == q) ≡ false
    turned q other = grind (arith, nat_tests)

-- removing a seat's request before or after the listing gives the same
listed_without : (p : Request → Bool) (seat : ℕ) (qs : List Request)
    → map listed (filter p (filter (λ q. not (q.seat == seat)) qs)) ≡ filter (λ q. not (q.seat == seat)) (map listed (filter p qs))
listed_without p seat [] = refl
listed_without p seat (q ∷ qs) = go (q.seat == seat) (p q) refl refl (listed_without p seat qs) where
  go : (b c : Bool) → (q.seat == seat) ≡ b → p q ≡ c → map listed (filter p (filter (λ x. not (x.seat == seat)) qs)) ≡ filter (λ x. not (x.seat == seat)) (map listed (filter p qs))
      → map listed (filter p (cond (not b) (q ∷ filter (λ x. not (x.seat == seat)) qs) (filter (λ x. not (x.seat == seat)) qs)))
      ≡ filter (λ x. not (x.seat == seat)) (map listed (cond c (q ∷ filter p qs) (filter p qs)))
  go true true e f rest = rw e rest
  go true false e f rest = rest
  go false true e f rest = rw (f, e) (ap (λ xs. listed q ∷ xs) rest)
  go false false e f rest = rw f rest

-- the lists after the requests of each revision lost those of the seat
map_without : (seat : ℕ) (xs : List ℕ) (f g : ℕ → List OpenRequest) → ((q : ℕ) → g q ≡ filter (λ p. not (p.seat == seat)) (f q)) → map (at g) xs ≡ without_seat seat (map (at f) xs)
map_without seat [] f g left = refl
map_without seat (x ∷ xs) f g left =
    ap (λ qs. record { revision = x; requests = qs } ∷ map (at g) xs) (left x)
    ∙ ap (λ ls. record { revision = x; requests = filter (λ p. not (p.seat == seat)) (f x) } ∷ ls) (map_without seat xs f g left)

-- the lists after the request of a seat left
pub lists-Leave : (past : List Entry) (seat number r : ℕ) (x : Request) → Differ (open_requests past) → held_by seat past ≡ Some x → x.number ≡ number
    → lists_of (Leave seat number r ∷ past) ≡ without_seat seat (lists_of past)
lists-Leave past seat number r x differ held is_number =
    map_without seat (existing past) (λ q. requests_at q past) (λ q. requests_at q (Leave seat number r ∷ past)) (λ q. taken q ∙ listed_without (λ p. p.revision == q) seat (open_requests past)) where
      taken : (q : ℕ) → requests_at q (Leave seat number r ∷ past) ≡ map listed (filter (λ p. p.revision == q) (filter (λ p. not (p.seat == seat)) (open_requests past)))
      taken q =
          ap (λ (n : ℕ). map listed (filter (λ p. p.revision == q) (filter (λ p. not (p.number == n)) (open_requests past)))) (sym is_number)
          ∙ ap (λ (qs : List Request). map listed (filter (λ p. p.revision == q) qs)) (by_seat seat (open_requests past) x differ held)

-- a seat that holds no request has none in any list
none_listed : (seat r : ℕ) (qs : List Request) → find (λ q. q.seat == seat) qs ≡ None → list_any (λ q. q.seat == seat) (map listed (filter (λ q. q.revision == r) qs)) ≡ false
none_listed seat r [] h = refl
none_listed seat r (q ∷ qs) h = go (q.seat == seat) (q.revision == r) refl h (none_listed seat r qs) where
  go : (b c : Bool) → (q.seat == seat) ≡ b → cond b (Some q) (find (λ p. p.seat == seat) qs) ≡ None
      → (find (λ p. p.seat == seat) qs ≡ None → list_any (λ p. p.seat == seat) (map listed (filter (λ p. p.revision == r) qs)) ≡ false)
      → list_any (λ p. p.seat == seat) (map listed (cond c (q ∷ filter (λ p. p.revision == r) qs) (filter (λ p. p.revision == r) qs))) ≡ false
  go true c e h rest = absurd (cc)
  go false true e h rest = rw (e, rest h) refl
  go false false e h rest = rest h

pub no_request : (past : List Entry) (seat : ℕ) → held_by seat past ≡ None → has_request seat (lists_of past) ≡ false
no_request past seat none = go (existing past) where
  go : (xs : List ℕ) → has_request seat (map (at (λ q. requests_at q past)) xs) ≡ false
  go [] = refl
  go (x ∷ xs) = rw (none_listed seat x (open_requests past) none, go xs) refl

-- a seat that holds a request has it in the list of its revision
one_listed : (seat : ℕ) (qs : List Request) (x : Request) → find (λ q. q.seat == seat) qs ≡ Some x → list_any (λ q. q.seat == seat) (map listed (filter (λ q. q.revision == x.revision) qs)) ≡ true
one_listed seat [] x h = absurd (cc)
one_listed seat (q ∷ qs) x h = go (q.seat == seat) (q.revision == x.revision) refl refl h (one_listed seat qs x) where
  go : (b c : Bool) → (q.seat == seat) ≡ b → (q.revision == x.revision) ≡ c → cond b (Some q) (find (λ p. p.seat == seat) qs) ≡ Some x
      → (find (λ p. p.seat == seat) qs ≡ Some x → list_any (λ p. p.seat == seat) (map listed (filter (λ p. p.revision == x.revision) qs)) ≡ true)
      → list_any (λ p. p.seat == seat) (map listed (cond c (q ∷ filter (λ p. p.revision == x.revision) qs) (filter (λ p. p.revision == x.revision) qs))) ≡ true
  go true true e k h rest = rw e refl
  go true false e k h rest = absurd (let same : (q.revision == x.revision) ≡ true = ap (λ (y : Request). q.revision == y.revision) (sym (same_Some q x h)) ∙ eq_refl q.revision in cc)
  go false true e k h rest = rw (e, rest h) refl
  go false false e k h rest = rest h

pub has_its_request : (past : List Entry) (seat : ℕ) (x : Request) → held_by seat past ≡ Some x → exists_in x.revision past ≡ true → has_request seat (lists_of past) ≡ true
has_its_request past seat x held exists = go (existing past) exists where
  either : (a : Bool) {b : Bool} → b ≡ true → (a || b) ≡ true
  either true h = refl
  either false h = h

  at_x : (q : ℕ) (xs : List ℕ) (b : Bool) → (q == x.revision) ≡ b → (b || list_any (λ n. n == x.revision) xs) ≡ true → (list_any (λ n. n == x.revision) xs ≡ true → has_request seat (map (at (λ n. requests_at n past)) xs) ≡ true)
      → (list_any (λ p. p.seat == seat) (requests_at q past) || has_request seat (map (at (λ n. requests_at n past)) xs)) ≡ true
  at_x q xs true e h rest =
      let here : list_any (λ p. p.seat == seat) (requests_at q past) ≡ true =
      ap (λ (n : ℕ). list_any (λ p. p.seat == seat) (requests_at n past)) (eq_from q x.revision e) ∙ one_listed seat (open_requests past) x held in
      rw here refl
  at_x q xs false e h rest = either (list_any (λ p. p.seat == seat) (requests_at q past)) (rest h)

  go : (xs : List ℕ) → list_any (λ n. n == x.revision) xs ≡ true → has_request seat (map (at (λ n. requests_at n past)) xs) ≡ true
  go [] h = absurd (cc)
  go (q ∷ xs) h = at_x q xs (q == x.revision) refl h (go xs)

-- a revision without an open request has none in its list
none_of : (qs : List Request) → map (λ q. q.number) qs ≡ [] → map listed qs ≡ []
none_of [] h = refl
none_of (q ∷ qs) h = absurd (cc)

pub empty_list : (past : List Entry) (r : ℕ) → open_at r past ≡ [] → is_empty_at r (lists_of past) ≡ true
empty_list past r none = go (existing past) where
  here : (q : ℕ) (b : Bool) → (q == r) ≡ b → (not b || (length (requests_at q past) == 0)) ≡ true
  here q true e =
      let no : requests_at q past ≡ [] = ap (λ (n : ℕ). requests_at n past) (eq_from q r e) ∙ none_of (filter (λ p. p.revision == r) (open_requests past)) none in
      rw no refl
  here q false e = refl

  go : (xs : List ℕ) → is_empty_at r (map (at (λ q. requests_at q past)) xs) ≡ true
  go [] = refl
  go (q ∷ xs) = and_both _ _ (here q (q == r) refl) (go xs)

-- the lists after a revision was removed
removed_cond : (b : Bool) (l : OpenAt) (rest lists : List OpenAt) → rest ≡ lists → cond b (l ∷ rest) rest ≡ cond b (l ∷ lists) lists
removed_cond true l rest lists h = ap (λ ls. l ∷ ls) h
removed_cond false l rest lists h = h

map-removed : (r : ℕ) (f : ℕ → List OpenRequest) (xs : List ℕ)
    → map (at f) (filter (λ q. not (q == r)) xs) ≡ filter (λ l. not (l.revision == r)) (map (at f) xs)
map-removed r f [] = refl
map-removed r f (x ∷ xs) = split (not (x == r)) ∙ removed_cond (not (x == r)) _ _ _ (map-removed r f xs) where
  split : (b : Bool) → map (at f) (cond b (x ∷ filter (λ q. not (q == r)) xs) (filter (λ q. not (q == r)) xs))
      ≡ cond b (record { revision = x; requests = f x } ∷ map (at f) (filter (λ q. not (q == r)) xs)) (map (at f) (filter (λ q. not (q == r)) xs))
  split true = refl
  split false = refl

pub lists-Removed : (past : List Entry) (r : ℕ) → lists_of (Outcome (Removed r) ∷ past) ≡ filter (λ l. not (l.revision == r)) (lists_of past)
lists-Removed past r = map-removed r (λ q. requests_at q past) (existing past)

-- an existing revision has a list, and one that doesn't exist has none
pub find_list : (f : ℕ → List OpenRequest) (r : ℕ) (xs : List ℕ)
    → find (λ l. l.revision == r) (map (at f) xs) ≡ cond (list_any (λ q. q == r) xs) (Some (record { revision = r; requests = f r })) None
find_list f r [] = refl
find_list f r (x ∷ xs) = go (x == r) refl (find_list f r xs) where
  go : (b : Bool) → (x == r) ≡ b
      → find (λ l. l.revision == r) (map (at f) xs) ≡ cond (list_any (λ q. q == r) xs) (Some (record { revision = r; requests = f r })) None
      → cond b (Some (record { revision = x; requests = f x })) (find (λ l. l.revision == r) (map (at f) xs))
      ≡ cond (b || list_any (λ q. q == r) xs) (Some (record { revision = r; requests = f r })) None
  go true e rest = ap (λ n. Some (at f n)) (eq_from x r e)
  go false e rest = rest

-- if each open request is at an existing revision, a revision that doesn't exist has none
pub none_elsewhere : (s : Strategy) (past : List Entry) (r : ℕ) (qs : List Request) → exists_in r past ≡ false → list_all (λ q. exists_scaled s q.revision past) qs ≡ true
    → filter (λ q. q.revision == r) qs ≡ []
none_elsewhere s past r [] gone represents = refl
none_elsewhere s past r (q ∷ qs) gone represents = let both = and_parts (exists_scaled s q.revision past) _ represents in go (q.revision == r) refl both.0 (none_elsewhere s past r qs gone both.1) where
  go : (b : Bool) → (q.revision == r) ≡ b → exists_scaled s q.revision past ≡ true → filter (λ p. p.revision == r) qs ≡ [] → cond b (q ∷ filter (λ p. p.revision == r) qs) (filter (λ p. p.revision == r) qs) ≡ []
  go true e here rest =
      let there : exists_in r past ≡ true = rw (← eq_from q.revision r e) (and_parts (exists_in q.revision past) _ here).0 in
      absurd (cc)
  go false e here rest = rest

-- the list of each revision has its open requests
pub list_of_past : (s : Strategy) (past : List Entry) (r : ℕ) → list_all (λ q. exists_scaled s q.revision past) (open_requests past) ≡ true
    → requests_of r (lists_of past) ≡ requests_at r past
list_of_past s past r represents =
    ap requests_in (find_list (λ q. requests_at q past) r (existing past)) ∙ go (exists_in r past) refl where
      go : (b : Bool) → exists_in r past ≡ b → requests_in (cond b (Some (record { revision = r; requests = requests_at r past })) None) ≡ requests_at r past
      go true e = refl
      go false e = sym (ap (map listed) (none_elsewhere s past r (open_requests past) e represents))

numbers_listed : (qs : List Request) → map (λ x. x.number) (map listed qs) ≡ map (λ x. x.number) qs
numbers_listed [] = refl
numbers_listed (q ∷ qs) = ap (λ ns. q.number ∷ ns) (numbers_listed qs)

-- the numbers of the requests in the list
pub list_is : (s : Strategy) (past : List Entry) (r : ℕ) → list_all (λ q. exists_scaled s q.revision past) (open_requests past) ≡ true
    → map (λ q. q.number) (requests_of r (lists_of past)) ≡ open_at r past
list_is s past r represents =
    ap (map (λ q. q.number)) (list_of_past s past r represents) ∙ numbers_listed (filter (λ q. q.revision == r) (open_requests past))

length_numbers : (xs : List OpenRequest) → length (map (λ q. q.number) xs) ≡ length xs
length_numbers [] = refl
length_numbers (x ∷ xs) = omega (arith, length_numbers xs)

-- the number of requests in the list
pub list_counts : (s : Strategy) (past : List Entry) (r : ℕ) → list_all (λ q. exists_scaled s q.revision past) (open_requests past) ≡ true
    → length (requests_of r (lists_of past)) ≡ length (open_at r past)
list_counts s past r represents = sym (length_numbers (requests_of r (lists_of past))) ∙ ap length (list_is s past r represents)

-- an existing revision has a list
pub has_list : (past : List Entry) (lists : List OpenAt) (r : ℕ) → lists ≡ lists_of past → exists_in r past ≡ true → IsSome (find (λ l. l.revision == r) lists)
has_list past lists r is exists =
    let found : find (λ l. l.revision == r) lists ≡ Some (at (λ q. requests_at q past) r) =
    ap (find (λ l. l.revision == r)) is ∙ find_list (λ q. requests_at q past) r (existing past) ∙ ap (λ b. cond b (Some (at (λ q. requests_at q past) r)) None) exists in
    rw found refl
