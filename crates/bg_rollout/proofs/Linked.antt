-- The linked lists: the list of each revision, and what callers see of it.
use Rattle.std.proofs.Common.{◌≡◌, ◌≢◌, ◌<◌, ◌≤◌, ℕ, zero, suc, Bool, true, false, cond, not, ◌==◌, ◌||◌, nat_lt, List, [], ◌∷◌, ◌++◌, length, map, filter, find, get_or, replicate, set, Option, Some, None, IsSome, is_some, option_map, refl, sym, ap, ◌∙◌, subst, arith}
use Rattle.std.specs.List.{list_all, list_any}
use Rattle.std.proofs.lemmas.Bool.Decides.{nat_tests}
use Rattle.std.proofs.lemmas.List.{get_or-set_same}
use Rattle.std.proofs.lemmas.Bool.{and_parts}
use Rattle.std.proofs.lemmas.List.Elements.{All-filter}
use Rattle.std.proofs.lemmas.List.Filters.{length-filter_both}
use Rattle.std.proofs.lemmas.List.Folds.{list_all-append}
use Rattle.std.proofs.lemmas.List.Sums.{AllPass-from_list_all, list_all-from_AllPass}
use Rattle.std.proofs.lemmas.Option.{same_Some}
use Rattle.bg_openlist.specs.Distinct.{Distinct, Fresh}
use Rattle.bg_openlist.specs.Family.{Family, IsFamily, empty_family, is_linked, list_at, place_of, value_in, without_node}
use Rattle.bg_rollout.specs.declared.request_lists.OpenRequest.{OpenRequest}
use Rattle.bg_rollout.specs.declared.request_lists.OwnList.{OwnList}
use Rattle.bg_rollout.specs.RequestLists.{OpenAt, OwnsLists, changed, has_request, is_empty_at, is_owned, request_at, requests_in, shown_at, without_seat}

eq_refl : (n : ℕ) → (n == n) ≡ true
eq_refl n = grind (arith, nat_tests)

eq_from : (m n : ℕ) → (m == n) ≡ true → m ≡ n
eq_from m n h = grind (arith, nat_tests)

-- if all elements pass a test, all kept ones pass it
all_kept : {X : Type 0} (p k : X → Bool) (xs : List X) → list_all p xs ≡ true → list_all p (filter k xs) ≡ true
all_kept p k xs h = list_all-from_AllPass p (filter k xs) (All-filter k (λ x. p x ≡ true) xs (AllPass-from_list_all p xs h))

all_appended : {X : Type 0} (p : X → Bool) (xs : List X) (y : X) → list_all p xs ≡ true → p y ≡ true → list_all p (xs ++ y ∷ []) ≡ true
all_appended p xs y h k = list_all-append p xs (y ∷ []) ∙ rw (h, k) refl

-- the linked lists that revisions use
abbrev pub owns : List OwnList → List ℕ
owns owned = map (λ o. o.list) owned

-- one of the lists after a map that keeps the empty list empty
get_or-map_none : {A : Type 0} (h : List A → List A) → h [] ≡ [] → (xs : List (List A)) (l : ℕ) → get_or (map h xs) l [] ≡ h (get_or xs l [])
get_or-map_none h e [] l = sym e
get_or-map_none h e (x ∷ xs) zero = refl
get_or-map_none h e (x ∷ xs) (suc l) = get_or-map_none h e xs l

-- each list after the request at a node left
pub list_without : (f : Family ℕ) (new : Family ℕ) (node : ℕ) → new.lists ≡ map (without_node node) f.lists → (l : ℕ) → list_at new l ≡ without_node node (list_at f l)
list_without f new node e l = ap (λ (ls : List (List (ℕ × ℕ))). get_or ls l []) e ∙ get_or-map_none (without_node node) refl f.lists l

-- the list after a request was linked to it
pub list_with : (f : Family ℕ) (new : Family ℕ) (l : ℕ) (xs : List (ℕ × ℕ)) → IsFamily f → l < 64 → new.lists ≡ set f.lists l xs → list_at new l ≡ xs
list_with f new l xs ok low e = ap (λ (ls : List (List (ℕ × ℕ))). get_or ls l []) e ∙ get_or-set_same f.lists l xs [] (omega (arith, low, ok.count.0))

-- a test that one element passes
any_cases : (a b : Bool) → (a || b) ≡ false → (a ≡ false) × (b ≡ false)
any_cases true b h = absurd (cc)
any_cases false b h = (refl, h)

any_rest : (a b : Bool) → b ≡ true → (a || b) ≡ true
any_rest true b h = refl
any_rest false b h = h

any_append : {X : Type 0} (p : X → Bool) (xs : List X) (y : X) → list_any p (xs ++ y ∷ []) ≡ false → (list_any p xs ≡ false) × (p y ≡ false)
any_append p [] y h = (refl, (any_cases (p y) false h).0)
any_append p (x ∷ xs) y h =
    let both = any_cases (p x) (list_any p (xs ++ y ∷ [])) h in
    let rest = any_append p xs y both.1 in
    (rw (both.0, rest.0) refl, rest.1)

-- a linked list that no revision uses differs from those that revisions use
pub fresh_by_unowned : (l : ℕ) (owned : List OwnList) → is_owned l owned ≡ false → Fresh l (owns owned)
fresh_by_unowned l [] h = tt
fresh_by_unowned l (o ∷ rest) h =
    let both = any_cases (o.list == l) (is_owned l rest) h in
    ((λ e. absurd (let same : (o.list == l) ≡ true = rw e (eq_refl l) in cc)), fresh_by_unowned l rest both.1)

fresh_end : (x : ℕ) (xs : List ℕ) (y : ℕ) → Fresh x xs → y ≢ x → Fresh x (xs ++ y ∷ [])
fresh_end x [] y h n = (n, tt)
fresh_end x (z ∷ zs) y h n = (h.0, fresh_end x zs y h.1 n)

distinct_end : (xs : List ℕ) (y : ℕ) → Distinct xs → Fresh y xs → Distinct (xs ++ y ∷ [])
distinct_end [] y h f = (tt, tt)
distinct_end (x ∷ xs) y h f = (fresh_end x xs y h.0 (λ e. f.0 (sym e)), distinct_end xs y h.1 f.1)

owns_end : (owned : List OwnList) (o : OwnList) → owns (owned ++ o ∷ []) ≡ owns owned ++ o.list ∷ []
owns_end [] o = refl
owns_end (x ∷ xs) o = ap (λ ls. x.list ∷ ls) (owns_end xs o)

-- a list of empty lists has only empty lists
none_in_replicate : {A : Type 0} (n l : ℕ) → get_or (replicate {A = List A} n []) l [] ≡ []
none_in_replicate zero l = refl
none_in_replicate (suc n) zero = refl
none_in_replicate (suc n) (suc l) = none_in_replicate n l

-- only revision 1 has a linked list
pub holds_first : (c : ℕ) (f : Family ℕ) → 64 ≤ c → f ≡ empty_family 2048 → IsFamily f → OwnsLists (record { revision = 1; list = 0 } ∷ []) c f
holds_first c f room is ok = record {
  room = room;
  distinct = (tt, tt);
  below = refl;
  rest = λ l free. ap (λ (g : Family ℕ). list_at g l) is ∙ none_in_replicate 64 l;
  family = ok;
  nodes = ap (λ (g : Family ℕ). g.nodes) is;
}

-- a revision got a list that no revision used
pub holds_added : (owned : List OwnList) (c d : ℕ) (f : Family ℕ) (o : OwnList) → OwnsLists owned c f → c ≤ d → o.list < 64 → is_owned o.list owned ≡ false → OwnsLists (owned ++ o ∷ []) d f
holds_added owned c d f o held more low free = record {
  room = let room = held.room in omega arith;
  distinct = subst Distinct (sym (owns_end owned o)) (distinct_end (owns owned) o.list held.distinct (fresh_by_unowned o.list owned free));
  below = all_appended (λ (x : OwnList). nat_lt x.list 64) owned o held.below (grind (arith, nat_tests));
  rest = λ l h. held.rest l (any_append (λ (x : OwnList). x.list == l) owned o h).0;
  family = held.family;
  nodes = held.nodes;
}

pub shown_added : (owned : List OwnList) (f : Family ℕ) (o : OwnList) → list_at f o.list ≡ [] → map (shown_at f) (owned ++ o ∷ []) ≡ map (shown_at f) owned ++ record { revision = o.revision; requests = [] } ∷ []
shown_added [] f o h = ap (λ (ps : List (ℕ × ℕ)). record { revision = o.revision; requests = map request_at ps } ∷ []) h
shown_added (x ∷ xs) f o h = ap (λ ls. shown_at f x ∷ ls) (shown_added xs f o h)

-- the holder that the search finds
pub found_is_owned : (r : ℕ) (owned : List OwnList) (o : OwnList) → find (λ x. x.revision == r) owned ≡ Some o → is_owned o.list owned ≡ true
found_is_owned r [] o h = absurd (cc)
found_is_owned r (x ∷ xs) o h = go (x.revision == r) h (found_is_owned r xs o) where
  go : (b : Bool) → cond b (Some x) (find (λ y. y.revision == r) xs) ≡ Some o → (find (λ y. y.revision == r) xs ≡ Some o → is_owned o.list xs ≡ true) → ((x.list == o.list) || is_owned o.list xs) ≡ true
  go true e rest = let same : (x.list == o.list) ≡ true = rw (same_Some x o e) (eq_refl o.list) in rw same refl
  go false e rest = any_rest (x.list == o.list) (is_owned o.list xs) (rest e)

pub found_is_below : (r : ℕ) (owned : List OwnList) (o : OwnList) → find (λ x. x.revision == r) owned ≡ Some o → list_all (λ x. nat_lt x.list 64) owned ≡ true → o.list < 64
found_is_below r [] o h k = absurd (cc)
found_is_below r (x ∷ xs) o h k =
    let both = and_parts (nat_lt x.list 64) (list_all (λ y. nat_lt y.list 64) xs) k in
    go (x.revision == r) h both.0 (λ e. found_is_below r xs o e both.1) where
      go : (b : Bool) → cond b (Some x) (find (λ y. y.revision == r) xs) ≡ Some o → nat_lt x.list 64 ≡ true → (find (λ y. y.revision == r) xs ≡ Some o → o.list < 64) → o.list < 64
      go true e here rest = let low : nat_lt o.list 64 ≡ true = ap (λ (y : OwnList). nat_lt y.list 64) (sym (same_Some x o e)) ∙ here in grind (arith, nat_tests)
      go false e here rest = rest e

-- the list that callers see of a revision is the list of its holder
pub find_shown : (f : Family ℕ) (r : ℕ) (owned : List OwnList) → find (λ l. l.revision == r) (map (shown_at f) owned) ≡ option_map (shown_at f) (find (λ o. o.revision == r) owned)
find_shown f r [] = refl
find_shown f r (x ∷ xs) = go (x.revision == r) (find_shown f r xs) where
  go : (b : Bool) → find (λ l. l.revision == r) (map (shown_at f) xs) ≡ option_map (shown_at f) (find (λ o. o.revision == r) xs)
      → cond b (Some (shown_at f x)) (find (λ l. l.revision == r) (map (shown_at f) xs)) ≡ option_map (shown_at f) (cond b (Some x) (find (λ o. o.revision == r) xs))
  go true rest = refl
  go false rest = rest

pub length_requests : (ps : List (ℕ × ℕ)) → length (map request_at ps) ≡ length ps
length_requests [] = refl
length_requests (p ∷ ps) = ap suc (length_requests ps)

-- the length of what `count` reads
pub count_shown : (f : Family ℕ) (r : ℕ) (o : Option OwnList) (l : ℕ) → option_map (λ (x : OwnList). x.list) o ≡ Some l → length (requests_in (option_map (shown_at f) o)) ≡ length (list_at f l)
count_shown f r None l h = absurd (cc)
count_shown f r (Some x) l h = length_requests (list_at f x.list) ∙ ap (λ (n : ℕ). length (list_at f n)) (same_Some x.list l h)

pub none_shown : (f : Family ℕ) (o : Option OwnList) → option_map (λ (x : OwnList). x.list) o ≡ None → requests_in (option_map (shown_at f) o) ≡ []
none_shown f None h = refl
none_shown f (Some x) h = absurd (cc)

-- a holder found in a slice of the lists is found in the lists
pub holder_now : (r : ℕ) (seen owned : List OwnList) (x : Option ℕ) → seen ≡ owned → option_map (λ (o : OwnList). o.list) (find (λ (o : OwnList). o.revision == r) seen) ≡ x
    → option_map (λ (o : OwnList). o.list) (find (λ (o : OwnList). o.revision == r) owned) ≡ x
holder_now r seen owned x is h = ap (λ (os : List OwnList). option_map (λ (o : OwnList). o.list) (find (λ (o : OwnList). o.revision == r) os)) (sym is) ∙ h

-- a revision that has a list has a holder
pub holder_of : (f : Family ℕ) (o : Option OwnList) → IsSome (option_map (shown_at f) o) → IsSome (option_map (λ (x : OwnList). x.list) o)
holder_of f None h = absurd (cc)
holder_of f (Some x) h = h

-- the holder of the list that was found
pub record Holder (r l : ℕ) (owned : List OwnList) : Type 0 where
  pub own : OwnList
  pub found : find (λ o. o.revision == r) owned ≡ Some own
  pub list_is : own.list ≡ l

pub holder_found : (r l : ℕ) (owned : List OwnList) → option_map (λ (x : OwnList). x.list) (find (λ o. o.revision == r) owned) ≡ Some l → Holder r l owned
holder_found r l owned h = go (find (λ o. o.revision == r) owned) refl h where
  go : (o : Option OwnList) → find (λ o. o.revision == r) owned ≡ o → option_map (λ (x : OwnList). x.list) o ≡ Some l → Holder r l owned
  go None e k = absurd (cc)
  go (Some x) e k = record { own = x; found = e; list_is = same_Some x.list l k }

-- callers see the request at a node
seen_in : (seat : ℕ) (ps : List (ℕ × ℕ)) (x : ℕ) → value_in ps seat ≡ Some x → list_any (λ q. q.seat == seat) (map request_at ps) ≡ true
seen_in seat [] x h = absurd (cc)
seen_in seat (p ∷ ps) x h = go (p.0 == seat) h (seen_in seat ps x) where
  go : (b : Bool) → cond b (Some p.1) (value_in ps seat) ≡ Some x → (value_in ps seat ≡ Some x → list_any (λ q. q.seat == seat) (map request_at ps) ≡ true) → (b || list_any (λ q. q.seat == seat) (map request_at ps)) ≡ true
  go true e rest = refl
  go false e rest = rest e

-- a request that callers see is at a node
in_seen : (seat : ℕ) (ps : List (ℕ × ℕ)) → list_any (λ q. q.seat == seat) (map request_at ps) ≡ true → (x : ℕ) × (value_in ps seat ≡ Some x)
in_seen seat [] h = absurd (cc)
in_seen seat (p ∷ ps) h = go (p.0 == seat) h (in_seen seat ps) where
  go : (b : Bool) → (b || list_any (λ q. q.seat == seat) (map request_at ps)) ≡ true → (list_any (λ q. q.seat == seat) (map request_at ps) ≡ true → (x : ℕ) × (value_in ps seat ≡ Some x)) → (x : ℕ) × (cond b (Some p.1) (value_in ps seat) ≡ Some x)
  go true e rest = (p.1, refl)
  go false e rest = rest e

seen_shown : (f : Family ℕ) (seat l x : ℕ) (owned : List OwnList) → is_owned l owned ≡ true → value_in (list_at f l) seat ≡ Some x → has_request seat (map (shown_at f) owned) ≡ true
seen_shown f seat l x [] h k = absurd (cc)
seen_shown f seat l x (o ∷ rest) h k = go (o.list == l) refl h (λ e. seen_shown f seat l x rest e k) where
  requests : List OpenRequest
  requests = map request_at (list_at f o.list)

  go : (b : Bool) → (o.list == l) ≡ b → (b || is_owned l rest) ≡ true → (is_owned l rest ≡ true → has_request seat (map (shown_at f) rest) ≡ true)
      → (list_any (λ q. q.seat == seat) requests || has_request seat (map (shown_at f) rest)) ≡ true
  go true e h tail =
      let here : list_any (λ q. q.seat == seat) requests ≡ true = seen_in seat (list_at f o.list) x (ap (λ (n : ℕ). value_in (list_at f n) seat) (eq_from o.list l e) ∙ k) in
      rw here refl
  go false e h tail = any_rest (list_any (λ q. q.seat == seat) requests) (has_request seat (map (shown_at f) rest)) (tail h)

-- the node of a seat without a request is free
pub free_node : (owned : List OwnList) (c : ℕ) (f : Family ℕ) (seat : ℕ) → OwnsLists owned c f → has_request seat (map (shown_at f) owned) ≡ false → is_linked f seat ≡ false
free_node owned c f seat held free = go (place_of f seat) refl where
  there : (l x : ℕ) → value_in (list_at f l) seat ≡ Some x → (b : Bool) → is_owned l owned ≡ b → is_linked f seat ≡ false
  there l x at true e = absurd (let seen : has_request seat (map (shown_at f) owned) ≡ true = seen_shown f seat l x owned e at in cc)
  there l x at false e = absurd (let none : value_in (list_at f l) seat ≡ None = ap (λ (ps : List (ℕ × ℕ)). value_in ps seat) (held.rest l e) in cc)

  go : (o : Option (ℕ × ℕ)) → place_of f seat ≡ o → is_linked f seat ≡ false
  go None e = ap is_some e
  go (Some p) e = there p.0 p.1 (held.family.held p.0 seat p.1 e).2 (is_owned p.0 owned) refl

-- the node of a seat with a request is linked
pub linked_node : (owned : List OwnList) (f : Family ℕ) (seat : ℕ) → IsFamily f → has_request seat (map (shown_at f) owned) ≡ true → is_linked f seat ≡ true
linked_node [] f seat ok h = absurd (cc)
linked_node (o ∷ rest) f seat ok h = go (list_any (λ q. q.seat == seat) requests) refl h (linked_node rest f seat ok) where
  requests : List OpenRequest
  requests = map request_at (list_at f o.list)

  go : (b : Bool) → list_any (λ q. q.seat == seat) requests ≡ b → (b || has_request seat (map (shown_at f) rest)) ≡ true → (has_request seat (map (shown_at f) rest) ≡ true → is_linked f seat ≡ true) → is_linked f seat ≡ true
  go true e h tail = let at = in_seen seat (list_at f o.list) e in ap is_some (ok.found o.list seat at.0 at.1)
  go false e h tail = tail h

-- the lists after the list of a revision was dropped
pub shown_kept : (f : Family ℕ) (r : ℕ) (owned : List OwnList) → map (shown_at f) (filter (λ (o : OwnList). not (o.revision == r)) owned) ≡ filter (λ (l : OpenAt). not (l.revision == r)) (map (shown_at f) owned)
shown_kept f r [] = refl
shown_kept f r (o ∷ rest) = go (not (o.revision == r)) (shown_kept f r rest) where
  kept : List OwnList
  kept = filter (λ (x : OwnList). not (x.revision == r)) rest

  go : (b : Bool) → map (shown_at f) kept ≡ filter (λ (l : OpenAt). not (l.revision == r)) (map (shown_at f) rest)
      → map (shown_at f) (cond b (o ∷ kept) kept) ≡ cond b (shown_at f o ∷ filter (λ (l : OpenAt). not (l.revision == r)) (map (shown_at f) rest)) (filter (λ (l : OpenAt). not (l.revision == r)) (map (shown_at f) rest))
  go true h = ap (λ ls. shown_at f o ∷ ls) h
  go false h = h

fresh_kept : (k : OwnList → Bool) (l : ℕ) (owned : List OwnList) → Fresh l (owns owned) → Fresh l (owns (filter k owned))
fresh_kept k l [] h = tt
fresh_kept k l (o ∷ rest) h = go (k o) (fresh_kept k l rest h.1) where
  go : (b : Bool) → Fresh l (owns (filter k rest)) → Fresh l (owns (cond b (o ∷ filter k rest) (filter k rest)))
  go true tail = (h.0, tail)
  go false tail = tail

distinct_kept : (k : OwnList → Bool) (owned : List OwnList) → Distinct (owns owned) → Distinct (owns (filter k owned))
distinct_kept k [] h = tt
distinct_kept k (o ∷ rest) h = go (k o) (distinct_kept k rest h.1) where
  go : (b : Bool) → Distinct (owns (filter k rest)) → Distinct (owns (cond b (o ∷ filter k rest) (filter k rest)))
  go true tail = (fresh_kept k o.list rest h.0, tail)
  go false tail = tail

no_requests : (ps : List (ℕ × ℕ)) → (length (map request_at ps) == 0) ≡ true → ps ≡ []
no_requests [] h = refl
no_requests (p ∷ ps) h = absurd (let some : (suc (length (map request_at ps)) == 0) ≡ true = h in grind (arith, nat_tests))

-- the linked list of a dropped revision is empty
dropped_is_empty : (f : Family ℕ) (r l : ℕ) (owned : List OwnList) → is_owned l owned ≡ true → is_owned l (filter (λ (o : OwnList). not (o.revision == r)) owned) ≡ false
    → is_empty_at r (map (shown_at f) owned) ≡ true → list_at f l ≡ []
dropped_is_empty f r l [] h free none = absurd (cc)
dropped_is_empty f r l (o ∷ rest) h free none =
    let both = and_parts (not (o.revision == r) || (length (map request_at (list_at f o.list)) == 0)) (is_empty_at r (map (shown_at f) rest)) none in
    go (o.list == l) (o.revision == r) refl h free both.0 (λ e k. dropped_is_empty f r l rest e k both.1) where
      kept : List OwnList
      kept = filter (λ (x : OwnList). not (x.revision == r)) rest

      go : (b c : Bool) → (o.list == l) ≡ b → (b || is_owned l rest) ≡ true → is_owned l (cond (not c) (o ∷ kept) kept) ≡ false → (not c || (length (map request_at (list_at f o.list)) == 0)) ≡ true
          → (is_owned l rest ≡ true → is_owned l kept ≡ false → list_at f l ≡ []) → list_at f l ≡ []
      go true true e h free here tail = ap (list_at f) (sym (eq_from o.list l e)) ∙ no_requests (list_at f o.list) here
      go true false e h free here tail = absurd (let both = any_cases (o.list == l) (is_owned l kept) free in cc)
      go false true e h free here tail = tail h free
      go false false e h free here tail = tail h (any_cases (o.list == l) (is_owned l kept) free).1

pub holds_dropped : (owned : List OwnList) (c d : ℕ) (f : Family ℕ) (r : ℕ) → OwnsLists owned c f → c ≤ d → is_empty_at r (map (shown_at f) owned) ≡ true
    → OwnsLists (filter (λ (o : OwnList). not (o.revision == r)) owned) d f
holds_dropped owned c d f r held more none = record {
  room = let room = held.room in omega arith;
  distinct = distinct_kept (λ (o : OwnList). not (o.revision == r)) owned held.distinct;
  below = all_kept (λ (o : OwnList). nat_lt o.list 64) (λ (o : OwnList). not (o.revision == r)) owned held.below;
  rest = λ l free. go l free (is_owned l owned) refl;
  family = held.family;
  nodes = held.nodes;
} where
  go : (l : ℕ) → is_owned l (filter (λ (o : OwnList). not (o.revision == r)) owned) ≡ false → (b : Bool) → is_owned l owned ≡ b → list_at f l ≡ []
  go l free true e = dropped_is_empty f r l owned e free none
  go l free false e = held.rest l e

-- the lists after a request was linked
same_shown : (f new : Family ℕ) (l : ℕ) (owned : List OwnList) → Fresh l (owns owned) → ((k : ℕ) → k ≢ l → list_at new k ≡ list_at f k) → map (shown_at new) owned ≡ map (shown_at f) owned
same_shown f new l [] apart same = refl
same_shown f new l (o ∷ rest) apart same =
    ap (λ (ps : List (ℕ × ℕ)). record { revision = o.revision; requests = map request_at ps } ∷ map (shown_at new) rest) (same o.list apart.0)
    ∙ ap (λ ls. shown_at f o ∷ ls) (same_shown f new l rest apart.1 same)

found_apart : (r l : ℕ) (owned : List OwnList) (o : OwnList) → Fresh l (owns owned) → find (λ x. x.revision == r) owned ≡ Some o → o.list ≢ l
found_apart r l [] o apart h e = absurd (cc)
found_apart r l (x ∷ xs) o apart h e = go (x.revision == r) h (λ k. found_apart r l xs o apart.1 k e) where
  go : (b : Bool) → cond b (Some x) (find (λ y. y.revision == r) xs) ≡ Some o → (find (λ y. y.revision == r) xs ≡ Some o → ⊥) → ⊥
  go true k rest = apart.0 (ap (λ (y : OwnList). y.list) (same_Some x o k) ∙ e)
  go false k rest = rest k

map_end : (ps : List (ℕ × ℕ)) (p : ℕ × ℕ) → map request_at (ps ++ p ∷ []) ≡ map request_at ps ++ request_at p ∷ []
map_end [] p = refl
map_end (x ∷ xs) p = ap (λ qs. request_at x ∷ qs) (map_end xs p)

pub shown_changed : (f new : Family ℕ) (r : ℕ) (owned : List OwnList) (o : OwnList) (p : ℕ × ℕ) → Distinct (owns owned) → find (λ x. x.revision == r) owned ≡ Some o
    → list_at new o.list ≡ list_at f o.list ++ p ∷ [] → ((k : ℕ) → k ≢ o.list → list_at new k ≡ list_at f k)
    → map (shown_at new) owned ≡ changed r (λ requests. requests ++ request_at p ∷ []) (map (shown_at f) owned)
shown_changed f new r [] o p distinct h here same = absurd (cc)
shown_changed f new r (x ∷ xs) o p distinct h here same = go (x.revision == r) h (λ k. shown_changed f new r xs o p distinct.1 k here same) where
  go : (b : Bool) → cond b (Some x) (find (λ y. y.revision == r) xs) ≡ Some o
      → (find (λ y. y.revision == r) xs ≡ Some o → map (shown_at new) xs ≡ changed r (λ requests. requests ++ request_at p ∷ []) (map (shown_at f) xs))
      → map (shown_at new) (x ∷ xs)
      ≡ cond b (record (shown_at f x) { requests = map request_at (list_at f x.list) ++ request_at p ∷ [] } ∷ map (shown_at f) xs)
      (shown_at f x ∷ changed r (λ requests. requests ++ request_at p ∷ []) (map (shown_at f) xs))
  go true k rest =
      let is : o.list ≡ x.list = sym (ap (λ (y : OwnList). y.list) (same_Some x o k)) in
      ap (λ (ps : List (ℕ × ℕ)). record { revision = x.revision; requests = map request_at ps } ∷ map (shown_at new) xs) (ap (list_at new) (sym is) ∙ here ∙ ap (λ (n : ℕ). list_at f n ++ p ∷ []) is)
      ∙ ap (λ qs. record { revision = x.revision; requests = qs } ∷ map (shown_at new) xs) (map_end (list_at f x.list) p)
      ∙ ap (λ ls. record { revision = x.revision; requests = map request_at (list_at f x.list) ++ request_at p ∷ [] } ∷ ls) (same_shown f new o.list xs (subst (λ (n : ℕ). Fresh n (owns xs)) (sym is) distinct.0) same)
  go false k rest =
      ap (λ (ps : List (ℕ × ℕ)). record { revision = x.revision; requests = map request_at ps } ∷ map (shown_at new) xs) (same x.list (λ e. found_apart r x.list xs o distinct.0 k (sym e)))
      ∙ ap (λ ls. shown_at f x ∷ ls) (rest k)

pub holds_linked : (owned : List OwnList) (c : ℕ) (f new : Family ℕ) (l : ℕ) → OwnsLists owned c f → is_owned l owned ≡ true → ((k : ℕ) → k ≢ l → list_at new k ≡ list_at f k)
    → new.nodes ≡ f.nodes → IsFamily new → OwnsLists owned c new
holds_linked owned c f new l held mine same nodes ok = record {
  room = held.room;
  distinct = held.distinct;
  below = held.below;
  rest = λ k free. same k (λ e. absurd (let both : is_owned l owned ≡ false = ap (λ (n : ℕ). is_owned n owned) (sym e) ∙ free in cc)) ∙ held.rest k free;
  family = ok;
  nodes = nodes ∙ held.nodes;
}

-- the lists after a request was unlinked
requests_without : (seat : ℕ) (ps : List (ℕ × ℕ)) → map request_at (without_node seat ps) ≡ filter (λ q. not (q.seat == seat)) (map request_at ps)
requests_without seat [] = refl
requests_without seat (p ∷ ps) = go (not (p.0 == seat)) (requests_without seat ps) where
  go : (b : Bool) → map request_at (without_node seat ps) ≡ filter (λ q. not (q.seat == seat)) (map request_at ps)
      → map request_at (cond b (p ∷ without_node seat ps) (without_node seat ps)) ≡ cond b (request_at p ∷ filter (λ q. not (q.seat == seat)) (map request_at ps)) (filter (λ q. not (q.seat == seat)) (map request_at ps))
  go true h = ap (λ qs. request_at p ∷ qs) h
  go false h = h

pub shown_without : (f new : Family ℕ) (seat : ℕ) (owned : List OwnList) → ((l : ℕ) → list_at new l ≡ without_node seat (list_at f l)) → map (shown_at new) owned ≡ without_seat seat (map (shown_at f) owned)
shown_without f new seat [] left = refl
shown_without f new seat (o ∷ rest) left =
    ap (λ qs. record { revision = o.revision; requests = qs } ∷ map (shown_at new) rest) (ap (map request_at) (left o.list) ∙ requests_without seat (list_at f o.list))
    ∙ ap (λ ls. record { revision = o.revision; requests = filter (λ q. not (q.seat == seat)) (map request_at (list_at f o.list)) } ∷ ls) (shown_without f new seat rest left)

pub holds_unlinked : (owned : List OwnList) (c : ℕ) (f new : Family ℕ) (seat : ℕ) → OwnsLists owned c f → ((l : ℕ) → list_at new l ≡ without_node seat (list_at f l))
    → new.nodes ≡ f.nodes → IsFamily new → OwnsLists owned c new
holds_unlinked owned c f new seat held left nodes ok = record {
  room = held.room;
  distinct = held.distinct;
  below = held.below;
  rest = λ l free. left l ∙ ap (without_node seat) (held.rest l free);
  family = ok;
  nodes = nodes ∙ held.nodes;
}

-- if revisions use each of n linked lists, there are at least n revisions
fewer : (l : ℕ) (owned : List OwnList) → is_owned l owned ≡ true → length (filter (λ (o : OwnList). not (o.list == l)) owned) < length owned
fewer l [] h = absurd (cc)
fewer l (o ∷ rest) h = go (o.list == l) h (fewer l rest) where
  kept : List OwnList
  kept = filter (λ (x : OwnList). not (x.list == l)) rest

  no_more : length kept ≤ length rest
  no_more = omega (arith, length-filter_both (λ (x : OwnList). not (x.list == l)) (λ (x : OwnList). not (not (x.list == l))) (λ x. refl) rest)

  go : (b : Bool) → (b || is_owned l rest) ≡ true → (is_owned l rest ≡ true → length kept < length rest) → length (cond (not b) (o ∷ kept) kept) < length (o ∷ rest)
  go true e tail = omega (arith, no_more)
  go false e tail = omega (arith, tail e)

still_owned : (l m : ℕ) (owned : List OwnList) → l < m → is_owned l owned ≡ true → is_owned l (filter (λ (o : OwnList). not (o.list == m)) owned) ≡ true
still_owned l m [] low h = absurd (cc)
still_owned l m (o ∷ rest) low h = go (o.list == l) (o.list == m) refl refl h (still_owned l m rest low) where
  kept : List OwnList
  kept = filter (λ (x : OwnList). not (x.list == m)) rest

  go : (b c : Bool) → (o.list == l) ≡ b → (o.list == m) ≡ c → (b || is_owned l rest) ≡ true → (is_owned l rest ≡ true → is_owned l kept ≡ true) → is_owned l (cond (not c) (o ∷ kept) kept) ≡ true
  go true true e k h tail = absurd (grind (arith, nat_tests))
  go true false e k h tail = rw e refl
  go false true e k h tail = tail h
  go false false e k h tail = rw (e, tail h) refl

pub all_owned : (n : ℕ) (owned : List OwnList) → ((l : ℕ) → l < n → is_owned l owned ≡ true) → n ≤ length owned
all_owned zero owned h = omega arith
all_owned (suc m) owned h =
    let kept = filter (λ (o : OwnList). not (o.list == m)) owned in
    let below : m ≤ length kept = all_owned m kept (λ l low. still_owned l m owned low (h l (omega (arith, low)))) in
    omega (arith, below, fewer m owned (h m (omega arith)))
