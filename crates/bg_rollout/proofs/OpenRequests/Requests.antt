-- Lists of open requests: one more at the end, and one fewer in the middle.
use Rattle.std.proofs.Common.{◌≡◌, ℕ, ◌+◌, ◌<◌, Bool, true, false, not, cond, ◌&&◌, ◌==◌, List, [], ◌∷◌, ◌++◌, length, filter, find, Option, Some, None, refl, sym, ap, ◌∙◌, arith}
use Rattle.std.specs.List.{list_all}
use Rattle.std.proofs.lemmas.Bool.Decides.{nat_tests}
use Rattle.std.proofs.lemmas.Option.{same_Some}
use Rattle.bg_history.specs.Requests.{Request}
use Rattle.bg_rollout.specs.Invariant.{are_apart, Differ, has_number}

-- both parts of a test that passed
pub and_parts : (a b : Bool) → (a && b) ≡ true → (a ≡ true) × (b ≡ true)
and_parts true b h = (refl, h)
and_parts false b h = absurd (cc)

pub and_both : (a b : Bool) → a ≡ true → b ≡ true → (a && b) ≡ true
and_both a b h k = rw (h, k) refl

-- if all elements pass a test, all kept ones pass it
pub all_kept : {X : Type 0} (p k : X → Bool) (xs : List X) → list_all p xs ≡ true → list_all p (filter k xs) ≡ true
all_kept p k [] h = refl
all_kept p k (x ∷ xs) h = let both = and_parts (p x) (list_all p xs) h in go (k x) both.0 (all_kept p k xs both.1) where
  go : (b : Bool) → p x ≡ true → list_all p (filter k xs) ≡ true → list_all p (cond b (x ∷ filter k xs) (filter k xs)) ≡ true
  go true here rest = and_both (p x) (list_all p (filter k xs)) here rest
  go false here rest = rest

pub all_appended : {X : Type 0} (p : X → Bool) (xs : List X) (y : X) → list_all p xs ≡ true → p y ≡ true → list_all p (xs ++ y ∷ []) ≡ true
all_appended p [] y h k = rw k refl
all_appended p (x ∷ xs) y h k = let both = and_parts (p x) (list_all p xs) h in and_both (p x) (list_all p (xs ++ y ∷ [])) both.0 (all_appended p xs y both.1 k)

-- if all elements pass a test, all pass a weaker one
pub all_weaker : {X : Type 0} (p q : X → Bool) → ((x : X) → p x ≡ true → q x ≡ true) → (xs : List X) → list_all p xs ≡ true → list_all q xs ≡ true
all_weaker p q f [] h = refl
all_weaker p q f (x ∷ xs) h = let both = and_parts (p x) (list_all p xs) h in and_both (q x) (list_all q xs) (f x both.0) (all_weaker p q f xs both.1)

-- if all elements pass the test, a filter drops none
pub all_stay : {X : Type 0} (k : X → Bool) (xs : List X) → list_all k xs ≡ true → filter k xs ≡ xs
all_stay k [] h = refl
all_stay k (x ∷ xs) h = let both = and_parts (k x) (list_all k xs) h in rw both.0 (ap (λ ys. x ∷ ys) (all_stay k xs both.1))

-- an element that is found passes a test that all pass
pub found_passes : {X : Type 0} (p t : X → Bool) (xs : List X) (y : X) → find p xs ≡ Some y → list_all t xs ≡ true → t y ≡ true
found_passes p t [] y h k = absurd (cc)
found_passes p t (x ∷ xs) y h k = let both = and_parts (t x) (list_all t xs) k in go t x y (p x) (find p xs) h both.0 (λ h. found_passes p t xs y h both.1) where
  go : {X : Type 0} (t : X → Bool) (x y : X) (b : Bool) (later : Option X) → cond b (Some x) later ≡ Some y → t x ≡ true → (later ≡ Some y → t y ≡ true) → t y ≡ true
  go t x y true later h here rest = sym (ap t (same_Some x y h)) ∙ here
  go t x y false later h here rest = rest h

pub differ-append : (qs : List Request) (x : Request) → Differ qs → list_all (λ q. are_apart q x) qs ≡ true → Differ (qs ++ x ∷ [])
differ-append [] x d h = (refl, tt)
differ-append (q ∷ qs) x d h =
    let both = and_parts (are_apart q x) (list_all (λ q. are_apart q x) qs) h in
    (all_appended (are_apart q) qs x d.0 both.0, differ-append qs x d.1 both.1)

pub differ-filter : (k : Request → Bool) (qs : List Request) → Differ qs → Differ (filter k qs)
differ-filter k [] d = tt
differ-filter k (q ∷ qs) d = go (k q) (all_kept (are_apart q) k qs d.0) (differ-filter k qs d.1) where
  go : (b : Bool) → list_all (are_apart q) (filter k qs) ≡ true → Differ (filter k qs) → Differ (cond b (q ∷ filter k qs) (filter k qs))
  go true here rest = (here, rest)
  go false here rest = rest

pub eq_sym : (m n : ℕ) → (m == n) ≡ (n == m)
eq_sym m n = grind (arith, nat_tests)

pub eq_refl : (n : ℕ) → (n == n) ≡ true
eq_refl n = grind (arith, nat_tests)

pub eq_from : (m n : ℕ) → (m == n) ≡ true → m ≡ n
eq_from m n h = grind (arith, nat_tests)

apart_by_number : (q p : Request) → are_apart q p ≡ true → not (p.number == q.number) ≡ true
apart_by_number q p h = ap not (eq_sym p.number q.number) ∙ (and_parts (not (q.seat == p.seat)) (not (q.number == p.number)) h).1

apart_by_seat : (q p : Request) → are_apart q p ≡ true → not (p.seat == q.seat) ≡ true
apart_by_seat q p h = ap not (eq_sym p.seat q.seat) ∙ (and_parts (not (q.seat == p.seat)) (not (q.number == p.number)) h).0

rest_by_number : (q : Request) (qs : List Request) → list_all (are_apart q) qs ≡ true → filter (λ p. not (p.number == q.number)) qs ≡ qs
rest_by_number q qs h = all_stay (λ p. not (p.number == q.number)) qs (all_weaker (are_apart q) (λ p. not (p.number == q.number)) (apart_by_number q) qs h)

rest_by_seat : (q : Request) (qs : List Request) → list_all (are_apart q) qs ≡ true → filter (λ p. not (p.seat == q.seat)) qs ≡ qs
rest_by_seat q qs h = all_stay (λ p. not (p.seat == q.seat)) qs (all_weaker (are_apart q) (λ p. not (p.seat == q.seat)) (apart_by_seat q) qs h)

found_at_head : (seat : ℕ) (q x : Request) (qs : List Request) → list_all (are_apart q) qs ≡ true → seat ≡ q.seat → x ≡ q
    → filter (λ p. not (p.number == x.number)) (q ∷ qs) ≡ filter (λ p. not (p.seat == seat)) qs
found_at_head seat q x qs apart s e =
    ap (λ (y : Request). filter (λ p. not (p.number == y.number)) (q ∷ qs)) e
    ∙ ap (λ b. cond (not b) (q ∷ filter (λ p. not (p.number == q.number)) qs) (filter (λ p. not (p.number == q.number)) qs)) (eq_refl q.number)
    ∙ rest_by_number q qs apart
    ∙ sym (rest_by_seat q qs apart)
    ∙ ap (λ (n : ℕ). filter (λ p. not (p.seat == n)) qs) (sym s)

-- if no two requests share a seat or a number, removing one by its number is removing it by its seat
pub by_seat : (seat : ℕ) (qs : List Request) (x : Request) → Differ qs → find (λ q. q.seat == seat) qs ≡ Some x
    → filter (λ q. not (q.number == x.number)) qs ≡ filter (λ q. not (q.seat == seat)) qs
by_seat seat [] x d h = absurd (cc)
by_seat seat (q ∷ qs) x d h = go (by_seat seat qs x d.1) (q.seat == seat) refl h where
  go : (find (λ p. p.seat == seat) qs ≡ Some x → filter (λ p. not (p.number == x.number)) qs ≡ filter (λ p. not (p.seat == seat)) qs)
      → (b : Bool) → (q.seat == seat) ≡ b → cond b (Some q) (find (λ p. p.seat == seat) qs) ≡ Some x
      → filter (λ p. not (p.number == x.number)) (q ∷ qs) ≡ cond (not b) (q ∷ filter (λ p. not (p.seat == seat)) qs) (filter (λ p. not (p.seat == seat)) qs)
  go rest true e h = found_at_head seat q x qs d.0 (sym (eq_from q.seat seat e)) (sym (same_Some q x h))
  go rest false e h =
      ap (λ b. cond b (q ∷ filter (λ p. not (p.number == x.number)) qs) (filter (λ p. not (p.number == x.number)) qs))
      ((and_parts (not (q.seat == x.seat)) (not (q.number == x.number)) (found_passes (λ p. p.seat == seat) (are_apart q) qs x h d.0)).1)
      ∙ ap (λ ps. q ∷ ps) (rest h)

-- the seat whose request was removed holds none
pub finds_none_at : (seat : ℕ) (qs : List Request) → find (λ q. q.seat == seat) (filter (λ q. not (q.seat == seat)) qs) ≡ None
finds_none_at seat [] = refl
finds_none_at seat (q ∷ qs) = go (finds_none_at seat qs) (q.seat == seat) refl where
  go : find (λ p. p.seat == seat) (filter (λ p. not (p.seat == seat)) qs) ≡ None → (b : Bool) → (q.seat == seat) ≡ b
      → find (λ p. p.seat == seat) (cond (not b) (q ∷ filter (λ p. not (p.seat == seat)) qs) (filter (λ p. not (p.seat == seat)) qs)) ≡ None
  go rest true e = rest
  go rest false e = ap (λ b. cond b (Some q) (find (λ p. p.seat == seat) (filter (λ p. not (p.seat == seat)) qs))) e ∙ rest

-- each other seat holds the same as before
pub finds_same_at : (seat i : ℕ) (qs : List Request) → (i == seat) ≡ false
    → find (λ q. q.seat == i) (filter (λ q. not (q.seat == seat)) qs) ≡ find (λ q. q.seat == i) qs
finds_same_at seat i [] other = refl
finds_same_at seat i (q ∷ qs) other = go (finds_same_at seat i qs other) (q.seat == seat) (q.seat == i) refl refl where
  go : find (λ p. p.seat == i) (filter (λ p. not (p.seat == seat)) qs) ≡ find (λ p. p.seat == i) qs → (b c : Bool) → (q.seat == seat) ≡ b → (q.seat == i) ≡ c
      → find (λ p. p.seat == i) (cond (not b) (q ∷ filter (λ p. not (p.seat == seat)) qs) (filter (λ p. not (p.seat == seat)) qs)) ≡ cond c (Some q) (find (λ p. p.seat == i) qs)
  go rest true true e f = absurd (grind (arith, nat_tests))
  go rest true false e f = rest
  go rest false true e f = ap (λ b. cond b (Some q) (find (λ p. p.seat == i) (filter (λ p. not (p.seat == seat)) qs))) f
  go rest false false e f = ap (λ b. cond b (Some q) (find (λ p. p.seat == i) (filter (λ p. not (p.seat == seat)) qs))) f ∙ rest

-- the list has one request fewer
pub one_less : (seat : ℕ) (qs : List Request) (x : Request) → Differ qs → find (λ q. q.seat == seat) qs ≡ Some x
    → length (filter (λ q. not (q.seat == seat)) qs) + 1 ≡ length qs
one_less seat [] x d h = absurd (cc)
one_less seat (q ∷ qs) x d h = go (one_less seat qs x d.1) (q.seat == seat) refl h where
  go : (find (λ p. p.seat == seat) qs ≡ Some x → length (filter (λ p. not (p.seat == seat)) qs) + 1 ≡ length qs) → (b : Bool) → (q.seat == seat) ≡ b → cond b (Some q) (find (λ p. p.seat == seat) qs) ≡ Some x
      → length (cond (not b) (q ∷ filter (λ p. not (p.seat == seat)) qs) (filter (λ p. not (p.seat == seat)) qs)) + 1 ≡ length (q ∷ qs)
  go rest true e h = omega (arith, ap (λ (n : ℕ). length (filter (λ p. not (p.seat == n)) qs)) (sym (eq_from q.seat seat e)), ap length (rest_by_seat q qs d.0))
  go rest false e h = omega (arith, rest h)

-- a new request differs from all others: its seat holds none, and its number is above all others
new_is_apart : (seat number : ℕ) (q x : Request) → x.seat ≡ seat → number < x.number → (q.seat == seat) ≡ false → has_number number q ≡ true → are_apart q x ≡ true
new_is_apart seat number q x s n other here = grind (arith, nat_tests)

pub all_apart : (seat number : ℕ) (qs : List Request) (x : Request) → x.seat ≡ seat → number < x.number → find (λ q. q.seat == seat) qs ≡ None
    → list_all (has_number number) qs ≡ true → list_all (λ q. are_apart q x) qs ≡ true
all_apart seat number [] x s n h k = refl
all_apart seat number (q ∷ qs) x s n h k =
    let both = and_parts (has_number number q) (list_all (has_number number) qs) k in
    go both.0 (λ h. all_apart seat number qs x s n h both.1) (q.seat == seat) refl h where
      go : has_number number q ≡ true → (find (λ p. p.seat == seat) qs ≡ None → list_all (λ p. are_apart p x) qs ≡ true)
          → (b : Bool) → (q.seat == seat) ≡ b → cond b (Some q) (find (λ p. p.seat == seat) qs) ≡ None → list_all (λ p. are_apart p x) (q ∷ qs) ≡ true
      go here rest true e h = absurd (cc)
      go here rest false e h = and_both (are_apart q x) (list_all (λ p. are_apart p x) qs) (new_is_apart seat number q x s n e here) (rest h)
