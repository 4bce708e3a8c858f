-- The requests that left are closed: none of them is open.
use Rattle.std.proofs.Common.{◌≡◌, ℕ, Bool, true, false, not, cond, ◌==◌, ◌||◌, nat_lt, nat_le, List, [], ◌∷◌, ◌++◌, filter, is_none, refl, arith, ap, ◌∙◌}
use Rattle.std.specs.List.{list_all}
use Rattle.std.proofs.lemmas.Bool.Decides.{nat_tests}
use Rattle.bg_strategy.specs.declared.strategy.Strategy.{Strategy}
use Rattle.bg_revisions.specs.declared.revision.Service.{Service}
use Rattle.bg_history.specs.declared.entry.Entry.{Entry}
use Rattle.bg_history.specs.declared.entry.Entry.TheVariants.{Enter, Leave}
use Rattle.bg_history.specs.Kept.{Opening}
use Rattle.bg_history.specs.Sizes.{available}
use Rattle.bg_history.specs.Requests.{Request, open_requests, held_by, request_numbers}
use Rattle.bg_history.specs.Allowed.{selection, has_value, port_of, may_enter, is_allowed}
use Rattle.bg_history.specs.Steps.{all_allowed}
use Rattle.bg_history.specs.Compacted.{without, compacted, left_numbers, is_among}
use Rattle.bg_history_laws.proofs.Compacted.Without.{without-open}
use Rattle.bg_history_laws.proofs.Compacted.Thin.{thin-open, thin-left}
use Rattle.bg_history_laws.proofs.Tests.{and_parts, and_both}
use Rattle.bg_history_laws.proofs.Lists.{all_weaker}

pub all_kept : {X : Type 0} (p k : X → Bool) (xs : List X) → list_all p xs ≡ true → list_all p (filter k xs) ≡ true
all_kept p k [] h = refl
all_kept p k (x ∷ xs) h = let both = and_parts (p x) (list_all p xs) h in go (k x) both.0 (all_kept p k xs both.1) where
  go : (b : Bool) → p x ≡ true → list_all p (filter k xs) ≡ true → list_all p (cond b (x ∷ filter k xs) (filter k xs)) ≡ true
  go true here rest = and_both (p x) (list_all p (filter k xs)) here rest
  go false here rest = rest

pub all_appended : {X : Type 0} (p : X → Bool) (xs : List X) (y : X) → list_all p xs ≡ true → p y ≡ true → list_all p (xs ++ y ∷ []) ≡ true
all_appended p [] y h k = rw k refl
all_appended p (x ∷ xs) y h k = let both = and_parts (p x) (list_all p xs) h in and_both (p x) (list_all p (xs ++ y ∷ [])) both.0 (all_appended p xs y both.1 k)

pub all_stay : {X : Type 0} (k : X → Bool) (xs : List X) → list_all k xs ≡ true → filter k xs ≡ xs
all_stay k [] h = refl
all_stay k (x ∷ xs) h = let both = and_parts (k x) (list_all k xs) h in rw both.0 (ap (λ ys. x ∷ ys) (all_stay k xs both.1))

-- the number of each open request is a number in the entries
pub open-numbers : (p : ℕ → Bool) (past : List Entry) → list_all p (request_numbers past) ≡ true → list_all (λ q. p q.number) (open_requests past) ≡ true
open-numbers p [] h = refl
open-numbers p (Enter seat service number r port ∷ before) h =
    let two = and_parts (p number) (list_all p (request_numbers before)) h in
    all_appended (λ q. p q.number) (open_requests before) (record { seat = seat; number = number; revision = r; port = port }) (open-numbers p before two.1) two.0
open-numbers p (Leave seat number r ∷ before) h =
    let two = and_parts (p number) (list_all p (request_numbers before)) h in
    all_kept (λ q. p q.number) (λ q. not (q.number == number)) (open_requests before) (open-numbers p before two.1)
open-numbers p (e ∷ before) h = open-numbers p before h

-- the number of each request that left is a number in the entries
pub left-numbers : (p : ℕ → Bool) (past : List Entry) → list_all p (request_numbers past) ≡ true → list_all p (left_numbers past) ≡ true
left-numbers p [] h = refl
left-numbers p (Enter seat service number r port ∷ before) h = left-numbers p before (and_parts (p number) (list_all p (request_numbers before)) h).1
left-numbers p (Leave seat number r ∷ before) h =
    let two = and_parts (p number) (list_all p (request_numbers before)) h in
    and_both (p number) (list_all p (left_numbers before)) two.0 (left-numbers p before two.1)
left-numbers p (e ∷ before) h = left-numbers p before h

-- a number above all of them isn't among them
pub above-none : (n : ℕ) (xs : List ℕ) → list_all (λ k. nat_lt k n) xs ≡ true → is_among xs n ≡ false
above-none n [] h = refl
above-none n (x ∷ xs) h =
    let two = and_parts (nat_lt x n) (list_all (λ k. nat_lt k n) xs) h in
    let lt : nat_lt x n ≡ true = two.0 in
    let other : (x == n) ≡ false = grind (arith, nat_tests) in
    rw other (above-none n xs two.1)

-- what an allowed Enter says of the past before it
pub record Entering (s : Strategy) (o : Opening) (seat number : ℕ) (before : List Entry) : Type 0 where
  pub seat_is : nat_lt seat o.seats ≡ true
  pub none : is_none (held_by seat before) ≡ true
  pub above : list_all (λ n. nat_lt n number) (request_numbers before) ≡ true

pub entering : (s : Strategy) (o : Opening) (seat : ℕ) (v : Service) (number r port : ℕ) (before : List Entry) → may_enter s o seat v number r port before ≡ true
    → Entering s o seat number before
entering s o seat v number r port before k =
    let five = and_parts _ (has_value port (port_of o r number before)) k in
    let four = and_parts _ (list_all (λ n. nat_lt n number) (request_numbers before)) five.0 in
    let three = and_parts _ (nat_le 1 (available r before)) four.0 in
    let two = and_parts _ (has_value r (selection s v before)) three.0 in
    let one = and_parts (nat_lt seat o.seats) (is_none (held_by seat before)) two.0 in
    record { seat_is = one.0; none = one.1; above = four.1 }

-- no open request is among the requests that left
pub open-unclosed : (s : Strategy) (o : Opening) (past : List Entry) → all_allowed s o past ≡ true → list_all (λ q. not (is_among (left_numbers past) q.number)) (open_requests past) ≡ true
open-unclosed s o [] h = refl
open-unclosed s o (Enter seat service number r port ∷ before) h =
    let two = and_parts (is_allowed s o (Enter seat service number r port) before) (all_allowed s o before) h in
    let e = entering s o seat service number r port before two.0 in
    all_appended (λ q. not (is_among (left_numbers before) q.number)) (open_requests before) (record { seat = seat; number = number; revision = r; port = port })
    (open-unclosed s o before two.1)
    (ap not (above-none number (left_numbers before) (left-numbers (λ n. nat_lt n number) before e.above)))
open-unclosed s o (Leave seat number r ∷ before) h =
    let two = and_parts (is_allowed s o (Leave seat number r) before) (all_allowed s o before) h in
    still (open_requests before) (open-unclosed s o before two.1) where
      still : (xs : List Request) → list_all (λ q. not (is_among (left_numbers before) q.number)) xs ≡ true
          → list_all (λ q. not ((number == q.number) || is_among (left_numbers before) q.number)) (filter (λ q. not (q.number == number)) xs) ≡ true
      still [] h = refl
      still (x ∷ xs) h =
          let two = and_parts (not (is_among (left_numbers before) x.number)) (list_all (λ q. not (is_among (left_numbers before) q.number)) xs) h in
          go (x.number == number) refl two.0 (still xs two.1) where
            go : (b : Bool) → (x.number == number) ≡ b → not (is_among (left_numbers before) x.number) ≡ true
                → list_all (λ q. not ((number == q.number) || is_among (left_numbers before) q.number)) (filter (λ q. not (q.number == number)) xs) ≡ true
                → list_all (λ q. not ((number == q.number) || is_among (left_numbers before) q.number)) (cond (not b) (x ∷ filter (λ q. not (q.number == number)) xs) (filter (λ q. not (q.number == number)) xs)) ≡ true
            go true is here rest = rest
            go false is here rest =
                let other : (number == x.number) ≡ false = grind (arith, nat_tests) in
                rw (other, here) rest
open-unclosed s o (e ∷ before) h = open-unclosed s o before (and_parts (is_allowed s o e before) (all_allowed s o before) h).1

-- so compaction keeps the open requests
pub compacted-open : (s : Strategy) (o : Opening) (past : List Entry) → all_allowed s o past ≡ true → open_requests (compacted past) ≡ open_requests past
compacted-open s o past h =
    thin-open (without (is_among (left_numbers past)) past)
    ∙ without-open (is_among (left_numbers past)) past
    ∙ all_stay (λ q. not (is_among (left_numbers past) q.number)) (open_requests past) (open-unclosed s o past h)

-- without the entries of the requests that left, there is no Leave
pub none-left : (gone : ℕ → Bool) (past : List Entry) → list_all gone (left_numbers past) ≡ true → left_numbers (without gone past) ≡ []
none-left gone [] h = refl
none-left gone (Enter seat service number r port ∷ before) h = go (gone number) (none-left gone before h) where
  go : (b : Bool) → left_numbers (without gone before) ≡ [] → left_numbers (cond (not b) (Enter seat service number r port ∷ without gone before) (without gone before)) ≡ []
  go true rest = rest
  go false rest = rest
none-left gone (Leave seat number r ∷ before) h =
    let two = and_parts (gone number) (list_all gone (left_numbers before)) h in
    rw two.0 (none-left gone before two.1)
none-left gone (e ∷ before) h = none-left gone before h

among-itself : (n : ℕ) → (n == n) ≡ true
among-itself n = grind (arith, nat_tests)

pub all-among : (xs : List ℕ) → list_all (is_among xs) xs ≡ true
all-among [] = refl
all-among (x ∷ xs) = and_both ((x == x) || is_among xs x) (list_all (is_among (x ∷ xs)) xs) (rw (among-itself x) refl)
    (all_weaker (is_among xs) (is_among (x ∷ xs)) (λ n h. or-right (x == n) (is_among xs n) h) xs (all-among xs)) where
      or-right : (a b : Bool) → b ≡ true → a || b ≡ true
      or-right true b h = refl
      or-right false b h = h

pub compacted-left : (past : List Entry) → left_numbers (compacted past) ≡ []
compacted-left past = thin-left (without (is_among (left_numbers past)) past) ∙ none-left (is_among (left_numbers past)) past (all-among (left_numbers past))
