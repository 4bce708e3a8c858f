-- The lists of open requests after a deploy.
use Rattle.std.proofs.Common.{◌≡◌, ◌<◌, ◌+◌, ℕ, Bool, true, false, cond, ◌==◌, ◌||◌, nat_lt, List, [], ◌∷◌, ◌++◌, map, filter, Some, refl, ap, ◌∙◌, arith}
use Rattle.std.specs.List.{list_any}
use Rattle.std.proofs.lemmas.Bool.Decides.{nat_tests}
use Rattle.bg_strategy.specs.declared.strategy.Strategy.{Strategy}
use Rattle.bg_history.specs.declared.entry.Entry.{Entry}
use Rattle.bg_history.specs.declared.entry.Entry.TheVariants.{Deploy}
use Rattle.bg_history.specs.Kept.{Opening}
use Rattle.bg_history.specs.Sizes.{AllAbove, Ascends, put, existing, last_number, desired, is_scaled}
use Rattle.bg_history.specs.Deadlines.{exists_in}
use Rattle.bg_history.specs.Requests.{Request, open_requests}
use Rattle.bg_history.specs.Templates.{template, is_named, namesake}
use Rattle.bg_history_laws.specs.Reachable.{Reachable}
use Rattle.bg_rollout.specs.declared.request_lists.OpenRequest.{OpenRequest}
use Rattle.bg_rollout.specs.PastState.{listed, requests_at, lists_of}
use Rattle.bg_rollout.proofs.OpenRequests.Requests.{eq_from, eq_refl}
use Rattle.bg_rollout.proofs.Settlements.Outcomes.{found_holds}
use Rattle.bg_rollout.proofs.OpenRequests.Lists.{at}

-- the namesake of a name exists
pub namesake_exists : (o : Opening) (name : List ℕ) (past : List Entry) (r : ℕ) → namesake o name past ≡ Some r → exists_in r past ≡ true
namesake_exists o name past r h = (found_holds (λ q. is_named name (template o q past)) r (existing past) h).1

-- putting a number of the list into it again changes nothing
above_all : (low : ℕ) (r : ℕ) (xs : List ℕ) → AllAbove low xs → list_any (λ q. q == r) xs ≡ true → low < r
above_all low r [] above h = absurd (cc)
above_all low r (x ∷ xs) above h = go (x == r) refl h (above_all low r xs above.1) where
  go : (t : Bool) → (x == r) ≡ t → (t || list_any (λ q. q == r) xs) ≡ true → (list_any (λ q. q == r) xs ≡ true → low < r) → low < r
  go true e h rest = let is : x ≡ r = eq_from x r e in rw (← is) above.0
  go false e h rest = rest h

put_there : (r : ℕ) (xs : List ℕ) → Ascends xs → list_any (λ q. q == r) xs ≡ true → put r xs ≡ xs
put_there r [] ascends h = absurd (cc)
put_there r (x ∷ xs) ascends h = go (r == x) (nat_lt r x) refl refl (put_there r xs ascends.1) where
  rest_has : (t : Bool) → t ≡ false → (t || list_any (λ q. q == r) xs) ≡ true → list_any (λ q. q == r) xs ≡ true
  rest_has true e k = absurd (cc)
  rest_has false e k = k

  later : (r == x) ≡ false → list_any (λ q. q == r) xs ≡ true
  later other = rest_has (x == r) (let turned : (x == r) ≡ false = grind (arith, nat_tests) in turned) h

  go : (t u : Bool) → (r == x) ≡ t → nat_lt r x ≡ u → (list_any (λ q. q == r) xs ≡ true → put r xs ≡ xs) → cond t (x ∷ xs) (cond u (r ∷ x ∷ xs) (x ∷ put r xs)) ≡ x ∷ xs
  go true u e f rest = refl
  go false true e f rest = let above : x < r = above_all x r xs ascends.0 (later e) in absurd (grind (arith, nat_tests))
  go false false e f rest = ap (λ ys. x ∷ ys) (rest (later e))

-- the lists after the deploy of an existing revision
pub lists_known : (past : List Entry) (r : ℕ) (name ports : List ℕ) → Ascends (existing past) → exists_in r past ≡ true → lists_of (Deploy r name ports ∷ past) ≡ lists_of past
lists_known past r name ports ascends exists = ap (map (at (λ q. requests_at q past))) (put_there r (existing past) ascends exists)

-- a number above all others is put at the end
put_last : (r : ℕ) (xs : List ℕ) → ((q : ℕ) → list_any (λ x. x == q) xs ≡ true → q < r) → put r xs ≡ xs ++ r ∷ []
put_last r [] below = refl
put_last r (x ∷ xs) below = go (r == x) (nat_lt r x) refl refl (put_last r xs (λ q there. below q (rw there (or_true (x == q))))) where
  or_true : (t : Bool) → (t || true) ≡ true
  or_true true = refl
  or_true false = refl

  first : x < r
  first = below x (rw (eq_refl x) refl)

  go : (t u : Bool) → (r == x) ≡ t → nat_lt r x ≡ u → put r xs ≡ xs ++ r ∷ [] → cond t (x ∷ xs) (cond u (r ∷ x ∷ xs) (x ∷ put r xs)) ≡ x ∷ (xs ++ r ∷ [])
  go true u e f rest = absurd (grind (arith, nat_tests, first))
  go false true e f rest = absurd (grind (arith, nat_tests, first))
  go false false e f rest = ap (λ ys. x ∷ ys) rest

map_last : (f : ℕ → List OpenRequest) (r : ℕ) (xs : List ℕ) → map (at f) (xs ++ r ∷ []) ≡ map (at f) xs ++ record { revision = r; requests = f r } ∷ []
map_last f r [] = refl
map_last f r (x ∷ xs) = ap (λ ls. at f x ∷ ls) (map_last f r xs)

no_numbers : (qs : List Request) → map (λ q. q.number) qs ≡ [] → map listed qs ≡ []
no_numbers [] h = refl
no_numbers (q ∷ qs) h = absurd (cc)

-- a number that wasn't given yet has no request
none_undeployed : (s : Strategy) (o : Opening) (past : List Entry) (r : ℕ) → Reachable s o past → last_number past < r → requests_at r past ≡ []
none_undeployed s o past r reach above =
    let none : desired s r past ≡ 0 = reach.undeployed_size r above in
    let unscaled : is_scaled s r past ≡ false = grind (arith, nat_tests) in
    no_numbers (filter (λ q. q.revision == r) (open_requests past)) (reach.unscaled_empty r unscaled)

-- the lists after the deploy of a new revision
pub lists_new : (s : Strategy) (o : Opening) (past : List Entry) (name ports : List ℕ) → Reachable s o past
    → lists_of (Deploy (last_number past + 1) name ports ∷ past) ≡ lists_of past ++ record { revision = last_number past + 1; requests = [] } ∷ []
lists_new s o past name ports reach =
    let r = last_number past + 1 in
    let above : last_number past < r = omega arith in
    ap (map (at (λ q. requests_at q past))) (put_last r (existing past) (λ q there. omega (arith, reach.given_to q there)))
    ∙ map_last (λ q. requests_at q past) r (existing past)
    ∙ ap (λ qs. lists_of past ++ record { revision = r; requests = qs } ∷ []) (none_undeployed s o past r reach above)
