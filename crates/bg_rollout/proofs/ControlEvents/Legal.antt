-- Each recorded event is legal.
use Rattle.std.proofs.Common.{◌≡◌, ℕ, ◌+◌, ◌<◌, ◌≤◌, Bool, true, not, ◌&&◌, ◌==◌, nat_lt, nat_le, List, [], ◌∷◌, ◌++◌, sum, Some, None, is_none, refl, ap, ◌∙◌, arith}
use Rattle.std.specs.List.{list_all}
use Rattle.std.proofs.lemmas.Bool.Decides.{nat_tests}
use Rattle.bg_strategy.specs.declared.strategy.Strategy.{Strategy}
use Rattle.bg_revisions.specs.declared.revision.Service.{Service}
use Rattle.bg_history.specs.declared.entry.Entry.{Entry}
use Rattle.bg_history.specs.declared.entry.Entry.TheVariants.{Enter, Leave}
use Rattle.bg_history.specs.Kept.{Opening}
use Rattle.bg_history.specs.Sizes.{available}
use Rattle.bg_history.specs.Requests.{Request, open_requests, held_by, request_numbers, entered, given}
use Rattle.bg_history.specs.Allowed.{is_allowed, selection, has_value, port_of, holds}
use Rattle.bg_history.specs.Steps.{IsLegal, all_given}
use Rattle.bg_rollout.specs.Invariant.{has_number, RequestsInvariant}
use Rattle.bg_rollout.proofs.OpenRequests.Requests.{and_both, all_weaker, all_kept, all_appended, all_apart, differ-append, differ-filter, eq_refl}

pub le_test : (m n : ℕ) → m ≤ n → nat_le m n ≡ true
le_test m n h = grind (arith, nat_tests)

-- a legal history stays legal with an entry that it allows
pub legal_more : (s : Strategy) (o : Opening) (closed : List ℕ) (e : Entry) (past : List Entry) → IsLegal s o closed past → is_allowed s o e past ≡ true
    → all_given (given closed (e ∷ past)) (request_numbers (e ∷ past)) ≡ true → IsLegal s o closed (e ∷ past)
legal_more s o closed e past legal allowed numbers = record {
  opening = legal.opening;
  seats = legal.seats;
  allowed = and_both (is_allowed s o e past) _ allowed legal.allowed;
  numbers = numbers;
}

abbrev is_given : ℕ → ℕ → Bool
is_given greatest n = nat_le 1 n && nat_le n greatest

given_still : (g n : ℕ) → is_given g n ≡ true → is_given (g + 1) n ≡ true
given_still g n h = grind (arith, nat_tests)

below_next : (g n : ℕ) → is_given g n ≡ true → nat_lt n (g + 1) ≡ true
below_next g n h = grind (arith, nat_tests)

next_is_given : (g : ℕ) → is_given (g + 1) (g + 1) ≡ true
next_is_given g = grind (arith, nat_tests)

pub entered-one : (e c : ℕ) → 1 + e + c ≡ e + c + 1
entered-one e c = omega arith

-- what a request that enters gets
pub record Enters (s : Strategy) (o : Opening) (closed : List ℕ) (past : List Entry) (seat : ℕ) (service : Service) (number r port : ℕ) : Type 0 where
  pub within : seat < o.seats
  pub out : held_by seat past ≡ None
  pub selected : selection s service past ≡ Some r
  pub endpoint : 1 ≤ available r past
  pub next : number ≡ given closed past + 1
  pub port_is : port_of o r number past ≡ Some port

pub legal-Enter : (s : Strategy) (o : Opening) (closed : List ℕ) (past : List Entry) (seat : ℕ) (service : Service) (number r port : ℕ)
    → IsLegal s o closed past → Enters s o closed past seat service number r port → IsLegal s o closed (Enter seat service number r port ∷ past)
legal-Enter s o closed past seat service number r port legal enters =
    legal_more s o closed (Enter seat service number r port) past legal allowed numbers where
      above : list_all (λ n. nat_lt n number) (request_numbers past) ≡ true
      above =
          ap (λ (m : ℕ). list_all (λ n. nat_lt n m) (request_numbers past)) enters.next
          ∙ all_weaker (is_given (given closed past)) (λ n. nat_lt n (given closed past + 1)) (below_next (given closed past)) (request_numbers past) legal.numbers

      allowed : is_allowed s o (Enter seat service number r port) past ≡ true
      allowed =
          and_both _ _ (and_both _ _ (and_both _ _ (and_both _ _ (and_both (nat_lt seat o.seats) (is_none (held_by seat past))
          (let h = enters.within in grind (arith, nat_tests)) (ap is_none enters.out))
          (ap (has_value r) enters.selected ∙ eq_refl r))
          (le_test 1 (available r past) enters.endpoint))
          above)
          (ap (has_value port) enters.port_is ∙ eq_refl port)

      numbers : all_given (given closed (Enter seat service number r port ∷ past)) (request_numbers (Enter seat service number r port ∷ past)) ≡ true
      numbers =
          ap (λ (k : ℕ). all_given k (number ∷ request_numbers past)) (entered-one (entered past) (sum closed))
          ∙ and_both (is_given (given closed past + 1) number) _
          (ap (is_given (given closed past + 1)) enters.next ∙ next_is_given (given closed past))
          (all_weaker (is_given (given closed past)) (is_given (given closed past + 1)) (given_still (given closed past)) (request_numbers past) legal.numbers)

pub legal-Leave : (s : Strategy) (o : Opening) (closed : List ℕ) (past : List Entry) (seat number r : ℕ) (x : Request)
    → IsLegal s o closed past → held_by seat past ≡ Some x → x.number ≡ number → x.revision ≡ r → is_given (given closed past) number ≡ true
    → IsLegal s o closed (Leave seat number r ∷ past)
legal-Leave s o closed past seat number r x legal held n rev given_number =
    legal_more s o closed (Leave seat number r) past legal
    (ap (holds number r) held ∙ and_both (x.number == number) (x.revision == r) (ap (λ (k : ℕ). k == number) n ∙ eq_refl number) (ap (λ (k : ℕ). k == r) rev ∙ eq_refl r))
    (and_both (is_given (given closed past) number) _ given_number legal.numbers)

-- the open requests after an Enter
pub requests-Enter : (closed : List ℕ) (past : List Entry) (seat : ℕ) (service : Service) (number r port : ℕ) → RequestsInvariant closed past
    → held_by seat past ≡ None → number ≡ given closed past + 1 → RequestsInvariant closed (Enter seat service number r port ∷ past)
requests-Enter closed past seat service number r port represents none next = record {
  differ = differ-append (open_requests past) x represents.differ (all_apart seat (given closed past) (open_requests past) x refl (omega (arith, next)) none represents.given);
  given =
      ap (λ (k : ℕ). list_all (has_number k) (open_requests past ++ x ∷ [])) (entered-one (entered past) (sum closed))
      ∙ all_appended (has_number (given closed past + 1)) (open_requests past) x
      (all_weaker (has_number (given closed past)) (has_number (given closed past + 1)) (λ q h. given_still (given closed past) q.number h) (open_requests past) represents.given)
      (ap (is_given (given closed past + 1)) next ∙ next_is_given (given closed past));
} where
  x : Request
  x = record { seat = seat; number = number; revision = r; port = port }

-- the open requests after a Leave
pub requests-Leave : (closed : List ℕ) (past : List Entry) (seat number r : ℕ) → RequestsInvariant closed past → RequestsInvariant closed (Leave seat number r ∷ past)
requests-Leave closed past seat number r represents = record {
  differ = differ-filter (λ q. not (q.number == number)) (open_requests past) represents.differ;
  given = all_kept (has_number (given closed past)) (λ q. not (q.number == number)) (open_requests past) represents.given;
}
