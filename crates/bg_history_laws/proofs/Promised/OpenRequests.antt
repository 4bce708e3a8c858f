-- A request stays open until it leaves; its revision exists and is scaled. No two open requests have the same number.
use Rattle.std.proofs.Common.{◌≡◌, ℕ, Bool, true, false, not, cond, ◌==◌, ◌&&◌, ◌||◌, nat_lt, List, [], ◌∷◌, ◌++◌, filter, find, Option, Some, None, refl, arith, ap, sym, ◌∙◌}
use Rattle.std.specs.List.{list_all}
use Rattle.std.specs.Option.{option_or}
use Rattle.std.proofs.lemmas.List.Folds.{list_all-append, find-append}
use Rattle.std.proofs.lemmas.Bool.Decides.{nat_tests}
use Rattle.std.proofs.lemmas.Option.{same_Some}
use Rattle.bg_strategy.specs.declared.strategy.Strategy.{Strategy}
use Rattle.bg_revisions.specs.declared.revision.Service.{Service}
use Rattle.bg_history.specs.declared.entry.Entry.{Entry}
use Rattle.bg_history.specs.declared.entry.Entry.TheVariants.{Deploy, Enter, Leave}
use Rattle.bg_history.specs.Kept.{Opening, Template}
use Rattle.bg_history.specs.Requests.{Request, open_requests, held_by, request_numbers}
use Rattle.bg_history.specs.Templates.{template}
use Rattle.bg_history.specs.Allowed.{holds, has_value, port_of, may_enter}
use Rattle.bg_history.specs.Steps.{all_allowed}
use Rattle.bg_history_laws.specs.OpenRequests.{open_request, is_leaving, stays, LeavesAsItself}
use Rattle.bg_history_laws.proofs.Tests.{and_parts, and_both, not_true, equal_itself, equal_numbers}
use Rattle.bg_history_laws.proofs.Reached.Allowing.{allowed_now, allowed_before}
use Rattle.bg_history_laws.proofs.Lists.{all_filter, all_weaker}
use Rattle.bg_history_laws.proofs.Compacted.Closed.{open-numbers}

-- if all elements pass a test, the one that is found passes it
pub found-all : (p t : Request → Bool) (q : Request) (xs : List Request) → find p xs ≡ Some q → list_all t xs ≡ true → t q ≡ true
found-all p t q [] is h = absurd (cc)
found-all p t q (x ∷ xs) is h =
    let both = and_parts (t x) (list_all t xs) h in go (p x) is (found-all p t q xs) both.0 both.1 where
      go : (b : Bool) → cond b (Some x) (find p xs) ≡ Some q → (find p xs ≡ Some q → list_all t xs ≡ true → t q ≡ true) → t x ≡ true → list_all t xs ≡ true → t q ≡ true
      go true is rest here later = let e : x ≡ q = same_Some x q is in ap t (sym e) ∙ here
      go false is rest here later = rest is later

-- an element that is found passes the test
pub found-passes : (p : Request → Bool) (q : Request) (xs : List Request) → find p xs ≡ Some q → p q ≡ true
found-passes p q [] is = absurd (cc)
found-passes p q (x ∷ xs) is = go (p x) refl is (found-passes p q xs) where
  go : (b : Bool) → p x ≡ b → cond b (Some x) (find p xs) ≡ Some q → (find p xs ≡ Some q → p q ≡ true) → p q ≡ true
  go true h is rest = let e : x ≡ q = same_Some x q is in ap p (sym e) ∙ h
  go false h is rest = rest is

-- a request that is found is found among those of other numbers, too
found-others : (number n : ℕ) (q : Request) (xs : List Request) → (n == number) ≡ false → find (λ x. x.number == number) xs ≡ Some q
    → find (λ x. x.number == number) (filter (λ x. not (x.number == n)) xs) ≡ Some q
found-others number n q [] other is = absurd (cc)
found-others number n q (x ∷ xs) other is =
    go (x.number == number) (x.number == n) refl refl is (found-others number n q xs other) where
      go : (a b : Bool) → (x.number == number) ≡ a → (x.number == n) ≡ b → cond a (Some x) (find (λ x. x.number == number) xs) ≡ Some q
          → (find (λ x. x.number == number) xs ≡ Some q → find (λ x. x.number == number) (filter (λ x. not (x.number == n)) xs) ≡ Some q)
          → find (λ x. x.number == number) (cond (not b) (x ∷ filter (λ x. not (x.number == n)) xs) (filter (λ x. not (x.number == n)) xs)) ≡ Some q
      go true true here leaves is rest = absurd (grind (arith, nat_tests))
      go true false here leaves is rest = rw here is
      go false true here leaves is rest = rest is
      go false false here leaves is rest = rw here (rest is)

-- a request stays open at each entry other than its Leave
pub stays-open : (number : ℕ) (q : Request) (e : Entry) (before : List Entry) → is_leaving number e ≡ false → open_request number before ≡ Some q → open_request number (e ∷ before) ≡ Some q
stays-open number q (Enter seat v n r port) before other is =
    find-append (λ x. x.number == number) (open_requests before) (record { seat = seat; number = n; revision = r; port = port } ∷ [])
    ∙ ap (λ t. option_or t (find (λ x. x.number == number) (record { seat = seat; number = n; revision = r; port = port } ∷ []))) is
stays-open number q (Leave seat n r) before other is = found-others number n q (open_requests before) other is
stays-open number q e before other is = is

-- a revision keeps its template
pub stays-template : (o : Opening) (r : ℕ) (t : Template) (e : Entry) (before : List Entry) → template o r before ≡ Some t → template o r (e ∷ before) ≡ Some t
stays-template o r t (Deploy q name ports) before is = ap (λ u. option_or u (cond (q == r) (Some (record { name = name; ports = ports })) None)) is
stays-template o r t e before is = is

-- so a revision keeps its template over all entries that follow
pub stays-open_over : (number : ℕ) (q : Request) (later past : List Entry) → stays number later ≡ true → open_request number past ≡ Some q → open_request number (later ++ past) ≡ Some q
stays-open_over number q [] past h is = is
stays-open_over number q (e ∷ later) past h is =
    let both = and_parts (not (is_leaving number e)) (stays number later) h in
    stays-open number q e (later ++ past) (not_true (is_leaving number e) both.0) (stays-open_over number q later past both.1 is)

pub stays-template_over : (o : Opening) (r : ℕ) (t : Template) (later past : List Entry) → template o r past ≡ Some t → template o r (later ++ past) ≡ Some t
stays-template_over o r t [] past is = is
stays-template_over o r t (e ∷ later) past is = stays-template o r t e (later ++ past) (stays-template_over o r t later past is)

-- no two of the requests have the same number
abbrev pub apart : List Request → Bool
apart [] = true
apart (q ∷ rest) = list_all (λ x. not (x.number == q.number)) rest && apart rest

apart-filter : (k : Request → Bool) (xs : List Request) → apart xs ≡ true → apart (filter k xs) ≡ true
apart-filter k [] h = refl
apart-filter k (x ∷ xs) h =
    let both = and_parts (list_all (λ y. not (y.number == x.number)) xs) (apart xs) h in go (k x) (all_filter (λ y. not (y.number == x.number)) k xs both.0) (apart-filter k xs both.1) where
      go : (b : Bool) → list_all (λ y. not (y.number == x.number)) (filter k xs) ≡ true → apart (filter k xs) ≡ true → apart (cond b (x ∷ filter k xs) (filter k xs)) ≡ true
      go true here rest = and_both (list_all (λ y. not (y.number == x.number)) (filter k xs)) (apart (filter k xs)) here rest
      go false here rest = rest

-- a request whose number is above all others differs from all of them
apart-new : (new : Request) (xs : List Request) → apart xs ≡ true → list_all (λ x. nat_lt x.number new.number) xs ≡ true → apart (xs ++ new ∷ []) ≡ true
apart-new new [] h less = refl
apart-new new (x ∷ xs) h less =
    let both = and_parts (list_all (λ y. not (y.number == x.number)) xs) (apart xs) h in
    let lower = and_parts (nat_lt x.number new.number) (list_all (λ x. nat_lt x.number new.number) xs) less in
    let other : not (new.number == x.number) && true ≡ true = let lt : nat_lt x.number new.number ≡ true = lower.0 in grind (arith, nat_tests) in
    and_both (list_all (λ y. not (y.number == x.number)) (xs ++ new ∷ [])) (apart (xs ++ new ∷ []))
    (list_all-append (λ y. not (y.number == x.number)) xs (new ∷ []) ∙ and_both (list_all (λ y. not (y.number == x.number)) xs) _ both.0 other)
    (apart-new new xs both.1 lower.1)

-- a request that enters has a greater number than any before
enters-above : (s : Strategy) (o : Opening) (seat : ℕ) (v : Service) (number r port : ℕ) (before : List Entry) → may_enter s o seat v number r port before ≡ true
    → list_all (λ n. nat_lt n number) (request_numbers before) ≡ true
enters-above s o seat v number r port before h = (and_parts _ (list_all (λ n. nat_lt n number) (request_numbers before)) (and_parts _ (has_value port (port_of o r number before)) h).0).1

-- so no two open requests have the same number
pub open-apart : (s : Strategy) (o : Opening) (past : List Entry) → all_allowed s o past ≡ true → apart (open_requests past) ≡ true
open-apart s o [] a = refl
open-apart s o (Enter seat v n r port ∷ before) a =
    apart-new (record { seat = seat; number = n; revision = r; port = port }) (open_requests before) (open-apart s o before (allowed_before s o (Enter seat v n r port) before a))
    (open-numbers (λ m. nat_lt m n) before (enters-above s o seat v n r port before (allowed_now s o (Enter seat v n r port) before a)))
open-apart s o (Leave seat n r ∷ before) a = apart-filter (λ x. not (x.number == n)) (open_requests before) (open-apart s o before (allowed_before s o (Leave seat n r) before a))
open-apart s o (e ∷ before) a = open-apart s o before (allowed_before s o e before a)

-- of such requests, the one that is found is the only one of its number
pub only-one : (p : Request → Bool) (q : Request) (xs : List Request) → apart xs ≡ true → find p xs ≡ Some q → find (λ x. x.number == q.number) xs ≡ Some q
only-one p q [] h is = absurd (cc)
only-one p q (x ∷ xs) h is =
    let both = and_parts (list_all (λ y. not (y.number == x.number)) xs) (apart xs) h in go (p x) is both.0 (only-one p q xs both.1) where
      go : (b : Bool) → cond b (Some x) (find p xs) ≡ Some q → list_all (λ y. not (y.number == x.number)) xs ≡ true → (find p xs ≡ Some q → find (λ x. x.number == q.number) xs ≡ Some q)
          → cond (x.number == q.number) (Some x) (find (λ x. x.number == q.number) xs) ≡ Some q
      go true is others rest = let e : x ≡ q = same_Some x q is in rw (← e) (rw (equal_itself x.number) refl)
      go false is others rest =
          let apart : not (q.number == x.number) ≡ true = found-all p (λ y. not (y.number == x.number)) q xs is others in
          let other : (x.number == q.number) ≡ false = grind (arith, nat_tests) in
          rw other (rest is)

-- each request of its number is at its revision
pub at-one : (p : Request → Bool) (q : Request) (xs : List Request) → apart xs ≡ true → find p xs ≡ Some q → list_all (λ x. not (x.number == q.number) || (x.revision == q.revision)) xs ≡ true
at-one p q [] h is = absurd (cc)
at-one p q (x ∷ xs) h is =
    let both = and_parts (list_all (λ y. not (y.number == x.number)) xs) (apart xs) h in go (p x) is both.0 (at-one p q xs both.1) where
      go : (b : Bool) → cond b (Some x) (find p xs) ≡ Some q → list_all (λ y. not (y.number == x.number)) xs ≡ true
          → (find p xs ≡ Some q → list_all (λ x. not (x.number == q.number) || (x.revision == q.revision)) xs ≡ true)
          → (not (x.number == q.number) || (x.revision == q.revision)) && list_all (λ x. not (x.number == q.number) || (x.revision == q.revision)) xs ≡ true
      go true is others rest =
          let e : x ≡ q = same_Some x q is in
          rw (← e) (and_both (not (x.number == x.number) || (x.revision == x.revision)) _ (grind (arith, nat_tests))
          (all_weaker (λ y. not (y.number == x.number)) (λ y. not (y.number == x.number) || (y.revision == x.revision)) (λ y h. rw h refl) xs others))
      go false is others rest =
          let apart : not (q.number == x.number) ≡ true = found-all p (λ y. not (y.number == x.number)) q xs is others in
          and_both (not (x.number == q.number) || (x.revision == q.revision)) _ (grind (arith, nat_tests)) (rest is)

-- the seat holds the request that leaves
pub record Leaves (seat number r : ℕ) (past : List Entry) : Type 0 where
  pub q : Request
  pub held : held_by seat past ≡ Some q
  pub number_is : q.number ≡ number
  pub revision_is : q.revision ≡ r

pub leaves-held : (seat number r : ℕ) (past : List Entry) → holds number r (held_by seat past) ≡ true → Leaves seat number r past
leaves-held seat number r past h = go (held_by seat past) refl h where
  go : (k : Option Request) → held_by seat past ≡ k → holds number r k ≡ true → Leaves seat number r past
  go None is h = absurd (cc)
  go (Some q) is h =
      let both = and_parts (q.number == number) (q.revision == r) h in
      record { q = q; held = is; number_is = equal_numbers q.number number both.0; revision_is = equal_numbers q.revision r both.1 }

-- the request that leaves is the open request of its number
pub leaving-own : (s : Strategy) (o : Opening) (past : List Entry) (seat number r : ℕ) → all_allowed s o past ≡ true → holds number r (held_by seat past) ≡ true → LeavesAsItself seat number r past
leaving-own s o past seat number r a may =
    let one = leaves-held seat number r past may in
    record {
      q = one.q;
      open_is = ap (λ n. open_request n past) (sym one.number_is) ∙ only-one (λ q. q.seat == seat) one.q (open_requests past) (open-apart s o past a) one.held;
      seat_is = equal_numbers one.q.seat seat (found-passes (λ q. q.seat == seat) one.q (open_requests past) one.held);
      revision_is = one.revision_is;
    }
