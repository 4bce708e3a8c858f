-- The seat and the port of each open request.
use Rattle.std.proofs.Common.{◌≡◌, ℕ, zero, suc, ◌%◌, ◌<◌, ◌≤◌, Bool, true, false, cond, ◌==◌, ◌||◌, nat_lt, nat_le, List, [], ◌∷◌, length, slice_index, Option, Some, None, is_none, refl, sym, ap, ◌∙◌, arith, mod-lt}
use Rattle.std.specs.List.{list_all, list_any}
use Rattle.std.specs.Option.{option_or}
use Rattle.std.proofs.lemmas.Bool.Decides.{nat_tests}
use Rattle.std.proofs.lemmas.Option.{same_Some}
use Rattle.bg_strategy.specs.declared.strategy.Strategy.{Strategy}
use Rattle.bg_strategy.specs.Label.{is_label}
use Rattle.bg_revisions.specs.PortLists.{are_ports, are_distinct}
use Rattle.bg_revisions.specs.declared.revision.Service.{Service}
use Rattle.bg_history.specs.declared.entry.Entry.{Entry}
use Rattle.bg_history.specs.declared.entry.Entry.TheVariants.{Deploy, Enter, Leave}
use Rattle.bg_history.specs.Kept.{Opening, Template}
use Rattle.bg_history.specs.Sizes.{available}
use Rattle.bg_history.specs.Requests.{Request, open_requests, held_by, request_numbers}
use Rattle.bg_history.specs.Templates.{template}
use Rattle.bg_history.specs.Allowed.{selection, has_value, port_in, port_of, may_enter, is_allowed}
use Rattle.bg_history.specs.Steps.{all_allowed}
use Rattle.bg_history_laws.specs.Reachable.{Reachable}
use Rattle.bg_rollout.specs.Meeting.{ports_in}
use Rattle.bg_rollout.proofs.OpenRequests.Requests.{and_parts, all_appended, all_kept, all_weaker, eq_from, eq_refl}

-- what holds of an allowed request
record Met (s : Strategy) (o : Opening) (seat : ℕ) (service : Service) (number r port : ℕ) (past : List Entry) : Type 0 where
  pub within : nat_lt seat o.seats ≡ true
  pub selected : selection s service past ≡ Some r
  pub endpoint : 1 ≤ available r past
  pub port_is : port_of o r number past ≡ Some port

number_is : (n : ℕ) (x : Option ℕ) → has_value n x ≡ true → x ≡ Some n
number_is n None h = absurd (cc)
number_is n (Some m) h = ap Some (eq_from m n h)

at_least_one : (n : ℕ) → nat_le 1 n ≡ true → 1 ≤ n
at_least_one n h = grind (arith, nat_tests)

met : (s : Strategy) (o : Opening) (seat : ℕ) (service : Service) (number r port : ℕ) (past : List Entry) → may_enter s o seat service number r port past ≡ true
    → Met s o seat service number r port past
met s o seat service number r port past h =
    let five = and_parts _ (has_value port (port_of o r number past)) h in
    let four = and_parts _ (list_all (λ n. nat_lt n number) (request_numbers past)) five.0 in
    let three = and_parts _ (nat_le 1 (available r past)) four.0 in
    let two = and_parts _ (has_value r (selection s service past)) three.0 in
    let one = and_parts (nat_lt seat o.seats) (is_none (held_by seat past)) two.0 in
    record {
      within = one.0;
      selected = number_is r _ two.1;
      endpoint = at_least_one _ three.1;
      port_is = number_is port _ five.1;
    }

-- each open request is at a seat of the book
pub placed : (s : Strategy) (o : Opening) (past : List Entry) → all_allowed s o past ≡ true → list_all (λ q. nat_lt q.seat o.seats) (open_requests past) ≡ true
placed s o [] h = refl
placed s o (Deploy r name ports ∷ past) h = placed s o past (and_parts (is_allowed s o (Deploy r name ports) past) _ h).1
placed s o (Enter seat service number r port ∷ past) h =
    let both = and_parts (is_allowed s o (Enter seat service number r port) past) _ h in
    all_appended (λ q. nat_lt q.seat o.seats) (open_requests past) _ (placed s o past both.1) (met s o seat service number r port past both.0).within
placed s o (Leave seat number r ∷ past) h =
    all_kept (λ q. nat_lt q.seat o.seats) _ (open_requests past) (placed s o past (and_parts (is_allowed s o (Leave seat number r) past) _ h).1)
placed s o (e ∷ past) h = placed s o past (and_parts (is_allowed s o e past) _ h).1

-- a template has one port for each endpoint at full size
abbrev is_full : ℕ → Option Template → Bool
is_full replicas None = true
is_full replicas (Some t) = length t.ports == replicas

ports_count : (replicas : ℕ) (ports : List ℕ) → are_ports replicas ports ≡ true → (length ports == replicas) ≡ true
ports_count replicas ports formed = (and_parts (length ports == replicas) _ (and_parts _ (are_distinct ports) formed).0).0

full_first : (replicas : ℕ) (t : Template) (b : Bool) → (length t.ports == replicas) ≡ true → is_full replicas (cond b (Some t) None) ≡ true
full_first replicas t true h = h
full_first replicas t false h = refl

full_after : (replicas : ℕ) (x y : Option Template) → is_full replicas x ≡ true → is_full replicas y ≡ true → is_full replicas (option_or x y) ≡ true
full_after replicas None y h k = k
full_after replicas (Some t) y h k = h

full : (s : Strategy) (o : Opening) (r : ℕ) (past : List Entry) → are_ports s.replicas o.template.ports ≡ true → all_allowed s o past ≡ true → is_full s.replicas (template o r past) ≡ true
full s o r [] first h = full_first s.replicas o.template (r == 1) (ports_count s.replicas o.template.ports first)
full s o r (Deploy q name ports ∷ past) first h =
    let both = and_parts (is_allowed s o (Deploy q name ports) past) _ h in
    let formed = and_parts (is_label name) (are_ports s.replicas ports) (and_parts _ _ (and_parts _ _ both.0).0).0 in
    full_after s.replicas (template o r past) _ (full s o r past first both.1)
    (full_first s.replicas (record { name = name; ports = ports }) (q == r) (ports_count s.replicas ports formed.1))
full s o r (e ∷ past) first h = full s o r past first (and_parts (is_allowed s o e past) _ h).1

-- the port of the request is one of its revision's ports
abbrev pub has_port : Opening → List Entry → Request → Bool
has_port o past q = list_any (λ p. p == q.port) (ports_in (template o q.revision past))

ports_stay : (x y : Option Template) (port : ℕ) → list_any (λ p. p == port) (ports_in x) ≡ true → list_any (λ p. p == port) (ports_in (option_or x y)) ≡ true
ports_stay None y port h = absurd (cc)
ports_stay (Some t) y port h = h

or_left : (a b : Bool) → a ≡ true → (a || b) ≡ true
or_left a b h = rw h refl

or_right : (a b : Bool) → b ≡ true → (a || b) ≡ true
or_right true b h = refl
or_right false b h = h

any_at : (ports : List ℕ) (k : ℕ) → k < length ports → list_any (λ p. p == slice_index ports k) ports ≡ true
any_at [] k h = absurd (omega (arith, h))
any_at (p ∷ ports) zero h = or_left (p == p) _ (eq_refl p)
any_at (p ∷ ports) (suc k) h = or_right (p == slice_index ports k) _ (any_at ports k (omega (arith, h)))

positive : (n : ℕ) → 1 ≤ n → 0 < n
positive n h = omega (arith, h)

any_in : (t : Option Template) (replicas number size port : ℕ) → is_full replicas t ≡ true → 1 ≤ size → size ≤ replicas → port_in t number size ≡ Some port
    → list_any (λ p. p == port) (ports_in t) ≡ true
any_in None replicas number size port count some most h = absurd (cc)
any_in (Some t) replicas number size port count some most h =
    let port_place : number % size < size = mod-lt number (positive size some) in
    let within : number % size < length t.ports = omega (arith, port_place, most, eq_from (length t.ports) replicas count) in
    ap (λ (n : ℕ). list_any (λ p. p == n) t.ports) (sym (same_Some _ port h)) ∙ any_at t.ports (number % size) within

-- each open request has a port of its revision
pub ported : (s : Strategy) (o : Opening) (past : List Entry) → ((past : List Entry) → all_allowed s o past ≡ true → Reachable s o past) → are_ports s.replicas o.template.ports ≡ true
    → all_allowed s o past ≡ true → list_all (has_port o past) (open_requests past) ≡ true
ported s o [] reach first h = refl
ported s o (Deploy q name ports ∷ past) reach first h =
    all_weaker (has_port o past) (has_port o (Deploy q name ports ∷ past)) (λ x. ports_stay (template o x.revision past) _ x.port) (open_requests past)
    (ported s o past reach first (and_parts (is_allowed s o (Deploy q name ports) past) _ h).1)
ported s o (Enter seat service number r port ∷ past) reach first h =
    let both = and_parts (is_allowed s o (Enter seat service number r port) past) _ h in
    let ok = met s o seat service number r port past both.0 in
    let before = reach past both.1 in
    let most : available r past ≤ s.replicas = omega (arith, before.available_most r, before.desired_most r) in
    all_appended (has_port o past) (open_requests past) _ (ported s o past reach first both.1)
    (any_in (template o r past) s.replicas number (available r past) port (full s o r past first both.1) ok.endpoint most ok.port_is)
ported s o (Leave seat number q ∷ past) reach first h =
    all_kept (has_port o past) _ (open_requests past) (ported s o past reach first (and_parts (is_allowed s o (Leave seat number q) past) _ h).1)
ported s o (e ∷ past) reach first h = ported s o past reach first (and_parts (is_allowed s o e past) _ h).1
