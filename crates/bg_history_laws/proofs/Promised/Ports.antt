-- Each open request has a port of its revision.
use Rattle.std.proofs.Common.{◌≡◌, ◌≤◌, ◌<◌, ◌%◌, ℕ, Bool, true, false, not, cond, ◌==◌, ◌&&◌, nat_lt, nat_le, List, [], ◌∷◌, length, Option, Some, None, refl, arith, ap, ◌∙◌}
use Rattle.std.specs.Prelude.{slice_index}
use Rattle.std.specs.List.{list_all}
use Rattle.std.specs.Option.{option_or}
use Rattle.std.proofs.lemmas.List.Folds.{list_all-append, list_any_at}
use Rattle.std.proofs.lemmas.Bool.Decides.{nat_tests}
use Rattle.bg_strategy.specs.declared.strategy.Strategy.{Strategy}
use Rattle.bg_strategy.specs.Label.{is_label}
use Rattle.bg_revisions.specs.PortLists.{are_ports}
use Rattle.bg_revisions.specs.declared.revision.Service.{Service}
use Rattle.bg_history.specs.declared.entry.Entry.{Entry}
use Rattle.bg_history.specs.declared.entry.Entry.TheVariants.{Deploy, Enter, Leave}
use Rattle.bg_history.specs.Kept.{Opening, Template}
use Rattle.bg_history.specs.Compacted.{is_among}
use Rattle.bg_history.specs.Requests.{open_requests, request_numbers}
use Rattle.bg_history.specs.Sizes.{desired, available}
use Rattle.bg_history.specs.Templates.{template}
use Rattle.bg_history.specs.Allowed.{has_value, port_in, port_of, may_enter}
use Rattle.bg_history.specs.Steps.{all_allowed, is_opening}
use Rattle.bg_history_laws.specs.Reachable.{Reachable}
use Rattle.bg_history_laws.proofs.Tests.{and_parts, and_both, equal_numbers}
use Rattle.bg_history_laws.proofs.Promised.Names.{template-well_formed}
use Rattle.bg_history_laws.proofs.Reached.Allowing.{allowed_now, allowed_before}
use Rattle.bg_history_laws.proofs.Lists.{all_filter, all_weaker}

-- the template has that port
abbrev pub has_port : ℕ → Option Template → Bool
has_port port None = false
has_port port (Some t) = is_among t.ports port

-- a port that is taken in turn is in the list
taken-among : (ports : List ℕ) (number size port : ℕ) → 1 ≤ size → size ≤ length ports → slice_index ports (number % size) ≡ port → is_among ports port ≡ true
taken-among ports number size port some most is =
    let less : number % size < length ports = omega arith in
    list_any_at (λ k. k == port) ports (number % size) 0 less (ap (λ k. k == port) is ∙ itself port) where
      itself : (n : ℕ) → (n == n) ≡ true
      itself n = grind (arith, nat_tests)

-- the port of a request that enters is a port of its revision
enters-port : ((s : Strategy) (o : Opening) (past : List Entry) → all_allowed s o past ≡ true → Reachable s o past)
    → (s : Strategy) (o : Opening) (seat : ℕ) (v : Service) (number r port : ℕ) (before : List Entry) → is_opening s o ≡ true → all_allowed s o before ≡ true
    → may_enter s o seat v number r port before ≡ true → has_port port (template o r before) ≡ true
enters-port reach s o seat v number r port before opens a h =
    let parts = and_parts _ (has_value port (port_of o r number before)) h in
    go (template o r before) refl parts.1
    (and_parts _ (nat_le 1 (available r before)) (and_parts _ (list_all (λ n. nat_lt n number) (request_numbers before)) parts.0).0).1 where
      go : (t : Option Template) → template o r before ≡ t → has_value port (port_in t number (available r before)) ≡ true → nat_le 1 (available r before) ≡ true → has_port port t ≡ true
      go None is k some = absurd (cc)
      go (Some t) is k some =
          let formed = template-well_formed s o r before t opens a is in
          let ports : are_ports s.replicas t.ports ≡ true = (and_parts (is_label t.name) (are_ports s.replicas t.ports) formed).1 in
          let long : length t.ports ≡ s.replicas = grind (arith, nat_tests) in
          let there = reach s o before a in
          let within_desired : available r before ≤ desired s r before = there.available_most r in
          let most : desired s r before ≤ s.replicas = there.desired_most r in
          let first : 1 ≤ available r before = grind (arith, nat_tests) in
          taken-among t.ports number (available r before) port first (omega arith) (equal_numbers (slice_index t.ports (number % available r before)) port k)

-- a template keeps its ports
port-stays : (p k q : ℕ) (name ports : List ℕ) (o : Opening) (before : List Entry) → has_port p (template o k before) ≡ true → has_port p (template o k (Deploy q name ports ∷ before)) ≡ true
port-stays p k q name ports o before h = go (template o k before) h where
  go : (t : Option Template) → has_port p t ≡ true → has_port p (option_or t (cond (q == k) (Some (record { name = name; ports = ports })) None)) ≡ true
  go None h = absurd (cc)
  go (Some t) h = h

-- so each open request has a port of its revision
pub open-ports : ((s : Strategy) (o : Opening) (past : List Entry) → all_allowed s o past ≡ true → Reachable s o past)
    → (s : Strategy) (o : Opening) (past : List Entry) → is_opening s o ≡ true → all_allowed s o past ≡ true
    → list_all (λ q. has_port q.port (template o q.revision past)) (open_requests past) ≡ true
open-ports reach s o [] opens a = refl
open-ports reach s o (Enter seat v n r port ∷ before) opens a =
    let earlier = allowed_before s o (Enter seat v n r port) before a in
    let new = enters-port reach s o seat v n r port before opens earlier (allowed_now s o (Enter seat v n r port) before a) in
    list_all-append (λ q. has_port q.port (template o q.revision before)) (open_requests before) (record { seat = seat; number = n; revision = r; port = port } ∷ [])
    ∙ and_both (list_all (λ q. has_port q.port (template o q.revision before)) (open_requests before)) (has_port port (template o r before) && true)
    (open-ports reach s o before opens earlier) (and_both (has_port port (template o r before)) true new refl)
open-ports reach s o (Leave seat n r ∷ before) opens a =
    all_filter (λ q. has_port q.port (template o q.revision before)) (λ q. not (q.number == n)) (open_requests before)
    (open-ports reach s o before opens (allowed_before s o (Leave seat n r) before a))
open-ports reach s o (Deploy k name ports ∷ before) opens a =
    all_weaker (λ q. has_port q.port (template o q.revision before)) (λ q. has_port q.port (template o q.revision (Deploy k name ports ∷ before)))
    (λ q. port-stays q.port q.revision k name ports o before) (open_requests before)
    (open-ports reach s o before opens (allowed_before s o (Deploy k name ports) before a))
open-ports reach s o (e ∷ before) opens a = open-ports reach s o before opens (allowed_before s o e before a)
