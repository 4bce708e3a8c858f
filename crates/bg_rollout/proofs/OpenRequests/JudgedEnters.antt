-- The revision and the port of a request that enters.
use Rattle.std.proofs.Common.{◌≡◌, ◌≢◌, ℕ, ◌+◌, ◌*◌, ◌%◌, ◌<◌, ◌≤◌, Bool, true, false, cond, ◌==◌, nat_lt, nat_le, List, [], ◌∷◌, length, slice_index, Option, Some, None, is_some, refl, sym, ap, ◌∙◌, arith}
use Rattle.std.proofs.lemmas.Bool.Decides.{nat_tests}
use Rattle.std.proofs.lemmas.Option.{same_Some}
use Rattle.bg_strategy.specs.declared.strategy.Strategy.{Strategy}
use Rattle.bg_strategy.specs.Label.{is_label}
use Rattle.bg_revisions.specs.PortLists.{are_ports, are_distinct}
use Rattle.bg_revisions.specs.declared.revision.Revision.{Revision}
use Rattle.bg_revisions.specs.declared.revision.Service.{Service}
use Rattle.bg_revisions.specs.declared.revision.Service.TheVariants.{Active, Preview}
use Rattle.bg_revisions.specs.Rosters.{is_well_formed, numbered, AreWellFormed}
use Rattle.bg_history.specs.declared.entry.Entry.{Entry}
use Rattle.bg_history.specs.Kept.{Opening, Template}
use Rattle.bg_history.specs.Sizes.{desired, available}
use Rattle.bg_history.specs.Selections.{preview_of}
use Rattle.bg_history.specs.Deadlines.{exists_in}
use Rattle.bg_history.specs.Requests.{given}
use Rattle.bg_history.specs.Templates.{template}
use Rattle.bg_history.specs.Allowed.{selection, port_of, port_in}
use Rattle.bg_history_laws.specs.Listed.{sized, revision_of}
use Rattle.bg_history_laws.specs.Reachable.{Reachable, exists_scaled}
use Rattle.bg_rollout.specs.declared.fault.EnterFault.TheVariants as fault
use Rattle.bg_rollout.specs.Refusals.{all_open, fault_if, is_full_for_enter, enter_refusal, enter_refusal_at}
use Rattle.bg_rollout.specs.Routing.{Routing}
use Rattle.bg_rollout.proofs.OpenRequests.Requests.{and_parts, eq_from}

-- a selected revision exists
pub selected_exists : (s : Strategy) (o : Opening) (past : List Entry) (service : Service) (r : ℕ) → Reachable s o past → selection s service past ≡ Some r → exists_in r past ≡ true
selected_exists s o past Active r reach h = (and_parts (exists_in r past) _ (ap (λ (n : ℕ). exists_scaled s n past) (sym (same_Some _ r h)) ∙ reach.active)).0
selected_exists s o past Preview r reach h = go (is_some s.preview_service) h where
  go : (b : Bool) → cond b (Some (preview_of past)) None ≡ Some r → exists_in r past ≡ true
  go true h = (and_parts (exists_in r past) _ (ap (λ (n : ℕ). exists_scaled s n past) (sym (same_Some _ r h)) ∙ reach.preview)).0
  go false h = absurd (cc)

-- a selected revision is scaled
pub selected_scaled : (s : Strategy) (o : Opening) (past : List Entry) (service : Service) (r : ℕ) → Reachable s o past → selection s service past ≡ Some r → exists_scaled s r past ≡ true
selected_scaled s o past Active r reach h = ap (λ (n : ℕ). exists_scaled s n past) (sym (same_Some _ r h)) ∙ reach.active
selected_scaled s o past Preview r reach h = go (is_some s.preview_service) h where
  go : (b : Bool) → cond b (Some (preview_of past)) None ≡ Some r → exists_scaled s r past ≡ true
  go true h = ap (λ (n : ℕ). exists_scaled s n past) (sym (same_Some _ r h)) ∙ reach.preview
  go false h = absurd (cc)

-- a revision of a roster has one port for each endpoint at full size
well_formed_found : (replicas r : ℕ) (revisions : List Revision) (v : Revision) → AreWellFormed replicas revisions → numbered r revisions ≡ Some v → is_well_formed replicas v.name v.ports ≡ true
well_formed_found replicas r [] v forms h = absurd (cc)
well_formed_found replicas r (x ∷ rest) v forms h = go (x.number == r) h (well_formed_found replicas r rest v forms.1) where
  go : (b : Bool) → cond b (Some x) (numbered r rest) ≡ Some v → (numbered r rest ≡ Some v → is_well_formed replicas v.name v.ports ≡ true) → is_well_formed replicas v.name v.ports ≡ true
  go true h rest = ap (λ (w : Revision). is_well_formed replicas w.name w.ports) (sym (same_Some x v h)) ∙ forms.0
  go false h rest = rest h

pub ports_count : (replicas r : ℕ) (revisions : List Revision) (v : Revision) → AreWellFormed replicas revisions → numbered r revisions ≡ Some v → length v.ports ≡ replicas
ports_count replicas r revisions v forms h =
    let formed = (and_parts (is_label v.name) (are_ports replicas v.ports) (well_formed_found replicas r revisions v forms h)).1 in
    eq_from (length v.ports) replicas (and_parts (length v.ports == replicas) _ (and_parts _ (are_distinct v.ports) formed).0).0

-- the roster and the past give the same port for a number
pub port_is : (s : Strategy) (o : Opening) (past : List Entry) (r number : ℕ) → is_some (template o r past) ≡ true
    → port_of o r number past ≡ Some (slice_index (revision_of s o past r).ports (number % available r past))
port_is s o past r number there = go (template o r past) there where
  go : (t : Option Template) → is_some t ≡ true → port_in t number (available r past) ≡ Some (slice_index (sized r (desired s r past) (available r past) t).ports (number % available r past))
  go None h = absurd (cc)
  go (Some t) h = refl

-- the fault of a request is the first one that applies
pub refused_endpoints : (b : Routing) (service : Service) (r : ℕ) → selection b.strategy service b.past ≡ Some r → available r b.past ≡ 0 → enter_refusal b service ≡ Some fault.NoEndpoints
refused_endpoints b service r h none =
    let empty : (available r b.past == 0) ≡ true = rw none refl in
    ap (enter_refusal_at b) h ∙ ap (λ t. fault_if t fault.NoEndpoints (fault_if (nat_le b.limits.numbers (given b.closed b.past)) fault.NumbersSpent (fault_if (is_full_for_enter b.limits b.past) fault.HistoryFull None))) empty

pub refused_numbers : (b : Routing) (service : Service) (r : ℕ) → selection b.strategy service b.past ≡ Some r → available r b.past ≢ 0 → b.limits.numbers ≤ given b.closed b.past
    → enter_refusal b service ≡ Some fault.NumbersSpent
refused_numbers b service r h some spent =
    let full : (available r b.past == 0) ≡ false = grind (arith, nat_tests) in
    let all : nat_le b.limits.numbers (given b.closed b.past) ≡ true = grind (arith, nat_tests) in
    ap (enter_refusal_at b) h ∙ ap (λ t. fault_if t fault.NoEndpoints (fault_if (nat_le b.limits.numbers (given b.closed b.past)) fault.NumbersSpent (fault_if (is_full_for_enter b.limits b.past) fault.HistoryFull None))) full
    ∙ ap (λ t. fault_if t fault.NumbersSpent (fault_if (is_full_for_enter b.limits b.past) fault.HistoryFull None)) all

unspent_test : (n m : ℕ) → n < m → nat_le m n ≡ false
unspent_test n m h = grind (arith, nat_tests)

some_test : (n : ℕ) → n ≢ 0 → (n == 0) ≡ false
some_test n h = grind (arith, nat_tests)

pub refused_full : (b : Routing) (service : Service) (r : ℕ) → selection b.strategy service b.past ≡ Some r → available r b.past ≢ 0 → given b.closed b.past < b.limits.numbers
    → b.limits.entries < length b.past + 1 + 3 * (all_open b.past + 1) → enter_refusal b service ≡ Some fault.HistoryFull
refused_full b service r h some unspent full =
    let over : is_full_for_enter b.limits b.past ≡ true = above b.limits.entries _ full in
    ap (enter_refusal_at b) h
    ∙ ap (λ t. fault_if t fault.NoEndpoints (fault_if (nat_le b.limits.numbers (given b.closed b.past)) fault.NumbersSpent (fault_if (is_full_for_enter b.limits b.past) fault.HistoryFull None))) (some_test _ some)
    ∙ ap (λ t. fault_if t fault.NumbersSpent (fault_if (is_full_for_enter b.limits b.past) fault.HistoryFull None)) (unspent_test _ _ unspent)
    ∙ ap (λ t. fault_if t fault.HistoryFull None) over
  where
    above : (m n : ℕ) → m < n → nat_lt m n ≡ true
    above m n h = grind (arith, nat_tests)

pub not_refused : (b : Routing) (service : Service) (r : ℕ) → selection b.strategy service b.past ≡ Some r → available r b.past ≢ 0 → given b.closed b.past < b.limits.numbers
    → length b.past + 1 + 3 * (all_open b.past + 1) ≤ b.limits.entries → enter_refusal b service ≡ None
not_refused b service r h some unspent room =
    let under : is_full_for_enter b.limits b.past ≡ false = below b.limits.entries _ room in
    ap (enter_refusal_at b) h
    ∙ ap (λ t. fault_if t fault.NoEndpoints (fault_if (nat_le b.limits.numbers (given b.closed b.past)) fault.NumbersSpent (fault_if (is_full_for_enter b.limits b.past) fault.HistoryFull None))) (some_test _ some)
    ∙ ap (λ t. fault_if t fault.NumbersSpent (fault_if (is_full_for_enter b.limits b.past) fault.HistoryFull None)) (unspent_test _ _ unspent)
    ∙ ap (λ t. fault_if t fault.HistoryFull None) under
  where
    below : (m n : ℕ) → n ≤ m → nat_lt m n ≡ false
    below m n h = grind (arith, nat_tests)
