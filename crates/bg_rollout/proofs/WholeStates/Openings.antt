-- The invariant of a book that was just opened.
use Rattle.std.proofs.Common.{◌≡◌, ℕ, ◌+◌, ◌*◌, ◌<◌, ◌≤◌, Bool, true, false, not, ◌&&◌, ◌||◌, nat_lt, nat_le, List, [], ◌∷◌, replicate, sum, Option, Some, None, refl, sym, ap, ◌∙◌, subst, arith, lit≤}
use Rattle.std.proofs.lemmas.Bool.Decides.{nat_tests}
use Rattle.std.proofs.lemmas.List.{get_or-replicate, length-replicate}
use Rattle.std.proofs.lemmas.List.Folds.{sum_by-replicate}
use Rattle.bg_strategy.specs.declared.strategy.Strategy.{Strategy}
use Rattle.bg_strategy.specs.Label.{is_label}
use Rattle.bg_revisions.specs.PortLists.{are_ports}
use Rattle.bg_promotion.specs.Core.{Core}
use Rattle.bg_promotion.specs.Represents.{CoreRepresents}
use Rattle.bg_rollout.specs.declared.limits.Limits.{Limits}
use Rattle.bg_ledger.specs.declared.holding.Holding.{Holding}
use Rattle.bg_rollout.specs.declared.opening.SeatLimit.{SeatLimit}
use Rattle.bg_rollout.specs.declared.opening.SeatLimit.TheVariants.{Few, Many}
use Rattle.bg_rollout.specs.declared.fault.OpenFault as opening
use Rattle.bg_rollout.specs.declared.fault.OpenFault.TheVariants as fault
use Rattle.bg_rollout.specs.Refusals.{fault_if, is_above_usual, most_seats, open_refusal, usual_limits}
use Rattle.bg_rollout.specs.Changes.{NewSeats, opened}
use Rattle.bg_rollout.specs.PastState.{lists_of, seat_of}
use Rattle.bg_rollout.specs.Invariant.{RunningParts, PartsRepresent, state_shown}
use Rattle.bg_rollout.specs.Routing.{Routing}
use Rattle.bg_rollout.specs.State.{State}
use Rattle.bg_rollout.proofs.ControlEvents.Events.{passed, within}
use Rattle.bg_rollout.proofs.WholeStates.Folding.{fold_of}
use Rattle.bg_rollout.proofs.OpenRequests.Requests.{and_both}

it_is : (t : Bool) → not t ≡ false → t ≡ true
it_is true h = refl
it_is false h = absurd (cc)

neither : (s t : Bool) → (s || t) ≡ false → (s ≡ false) × (t ≡ false)
neither false t h = (refl, h)
neither true t h = absurd (cc)

-- what holds of an opening without a fault
pub record Fits (s : Strategy) (name ports : List ℕ) (seats : ℕ) (limits : Limits) : Type 0 where
  pub name_fits : is_label name ≡ true
  pub ports_fit : are_ports s.replicas ports ≡ true
  pub seats_fit : (nat_le 1 seats && nat_le seats 2048) ≡ true
  pub entries_fit : limits.entries ≤ usual_limits.entries
  pub numbers_fit : limits.numbers ≤ usual_limits.numbers

-- a number that passes the test of a range lies in the range
pub in_range : (most n : ℕ) → (nat_le 1 n && nat_le n most) ≡ true → (1 ≤ n) × (n ≤ most)
in_range most n h = (grind (arith, nat_tests), grind (arith, nat_tests))

-- and in each wider one
in_wider : (most n : ℕ) → most ≤ 2048 → (nat_le 1 n && nat_le n most) ≡ true → (nat_le 1 n && nat_le n 2048) ≡ true
in_wider most n le h = let range = in_range most n h in let one = range.0 in let two = range.1 in grind (arith, nat_tests)

none_if : (test : Bool) (f : opening.OpenFault) (next : Option opening.OpenFault) → test ≡ false → next ≡ None → fault_if test f next ≡ None
none_if false f next e h = h
none_if true f next e h = absurd (cc)

-- an opening without a fault has as many seats as it may have
pub seats_in_range : (limit : SeatLimit) (s : Strategy) (name ports : List ℕ) (seats : ℕ) (limits : Limits) → open_refusal limit s name ports seats limits ≡ None → (1 ≤ seats) × (seats ≤ most_seats limit)
seats_in_range limit s name ports seats limits h =
    let one = passed (not (is_label name)) fault.BadName _ h in
    let two = passed (not (are_ports s.replicas ports)) fault.BadPorts _ one.1 in
    let three = passed (not (nat_le 1 seats && nat_le seats (most_seats limit))) fault.BadSeats _ two.1 in
    in_range (most_seats limit) seats (it_is (nat_le 1 seats && nat_le seats (most_seats limit)) three.0)

no_more_than_many : (limit : SeatLimit) → most_seats limit ≤ 2048
no_more_than_many Few = lit≤ tt
no_more_than_many Many = lit≤ tt

-- and has no fault as an opening with many seats
pub widened : (limit : SeatLimit) (s : Strategy) (name ports : List ℕ) (seats : ℕ) (limits : Limits) → open_refusal limit s name ports seats limits ≡ None → open_refusal Many s name ports seats limits ≡ None
widened limit s name ports seats limits h =
    let one = passed (not (is_label name)) fault.BadName _ h in
    let two = passed (not (are_ports s.replicas ports)) fault.BadPorts _ one.1 in
    let three = passed (not (nat_le 1 seats && nat_le seats (most_seats limit))) fault.BadSeats _ two.1 in
    let fit = in_wider (most_seats limit) seats (no_more_than_many limit) (it_is (nat_le 1 seats && nat_le seats (most_seats limit)) three.0) in
    none_if _ fault.BadName _ one.0 (none_if _ fault.BadPorts _ two.0 (none_if _ fault.BadSeats _ (ap not fit) three.1))

pub fits : (s : Strategy) (name ports : List ℕ) (seats : ℕ) (limits : Limits) → open_refusal Many s name ports seats limits ≡ None → Fits s name ports seats limits
fits s name ports seats limits h =
    let one = passed (not (is_label name)) fault.BadName _ h in
    let two = passed (not (are_ports s.replicas ports)) fault.BadPorts _ one.1 in
    let three = passed (not (nat_le 1 seats && nat_le seats 2048)) fault.BadSeats _ two.1 in
    let four = passed (is_above_usual limits) fault.BadLimits None three.1 in
    let usual = neither (nat_lt usual_limits.entries limits.entries) (nat_lt usual_limits.numbers limits.numbers) four.0 in
    record {
      name_fits = it_is (is_label name) one.0;
      ports_fit = it_is (are_ports s.replicas ports) two.0;
      seats_fit = it_is (nat_le 1 seats && nat_le seats 2048) three.0;
      entries_fit = within usual_limits.entries limits.entries usual.0;
      numbers_fit = within usual_limits.numbers limits.numbers usual.1;
    }

and_three : (a b c : Bool) → a ≡ true → (b && c) ≡ true → (a && b && c) ≡ true
and_three true b c h k = k
and_three false b c h k = absurd (cc)

none_closed : (n : ℕ) → sum (replicate n 0) ≡ 0
none_closed n = omega (arith, sum_by-replicate (λ (x : ℕ). x) n 0)

new_seat : (n i : ℕ) → i < n → seat_of (replicate n 0) i [] ≡ record { index = i; calls = 0; number = 0; revision = 0; port = 0 }
new_seat n i h = ap (λ (c : ℕ). record { index = i; calls = 0 + 2 * c; number = 0; revision = 0; port = 0 }) (get_or-replicate n i 0 0 h)

-- the fields of a rollout that was just opened
pub holds_invariant-opened : (s : Strategy) (name ports : List ℕ) (count : ℕ) (limits : Limits) (seats : List Holding) (core : Core) → Fits s name ports count limits
    → CoreRepresents s core [] → NewSeats count seats
    → PartsRepresent (opened s name ports count limits seats) (record {
      core = core;
      roster = record { replicas = s.replicas; revisions = record { number = 1; name = name; ports = ports; desired = s.replicas; available = 0 } ∷ []; last = 1 };
      deadlines = record { delay = s.delay; abort_delay = s.abort_delay; limit = s.revision_limit; marks = [] };
      moment = 0;
      given = 0;
      open_requests = 0;
    })
holds_invariant-opened s name ports count limits seats core fit represents new = record {
  routing = record {
    legal = record {
      opening = and_three (is_label name && are_ports s.replicas ports) (nat_le 1 count) (nat_le count 2048) (and_both (is_label name) (are_ports s.replicas ports) fit.name_fits fit.ports_fit) fit.seats_fit;
      seats = length-replicate count 0;
      allowed = refl;
      numbers = refl;
    };
    running = refl;
    lists = refl;
    seats = record { count = new.count_is; each = λ i h. new.each i h ∙ ap Some (sym (new_seat count i h)) };
    requests = record { differ = tt; given = refl };
    entries = fit.entries_fit;
    numbers = fit.numbers_fit;
    spent = omega (arith, none_closed count);
  };
  core = represents;
  revisions = refl;
  replicas = refl;
  last = refl;
  deadlines = refl;
  moment = refl;
  given = omega (arith, none_closed count);
  open_is = refl;
}

-- the running state of a rollout that was just opened
abbrev pub running-opened : Strategy → List ℕ → List ℕ → Core → RunningParts
running-opened s name ports core = record {
  core = core;
  roster = record { replicas = s.replicas; revisions = record { number = 1; name = name; ports = ports; desired = s.replicas; available = 0 } ∷ []; last = 1 };
  deadlines = record { delay = s.delay; abort_delay = s.abort_delay; limit = s.revision_limit; marks = [] };
  moment = 0;
  given = 0;
  open_requests = 0;
}

-- that running state as a state
pub shown-opened : (s : Strategy) (name ports : List ℕ) (count : ℕ) (limits : Limits) (seats : List Holding) (core : Core) → Fits s name ports count limits
    → CoreRepresents s core [] → NewSeats count seats
    → record (opened s name ports count limits seats) { running = state_shown (running-opened s name ports core) (lists_of []) seats } ≡ opened s name ports count limits seats
shown-opened s name ports count limits seats core fit represents new =
    ap (λ (x : State). record (opened s name ports count limits seats) { running = x })
    (fold_of (opened s name ports count limits seats) (running-opened s name ports core) (holds_invariant-opened s name ports count limits seats core fit represents new))

pub holds_invariant-shown : (s : Strategy) (name ports : List ℕ) (count : ℕ) (limits : Limits) (seats : List Holding) (core : Core) → Fits s name ports count limits
    → CoreRepresents s core [] → NewSeats count seats
    → PartsRepresent (record (opened s name ports count limits seats) { running = state_shown (running-opened s name ports core) (lists_of []) seats }) (running-opened s name ports core)
holds_invariant-shown s name ports count limits seats core fit represents new =
    subst (λ (v : Routing). PartsRepresent v (running-opened s name ports core)) (sym (shown-opened s name ports count limits seats core fit represents new))
    (holds_invariant-opened s name ports count limits seats core fit represents new)
