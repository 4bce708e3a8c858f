-- The invariant after a request entered.
use Rattle.std.proofs.Common.{◌≡◌, ℕ, ◌+◌, ◌*◌, ◌<◌, ◌≤◌, false, ◌==◌, nat_le, List, [], ◌∷◌, ◌++◌, length, slice_get, slice_set, sum, Option, Some, None, refl, sym, ap, ◌∙◌, arith, length-append}
use Rattle.std.proofs.lemmas.Bool.Decides.{nat_tests}
use Rattle.bg_revisions.specs.declared.revision.Service.{Service}
use Rattle.bg_history.specs.Sizes.{existing, available, Ascends}
use Rattle.bg_history.specs.Allowed.{selection}
use Rattle.bg_history.specs.Requests.{Request, open_requests, held_by, entered, given, calls_of}
use Rattle.bg_promotion.specs.Represents.{CoreRepresents}
use Rattle.bg_rollout.specs.declared.ticket.Ticket.{Ticket}
use Rattle.bg_ledger.specs.declared.holding.Holding.{Holding}
use Rattle.bg_rollout.specs.declared.fault.EnterFault.TheVariants as fault
use Rattle.bg_rollout.specs.RequestLists.{OpenAt, changed}
use Rattle.bg_rollout.specs.PastState.{lists_of, seated}
use Rattle.bg_rollout.specs.Refusals.{all_open, is_full_for_enter, enter_refusal, enter_refusal_at, IsTicket}
use Rattle.bg_rollout.specs.Changes.{enter_entry, seat_in, with_past}
use Rattle.bg_rollout.specs.Routing.{Routing}
use Rattle.bg_rollout.specs.Invariant.{RoutingInvariant, RunningParts, PartsRepresent}
use Rattle.bg_rollout.proofs.ControlEvents.Events.{passed, within}
use Rattle.bg_rollout.proofs.ControlEvents.Legal.{legal-Enter, requests-Enter, entered-one}
use Rattle.bg_rollout.proofs.OpenRequests.Lists.{lists-Enter}
use Rattle.bg_rollout.proofs.OpenRequests.Requests.{eq_sym}
use Rattle.bg_rollout.proofs.SeatRecords.Seating.{seated_of, out_holds_none}
use Rattle.bg_rollout.proofs.SeatRecords.Seats.{seats_one_changed, seat-Enter_same, seat-Enter_other}

-- what holds of an accepted request
pub record AcceptedEvent (b : Routing) (r : ℕ) : Type 0 where
  pub endpoint : 1 ≤ available r b.past
  pub unspent : given b.closed b.past < b.limits.numbers
  pub room : length b.past + 1 + 3 * (all_open b.past + 1) ≤ b.limits.entries

pub accepted_by : (b : Routing) (service : Service) (r : ℕ) → enter_refusal b service ≡ None → selection b.strategy service b.past ≡ Some r → AcceptedEvent b r
accepted_by b service r refusal selected =
    let at_r : enter_refusal_at b (Some r) ≡ None = ap (enter_refusal_at b) (sym selected) ∙ refusal in
    let one = passed (available r b.past == 0) fault.NoEndpoints _ at_r in
    let two = passed (nat_le b.limits.numbers (given b.closed b.past)) fault.NumbersSpent _ one.1 in
    let three = passed (is_full_for_enter b.limits b.past) fault.HistoryFull None two.1 in
    record {
      endpoint = some (available r b.past) one.0;
      unspent = below b.limits.numbers (given b.closed b.past) two.0;
      room = within b.limits.entries _ three.0;
    } where
      some : (n : ℕ) → (n == 0) ≡ false → 1 ≤ n
      some n h = grind (arith, nat_tests)

      below : (m n : ℕ) → nat_le m n ≡ false → n < m
      below m n h = grind (arith, nat_tests)

-- the lists after the request entered
pub lists_entered : (b : Routing) (seat : Holding) (service : Service) (t : Ticket) (new : List OpenAt) → RoutingInvariant b → Ascends (existing b.past)
    → new ≡ changed t.revision (λ requests. requests ++ record { seat = seat.index; number = t.number } ∷ []) b.lists
    → new ≡ lists_of (enter_entry seat.index service t ∷ b.past)
lists_entered b seat service t new represents ascends made =
    made ∙ ap (changed t.revision (λ requests. requests ++ record { seat = seat.index; number = t.number } ∷ [])) represents.lists
    ∙ sym (lists-Enter b.past seat.index service t.number t.revision t.port ascends)

-- one more request is open
pub one_more : (b : Routing) (seat : Holding) (service : Service) (t : Ticket) → all_open (enter_entry seat.index service t ∷ b.past) ≡ all_open b.past + 1
one_more b seat service t = length-append (open_requests b.past) (record { seat = seat.index; number = t.number; revision = t.revision; port = t.port } ∷ [])

-- the routing after a request entered
routing_entered : (b : Routing) (service : Service) (t : Ticket) (seat : Holding) → RoutingInvariant b → enter_refusal b service ≡ None → IsTicket b service t
    → slice_get b.seats seat.index ≡ Some seat → seat.number ≡ 0
    → RoutingInvariant (with_past b (enter_entry seat.index service t ∷ b.past) (slice_set b.seats seat.index (seat_in seat t)))
routing_entered b service t seat represents refusal ticket known zero_number =
    let past = b.past in
    let ok = accepted_by b service t.revision refusal ticket.revision_is in
    let mine = seated_of b seat represents known in
    let none = out_holds_none b seat represents known zero_number in
    let i = seat.index in
    let next : given b.closed (enter_entry i service t ∷ past) ≡ given b.closed past + 1 = entered-one (entered past) (sum b.closed) in
    record {
      legal = legal-Enter _ _ _ past i service t.number t.revision t.port represents.legal
          (record { within = mine.within; out = none; selected = ticket.revision_is; endpoint = ok.endpoint; next = ticket.number_is; port_is = ticket.port_is });
      running = refl;
      lists = refl;
      seats = seats_one_changed b.opening b.closed past _ b.seats i _ represents.seats mine.within
          (ap (λ (v : Holding). record { index = i; calls = v.calls + 1; number = t.number; revision = t.revision; port = t.port }) (sym mine.is)
          ∙ ap (λ (n : ℕ). record { index = i; calls = n + 1; number = t.number; revision = t.revision; port = t.port }) (seated_calls (held_by i past))
          ∙ sym (seat-Enter_same b.closed past i service t.number t.revision t.port none))
          (λ j other. seat-Enter_other b.closed past i j service t.number t.revision t.port (eq_sym i j ∙ other));
      requests = requests-Enter b.closed past i service t.number t.revision t.port represents.requests none ticket.number_is;
      entries = represents.entries;
      numbers = represents.numbers;
      spent = omega (arith, next, ok.unspent);
    } where
      seated_calls : (h : Option Request) → (seated seat.index (calls_of b.closed seat.index b.past) h).calls ≡ calls_of b.closed seat.index b.past
      seated_calls None = refl
      seated_calls (Some q) = refl

-- the running state after the request entered
pub represents_entered : (b : Routing) (k : RunningParts) (service : Service) (t : Ticket) (seat : Holding) → PartsRepresent b k → CoreRepresents b.strategy k.core (enter_entry seat.index service t ∷ b.past)
    → enter_refusal b service ≡ None → IsTicket b service t → slice_get b.seats seat.index ≡ Some seat → seat.number ≡ 0
    → PartsRepresent (with_past b (enter_entry seat.index service t ∷ b.past) (slice_set b.seats seat.index (seat_in seat t))) (record k { given = t.number; open_requests = k.open_requests + 1 })
represents_entered b k service t seat represents core refusal ticket known zero_number = record {
  routing = routing_entered b service t seat represents.routing refusal ticket known zero_number;
  core = core;
  revisions = represents.revisions;
  replicas = represents.replicas;
  last = represents.last;
  deadlines = represents.deadlines;
  moment = represents.moment;
  given = ticket.number_is ∙ sym (entered-one (entered b.past) (sum b.closed));
  open_is = omega (arith, represents.open_is, one_more b seat service t);
}
