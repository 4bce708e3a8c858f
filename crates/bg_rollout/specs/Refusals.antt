-- The fault of each call: the first that applies, other than an allocation failure.
use Rattle.std.specs.Prelude.{◌≡◌, ℕ, ◌+◌, ◌*◌, ◌^◌, ◌==◌, ◌⊎◌, Bool, ◌&&◌, ◌||◌, not, if◌then◌else◌, nat_lt, nat_le, List, length, Option, Some, None, is_none, unwrap_or, Result, Ok, Err}
use Rattle.std.specs.Option.{option_or}
use Rattle.bg_strategy.specs.declared.strategy.Strategy.{Strategy}
use Rattle.bg_strategy.specs.Label.{is_label}
use Rattle.bg_revisions.specs.PortLists.{are_ports}
use Rattle.bg_revisions.specs.Rosters.{well_formed}
use Rattle.bg_revisions.specs.declared.revision.Service.{Service}
use Rattle.bg_revisions.specs.declared.revision_fault.RevisionFault.TheVariants.{TooManyRevisions, NoSuchRevision, MoreThanDesired}
use Rattle.bg_history.specs.declared.entry.Entry.{Entry}
use Rattle.bg_history.specs.declared.entry.Entry.TheVariants as event
use Rattle.bg_history.specs.AttemptBounds.{moment, newest_of}
use Rattle.bg_history.specs.Sizes.{existing, last_number, desired, available}
use Rattle.bg_history.specs.Deadlines.{exists_in}
use Rattle.bg_history.specs.Requests.{open_requests, given}
use Rattle.bg_history.specs.Templates.{namesake}
use Rattle.bg_history.specs.Allowed.{selection, port_of}
use Rattle.bg_promotion.specs.Answers.{abort_answer, retry_answer, promote_answer, promote_full_answer, verdict_answer}
use Rattle.bg_history_laws.specs.Answers.{template_answer}
use Rattle.bg_rollout.specs.declared.limits.Limits.{Limits}
use Rattle.bg_history.specs.declared.control.Control.{Control}
use Rattle.bg_history.specs.declared.control.Control.TheVariants.{Tick, Deploy, Available, Verdict, Promote, PromoteFull, Abort, Retry}
use Rattle.bg_rollout.specs.declared.opening.SeatLimit.{SeatLimit}
use Rattle.bg_rollout.specs.declared.opening.SeatLimit.TheVariants.{Few, Many}
use Rattle.bg_rollout.specs.declared.ticket.Ticket.{Ticket}
use Rattle.bg_rollout.specs.declared.fault.OpenFault as opening
use Rattle.bg_rollout.specs.declared.fault.OpenFault.TheVariants as open_fault
use Rattle.bg_rollout.specs.declared.fault.EnterFault as enter
use Rattle.bg_rollout.specs.declared.fault.EnterFault.TheVariants as enter_fault
use Rattle.bg_rollout.specs.declared.control_fault.ControlFault as control
use Rattle.bg_rollout.specs.declared.control_fault.ControlFault.TheVariants as control_fault
use Rattle.bg_rollout.specs.ControlFaults.{of_verdict, of_promote, of_promote_full, of_abort, of_retry}
use Rattle.bg_rollout.specs.Routing.{Routing}

-- the fault if the test holds, else the next one
abbrev pub fault_if : {F : Type 0} → Bool → F → Option F → Option F
fault_if test fault next = if test then Some fault else next

-- an optional fault as a result: an error if there is a fault
abbrev pub refuse : {F : Type 0} → Option F → Result (Unit {0}) F
refuse None = Ok tt
refuse (Some e) = Err e

-- the greatest number of seats
abbrev pub most_seats : SeatLimit → ℕ
most_seats Few = 8
most_seats Many = 2048

-- the usual limits
abbrev pub usual_limits : Limits
usual_limits = record { entries = 1000000; numbers = 2 ^ 53 }

-- a limit is above the usual one
abbrev pub is_above_usual : Limits → Bool
is_above_usual l = nat_lt usual_limits.entries l.entries || nat_lt usual_limits.numbers l.numbers

-- the fault of an opening with at most so many seats, if it has one
abbrev pub open_refusal
    : SeatLimit → Strategy → List ℕ → List ℕ → ℕ → Limits → Option opening.OpenFault
open_refusal limit s name ports seats limits =
    fault_if (not (is_label name)) open_fault.BadName
    (fault_if (not (are_ports s.replicas ports)) open_fault.BadPorts
    (fault_if (not (nat_le 1 seats && nat_le seats (most_seats limit))) open_fault.BadSeats
    (fault_if (is_above_usual limits) open_fault.BadLimits None)))

-- the number of open requests
abbrev pub all_open : List Entry → ℕ
all_open past = length (open_requests past)

-- the past with one more entry, and three entries for each open request and for the new one, would exceed the limit
abbrev pub is_full_for_enter : Limits → List Entry → Bool
is_full_for_enter l past = nat_lt l.entries (length past + 1 + 3 * (all_open past + 1))

-- the past with 141 more entries, and three entries for each open request, would exceed the limit
abbrev pub is_full_for_control : Limits → List Entry → Bool
is_full_for_control l past = nat_lt l.entries (length past + 141 + 3 * all_open past)

abbrev pub enter_refusal_at : Routing → Option ℕ → Option enter.EnterFault
enter_refusal_at b None = Some enter_fault.NoPreview
enter_refusal_at b (Some r) =
    fault_if (available r b.past == 0) enter_fault.NoEndpoints
    (fault_if (nat_le b.limits.numbers (given b.closed b.past)) enter_fault.NumbersSpent
    (fault_if (is_full_for_enter b.limits b.past) enter_fault.HistoryFull None))

-- the fault of a request that enters at a service, if it has one
abbrev pub enter_refusal : Routing → Service → Option enter.EnterFault
enter_refusal b service = enter_refusal_at b (selection b.strategy service b.past)

-- the number that a deploy of this name gets: that of the revision of this name, else one above the greatest number
-- given
abbrev pub deployed_number : Routing → List ℕ → ℕ
deployed_number b name = unwrap_or (namesake b.opening name b.past) (last_number b.past + 1)

-- the entry of a control
abbrev pub event_of : Routing → Control → Entry
event_of b (Tick m) = event.Tick m
event_of b (Deploy name ports) = event.Deploy (deployed_number b name) name ports
event_of b (Available r n) = event.Available r n
event_of b (Verdict analysis result) = event.Verdict analysis result
event_of b Promote = event.Promote
event_of b PromoteFull = event.PromoteFull
event_of b Abort = event.Abort
event_of b Retry = event.Retry

-- the fault in a result as a fault of an event
abbrev pub fault_in
    : {A F : Type 0} → (F → control.ControlFault) → Result A F → Option control.ControlFault
fault_in told (Ok a) = None
fault_in told (Err e) = Some (told e)

-- the name is new, and 64 revisions exist
abbrev pub has_no_place : Routing → List ℕ → Bool
has_no_place b name =
    is_none (namesake b.opening name b.past) && nat_le 64 (length (existing b.past))

-- the fault of a deploy: of its name and ports; else of its template; else of the number of revisions
abbrev pub deploy_fault : Routing → List ℕ → List ℕ → Option control.ControlFault
deploy_fault b name ports =
    option_or (fault_in control_fault.Revision (well_formed b.strategy.replicas name ports))
    (option_or
    (fault_in control_fault.Revision (template_answer b.opening (newest_of b.past) name ports b.past))
    (fault_if (has_no_place b name) (control_fault.Revision TooManyRevisions) None))

-- the fault of the event itself
abbrev pub event_fault : Routing → Control → Option control.ControlFault
event_fault b (Tick m) =
    fault_if (nat_lt (2 ^ 53) m) control_fault.MomentTooLarge
    (fault_if (nat_lt m (moment b.past)) control_fault.MomentBack None)
event_fault b (Deploy name ports) = deploy_fault b name ports
event_fault b (Available r n) =
    fault_if (not (exists_in r b.past)) (control_fault.Revision NoSuchRevision)
    (fault_if (nat_lt (desired b.strategy r b.past) n) (control_fault.Revision MoreThanDesired) None)
event_fault b (Verdict analysis result) =
    fault_in of_verdict (verdict_answer analysis b.strategy b.past)
event_fault b Promote = fault_in of_promote (promote_answer b.strategy b.past)
event_fault b PromoteFull = fault_in of_promote_full (promote_full_answer b.past)
event_fault b Abort = fault_in of_abort (abort_answer b.past)
event_fault b Retry = fault_in of_retry (retry_answer b.past)

-- the fault of an event, if it has one
abbrev pub control_refusal : Routing → Control → Option control.ControlFault
control_refusal b c =
    option_or (event_fault b c)
    (fault_if (is_full_for_control b.limits b.past) control_fault.HistoryFull None)

-- e is the fault, or an allocation failure if there is no fault
abbrev pub IsRefusedBy : {F : Type 0} → Option F → F → F → Type 0
IsRefusedBy refusal out_of_memory e = (refusal ≡ Some e) ⊎ ((refusal ≡ None) × (e ≡ out_of_memory))

-- the result follows the fault: it is `Ok` only if there is none
abbrev pub AnswersBy : {A F : Type 0} → Option F → F → Result A F → Type 0
AnswersBy refusal out_of_memory (Ok a) = refusal ≡ None
AnswersBy refusal out_of_memory (Err e) = IsRefusedBy refusal out_of_memory e

-- the ticket of a request that enters at a service: the next number, the selected revision, and the port that this
-- number chooses among the available ones of that revision
pub record IsTicket (b : Routing) (service : Service) (t : Ticket) : Type 0 where
  pub number_is : t.number ≡ given b.closed b.past + 1
  pub revision_is : selection b.strategy service b.past ≡ Some t.revision
  pub port_is : port_of b.opening t.revision t.number b.past ≡ Some t.port
