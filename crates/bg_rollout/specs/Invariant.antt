-- The invariant of a rollout: its running state is what its history says.
use Rattle.std.specs.Prelude.{◌≡◌, ◌≤◌, ℕ, Bool, if◌then◌else◌, List, ◌∷◌, [], map, true, not, nat_lt, nat_le, ◌&&◌, ◌||◌, ◌==◌, Option, Some, None, is_some}
use Rattle.std.specs.List.{list_all}
use Rattle.bg_history.specs.declared.entry.Entry.{Entry}
use Rattle.bg_history.specs.Requests.{Request, open_requests, given}
use Rattle.bg_history.specs.Sizes.{last_number}
use Rattle.bg_history.specs.AttemptBounds.{moment}
use Rattle.bg_history.specs.Steps.{IsLegal}
use Rattle.bg_ledger.specs.declared.holding.Holding.{Holding}
use Rattle.bg_rollout.specs.RequestLists.{OpenAt, requests_of}
use Rattle.bg_revisions.specs.declared.revision.Revision.{Revision}
use Rattle.bg_revisions.specs.declared.revision.Selectors.{Selectors}
use Rattle.bg_revisions.specs.Rosters.{Listing}
use Rattle.bg_promotion.specs.declared.phase.Phase.{Phase}
use Rattle.bg_promotion.specs.declared.phase.Phase.TheVariants.{Steady, Scaling, PreAnalysis, Paused, Sizing, PostAnalysis, Aborted}
use Rattle.bg_promotion.specs.Core.{Core}
use Rattle.bg_promotion.specs.Represents.{CoreRepresents}
use Rattle.bg_scaledown.specs.Due.{deadline_in}
use Rattle.bg_history.specs.Tables.{Table, table_of}
use Rattle.bg_history_laws.specs.Listed.{revisions_of}
use Rattle.bg_rollout.specs.declared.rollout.Rollout.TheInside.{Inside}
use Rattle.bg_rollout.specs.PastState.{lists_of, SeatsInvariant}
use Rattle.bg_rollout.specs.Refusals.{all_open, usual_limits}
use Rattle.bg_rollout.specs.Routing.{Routing}
use Rattle.bg_rollout.specs.State.{RevisionState, State, state_of}

-- the two requests have different seats and different numbers
abbrev pub are_apart : Request → Request → Bool
are_apart p q = not (p.seat == q.seat) && not (p.number == q.number)

-- no two requests have the same seat or the same number
abbrev pub Differ : List Request → Type 0
Differ [] = Unit {0}
Differ (q ∷ rest) = (list_all (are_apart q) rest ≡ true) × Differ rest

-- the number of the request lies from 1 to the greatest number given
abbrev pub has_number : ℕ → Request → Bool
has_number greatest q = nat_le 1 q.number && nat_le q.number greatest

-- the invariant of the open requests: no two have the same seat or number, and each has a given number
pub record RequestsInvariant (closed : List ℕ) (past : List Entry) : Type 0 where
  pub differ : Differ (open_requests past)
  pub given : list_all (has_number (given closed past)) (open_requests past) ≡ true

-- the invariant of the routing: its history is legal; its lists, its records of the seats and its running state are
-- those of the history; and it keeps to its limits
pub record RoutingInvariant (b : Routing) : Type 0 where
  pub legal : IsLegal b.strategy b.opening b.closed b.past
  pub running : b.running ≡ state_of b.strategy b.opening b.closed b.past
  pub lists : b.lists ≡ lists_of b.past
  pub seats : SeatsInvariant b.opening b.closed b.past b.seats
  pub requests : RequestsInvariant b.closed b.past
  pub entries : b.limits.entries ≤ usual_limits.entries
  pub numbers : b.limits.numbers ≤ usual_limits.numbers
  pub spent : given b.closed b.past ≤ b.limits.numbers

-- the running state of a rollout, without its history: the core, the roster, the deadlines, the moment, the greatest
-- number given, and the number of open requests
pub record RunningParts : Type 0 where
  pub core : Core
  pub roster : Listing
  pub deadlines : Table
  pub moment : ℕ
  pub given : ℕ
  pub open_requests : ℕ

abbrev pub parts_of : {N : Type 0} → Inside N → RunningParts
parts_of r = record {
  core = r.core;
  roster = r.roster;
  deadlines = r.deadlines;
  moment = r.moment;
  given = r.given;
  open_requests = r.open;
}

-- the phase of a core; none while a step of the attempt is next
abbrev pub phase_in : Core → Option Phase
phase_in k =
    if k.halted then Some Aborted
    else if not k.halted && not k.running then Some Steady
    else if k.running && not k.attempt.ready then Some Scaling
    else if k.attempt.ready && not k.attempt.resumed && k.pre && not (is_some k.attempt.passed_at)
    then Some PreAnalysis
    else if is_some k.attempt.passed_at && not k.attempt.resumed
    && (not k.auto_promotion || nat_lt 0 k.auto_seconds)
    then Some Paused
    else if k.attempt.resumed && not k.attempt.switched then Some Sizing
    else if k.attempt.switched && k.post then Some PostAnalysis
    else None

-- the active, preview, stable and newest revisions of a core
abbrev pub selectors_in : Core → Selectors
selectors_in k = record {
  active = k.active;
  preview = (if k.running then k.newest else k.stable);
  stable = k.stable;
  newest = k.newest;
}

-- a revision of the roster, with its deadline in the table and the requests of its list
abbrev pub revision_shown : RunningParts → List OpenAt → Revision → RevisionState
revision_shown k lists v = record {
  revision = v;
  deadline = deadline_in k.deadlines v.number;
  requests = requests_of v.number lists;
}

-- the running parts as a state
abbrev pub state_shown : RunningParts → List OpenAt → List Holding → State
state_shown k lists seats = record {
  moment = k.moment;
  phase = phase_in k.core;
  selectors = selectors_in k.core;
  revisions = map (revision_shown k lists) k.roster.revisions;
  seats = seats;
}

-- a rollout as contracts see it, possibly in the middle of a call: the routing, and the number of places that are
-- reserved in the history
pub record RolloutModel : Type 0 where
  pub routing : Routing
  pub spare : ℕ

-- what contracts see of its fields
abbrev pub model_of : {N : Type 0} → Inside N → RolloutModel
model_of r = record {
  routing = record {
    strategy = r.strategy;
    limits = r.limits;
    opening = r.history.opening;
    closed = r.history.closed;
    past = r.history.past;
    lists = r.lists;
    seats = r.records.items;
    running = state_shown (parts_of r) r.lists r.records.items;
  };
  spare = r.history.spare;
}

-- the running state is what the history says
pub record PartsRepresent (b : Routing) (k : RunningParts) : Type 0 where
  pub routing : RoutingInvariant b
  pub core : CoreRepresents b.strategy k.core b.past
  pub revisions : k.roster.revisions ≡ revisions_of b.strategy b.opening b.past
  pub replicas : k.roster.replicas ≡ b.strategy.replicas
  pub last : k.roster.last ≡ last_number b.past
  pub deadlines : k.deadlines ≡ table_of b.strategy b.past
  pub moment : k.moment ≡ moment b.past
  pub given : k.given ≡ given b.closed b.past
  pub open_is : k.open_requests ≡ all_open b.past
