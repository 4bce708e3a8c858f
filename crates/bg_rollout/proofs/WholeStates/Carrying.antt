-- The invariant after an entry that comes from no seat was recorded.
use Rattle.std.proofs.Common.{◌≡◌, ◌==◌, ◌+◌, ◌*◌, ℕ, true, length, List, ◌∷◌, find, sum, slice_index, Some, refl, sym, ap, ◌∙◌, subst}
use Rattle.std.specs.List.{list_all}
use Rattle.bg_history.specs.declared.entry.Entry.{Entry}
use Rattle.bg_history.specs.Kept.{Kept}
use Rattle.bg_history.specs.AttemptBounds.{moment}
use Rattle.bg_history.specs.Sizes.{last_number}
use Rattle.bg_history.specs.Requests.{Request, open_requests, held_by, request_numbers, entered, given, calls_in, calls_of}
use Rattle.bg_history.specs.Allowed.{is_allowed}
use Rattle.bg_history.specs.Steps.{all_given}
use Rattle.bg_promotion.specs.Core.{Core}
use Rattle.bg_promotion.specs.Represents.{CoreRepresents}
use Rattle.bg_history.specs.Tables.{table_of}
use Rattle.bg_history_laws.specs.Listed.{revisions_of}
use Rattle.bg_rollout.specs.RequestLists.{OpenAt}
use Rattle.bg_rollout.specs.PastState.{lists_of, seated, seat_of}
use Rattle.bg_rollout.specs.Changes.{with_past}
use Rattle.bg_rollout.specs.Routing.{Routing}
use Rattle.bg_rollout.specs.declared.rollout.Rollout.TheInside.{Inside}
use Rattle.bg_rollout.specs.Invariant.{RolloutModel, Differ, has_number, RequestsInvariant, RoutingInvariant, RunningParts, PartsRepresent, model_of, state_shown}
use Rattle.bg_rollout.specs.Recording.{Recorded}
use Rattle.bg_rollout.specs.State.{State, state_of}
use Rattle.bg_rollout.proofs.WholeStates.Folding.{fold_of}
use Rattle.bg_rollout.proofs.ControlEvents.Legal.{legal_more}

-- what holds of such an entry in the fields of a rollout
pub allowed_inside : (inside now : RolloutModel) (e : Entry) → inside ≡ now → is_allowed now.routing.strategy now.routing.opening e now.routing.past ≡ true → is_allowed inside.routing.strategy inside.routing.opening e inside.routing.past ≡ true
allowed_inside inside now e is allowed = subst (λ (m : RolloutModel). is_allowed m.routing.strategy m.routing.opening e m.routing.past ≡ true) (sym is) allowed

pub core_inside : (inside now : RolloutModel) (core : Core) (e : Entry) → inside ≡ now → CoreRepresents now.routing.strategy core (e ∷ now.routing.past) → CoreRepresents inside.routing.strategy core (e ∷ inside.routing.past)
core_inside inside now core e is holds_invariant = subst (λ (m : RolloutModel). CoreRepresents m.routing.strategy core (e ∷ m.routing.past)) (sym is) holds_invariant

-- the entry belongs to no request
pub record IsPlain (e : Entry) (past : List Entry) : Type 0 where
  pub requests : open_requests (e ∷ past) ≡ open_requests past
  pub numbers : request_numbers (e ∷ past) ≡ request_numbers past
  pub entered : entered (e ∷ past) ≡ entered past
  pub calls : (i : ℕ) → calls_in i (e ∷ past) ≡ calls_in i past

-- the running state after such an entry
pub record Carries (b : Routing) (k : RunningParts) (e : Entry) (new : RunningParts) : Type 0 where
  pub allowed : is_allowed b.strategy b.opening e b.past ≡ true
  pub plain : IsPlain e b.past
  pub core : CoreRepresents b.strategy new.core (e ∷ b.past)
  pub revisions : new.roster.revisions ≡ revisions_of b.strategy b.opening (e ∷ b.past)
  pub replicas : new.roster.replicas ≡ k.roster.replicas
  pub last : new.roster.last ≡ last_number (e ∷ b.past)
  pub deadlines : new.deadlines ≡ table_of b.strategy (e ∷ b.past)
  pub moment : new.moment ≡ moment (e ∷ b.past)
  pub given : new.given ≡ k.given
  pub open_is : new.open_requests ≡ k.open_requests

given_same : (closed : List ℕ) (e : Entry) (past : List Entry) → IsPlain e past → given closed (e ∷ past) ≡ given closed past
given_same closed e past plain = ap (λ (n : ℕ). n + sum closed) plain.entered

seat_same : (closed : List ℕ) (e : Entry) (past : List Entry) (i : ℕ) → IsPlain e past → seat_of closed i (e ∷ past) ≡ seat_of closed i past
seat_same closed e past i plain =
    ap (λ (n : ℕ). seated i (n + 2 * slice_index closed i) (held_by i (e ∷ past))) (plain.calls i)
    ∙ ap (λ (qs : List Request). seated i (calls_of closed i past) (find (λ q. q.seat == i) qs)) plain.requests

requests_same : (closed : List ℕ) (e : Entry) (past : List Entry) → IsPlain e past → RequestsInvariant closed past → RequestsInvariant closed (e ∷ past)
requests_same closed e past plain represents = record {
  differ = subst Differ (sym plain.requests) represents.differ;
  given =
      ap (λ (n : ℕ). list_all (has_number n) (open_requests (e ∷ past))) (given_same closed e past plain)
      ∙ ap (λ (qs : List Request). list_all (has_number (given closed past)) qs) plain.requests ∙ represents.given;
}

routing_same : (b : Routing) (e : Entry) → RoutingInvariant b → is_allowed b.strategy b.opening e b.past ≡ true → IsPlain e b.past → RoutingInvariant (with_past b (e ∷ b.past) b.seats)
routing_same b e represents allowed plain = record {
  legal = legal_more b.strategy b.opening b.closed e b.past represents.legal allowed
      (ap (λ (n : ℕ). all_given n (request_numbers (e ∷ b.past))) (given_same b.closed e b.past plain)
      ∙ ap (λ (ns : List ℕ). all_given (given b.closed b.past) ns) plain.numbers ∙ represents.legal.numbers);
  running = refl;
  lists = refl;
  seats = record { count = represents.seats.count; each = λ i h. represents.seats.each i h ∙ ap Some (sym (seat_same b.closed e b.past i plain)) };
  requests = requests_same b.closed e b.past plain represents.requests;
  entries = represents.entries;
  numbers = represents.numbers;
  spent = rw (given_same b.closed e b.past plain) represents.spent;
}

represents_after : (b : Routing) (k : RunningParts) (e : Entry) (new : RunningParts) → PartsRepresent b k → Carries b k e new → PartsRepresent (with_past b (e ∷ b.past) b.seats) new
represents_after b k e new represents carried = record {
  routing = routing_same b e represents.routing carried.allowed carried.plain;
  core = carried.core;
  revisions = carried.revisions;
  replicas = carried.replicas ∙ represents.replicas;
  last = carried.last;
  deadlines = carried.deadlines;
  moment = carried.moment;
  given = carried.given ∙ represents.given ∙ sym (given_same b.closed e b.past carried.plain);
  open_is = carried.open_is ∙ represents.open_is ∙ ap (λ (qs : List Request). length qs) (sym carried.plain.requests);
}

-- the routing after the entry was pushed onto the history
routing_after : (b : Routing) (e : Entry) (lists : List OpenAt) (running : State) (history old : Kept)
    → old ≡ record { opening = b.opening; closed = b.closed; past = b.past; spare = old.spare }
    → history ≡ record old { past = e ∷ old.past; spare = history.spare } → lists ≡ lists_of (e ∷ b.past)
    → running ≡ state_of b.strategy b.opening b.closed (e ∷ b.past)
    → record b { opening = history.opening; closed = history.closed; past = history.past; lists = lists; running = running } ≡ with_past b (e ∷ b.past) b.seats
routing_after b e lists running history old is_old entry same_lists same_state =
    let hi : history ≡ record { opening = b.opening; closed = b.closed; past = e ∷ b.past; spare = history.spare } =
    entry ∙ ap (λ (h : Kept). record h { past = e ∷ h.past; spare = history.spare }) is_old in
    ap (λ (h : Kept). record b { opening = h.opening; closed = h.closed; past = h.past; lists = lists; running = running }) hi
    ∙ ap (λ (ls : List OpenAt). record b { past = e ∷ b.past; lists = ls; running = running }) same_lists
    ∙ ap (λ (x : State). record b { past = e ∷ b.past; lists = lists_of (e ∷ b.past); running = x }) same_state

-- the same if the running state is what the history says
routing_carried : (b : Routing) (k : RunningParts) (e : Entry) (new : RunningParts) (lists : List OpenAt) (history old : Kept) → PartsRepresent b k → Carries b k e new
    → old ≡ record { opening = b.opening; closed = b.closed; past = b.past; spare = old.spare }
    → history ≡ record old { past = e ∷ old.past; spare = history.spare } → lists ≡ lists_of (e ∷ b.past)
    → record b { opening = history.opening; closed = history.closed; past = history.past; lists = lists; running = state_shown new lists b.seats } ≡ with_past b (e ∷ b.past) b.seats
routing_carried b k e new lists history old represents carried is_old entry same_lists =
    routing_after b e lists (state_shown new lists b.seats) history old is_old entry same_lists
    (ap (λ (ls : List OpenAt). state_shown new ls b.seats) same_lists ∙ fold_of (with_past b (e ∷ b.past) b.seats) new (represents_after b k e new represents carried))

-- the invariant after the entry, in the fields of a rollout
pub represents_recorded : (b : Routing) (k : RunningParts) (e : Entry) (new : RunningParts) (lists : List OpenAt) (history old : Kept) → PartsRepresent b k → Carries b k e new
    → old ≡ record { opening = b.opening; closed = b.closed; past = b.past; spare = old.spare }
    → history ≡ record old { past = e ∷ old.past; spare = history.spare } → lists ≡ lists_of (e ∷ b.past)
    → PartsRepresent (record b { opening = history.opening; closed = history.closed; past = history.past; lists = lists; running = state_shown new lists b.seats }) new
represents_recorded b k e new lists history old represents carried is_old entry same_lists =
    subst (λ (v : Routing). PartsRepresent v new) (sym (routing_carried b k e new lists history old represents carried is_old entry same_lists)) (represents_after b k e new represents carried)

-- the entry was recorded
pub recorded_by : (b : Routing) (k : RunningParts) (now left : RolloutModel) (e : Entry) (new : RunningParts) (lists : List OpenAt) (history old : Kept) → PartsRepresent b k → Carries b k e new
    → record { routing = b; spare = old.spare } ≡ now
    → left ≡ record {
      routing = record b { opening = history.opening; closed = history.closed; past = history.past; lists = lists; running = state_shown new lists b.seats };
      spare = history.spare;
    }
    → old ≡ record { opening = b.opening; closed = b.closed; past = b.past; spare = old.spare }
    → history ≡ record old { past = e ∷ old.past; spare = history.spare } → history.spare + 1 ≡ old.spare → lists ≡ lists_of (e ∷ b.past)
    → Recorded e now left
recorded_by b k now left e new lists history old represents carried is is_left is_old entry less same_lists =
    subst (λ (m : RolloutModel). Recorded e m left) is
    (subst (λ (m : RolloutModel). Recorded e (record { routing = b; spare = old.spare }) m) (sym is_left)
    (record { routing = routing_carried b k e new lists history old represents carried is_old entry same_lists; spare = less }))

-- the same of the rollout after the call
pub recorded_left : {N : Type 0} (inside left : Inside N) (now : RolloutModel) (core : Core) (history : Kept) (e : Entry) → inside ≡ left
    → Recorded e now (model_of (record inside { core = core; history = history })) → Recorded e now (model_of (record left { core = core; history = history }))
recorded_left inside left now core history e is made = subst (λ (i : Inside _). Recorded e now (model_of (record i { core = core; history = history }))) is made
