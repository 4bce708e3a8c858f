-- Following the entries of a journal.
use Rattle.std.specs.Prelude.{◌≡◌, ℕ, ◌+◌, Bool, true, false, not, ◌&&◌, ◌==◌, ◌<◌, List, [], reverse, take, length, slice_get, Some, IsTrue, ⊤}
use Rattle.bg_strategy.specs.declared.strategy.Strategy.{Strategy}
use Rattle.bg_history.specs.declared.entry.Entry.{Entry}
use Rattle.bg_history.specs.declared.entry.Entry.TheVariants as entry
use Rattle.bg_history.specs.declared.entry.Outcome.{Outcome}
use Rattle.bg_history.specs.declared.entry.Outcome.TheVariants.{Ready, Resumed, Switched, Promoted, ScaledDown, Removed}
use Rattle.bg_history.specs.Kept.{Opening}
use Rattle.bg_history.specs.Allowed.{is_allowed}
use Rattle.bg_history.specs.Requests.{open_requests}
use Rattle.bg_history.specs.Steps.{all_allowed, is_settled, Follows, with_outcomes, IsLegal}
use Rattle.bg_history_laws.specs.Journaled.{is_of_request}
use Rattle.bg_rollout.specs.declared.follow_fault.FollowFault.{FollowFault}
use Rattle.bg_rollout.specs.declared.follow_fault.FollowFault.TheVariants as follow
use Rattle.bg_rollout.specs.declared.follow_fault.JournalFault.{JournalFault}
use Rattle.bg_rollout.specs.declared.follow_fault.JournalFault.TheVariants as journal
use Rattle.bg_rollout.specs.declared.limits.Limits.{Limits}
use Rattle.bg_rollout.specs.Changes.{with_past}
use Rattle.bg_rollout.specs.Routing.{Routing}

-- the entry is an event that comes from no seat
abbrev pub is_event : Entry → Bool
is_event (entry.Outcome x) = false
is_event (entry.Enter seat service number r port) = false
is_event (entry.Leave seat number r) = false
is_event _ = true

-- the entry is such an event, and the past allows it
abbrev pub is_event_allowed : Routing → Entry → Bool
is_event_allowed b e = is_event e && is_allowed b.strategy b.opening e b.past

-- the entry belongs to no request, and the past allows it
abbrev pub may_follow : Routing → Entry → Bool
may_follow b e = not (is_of_request e) && is_allowed b.strategy b.opening e b.past

-- the two outcomes are the same
abbrev pub same_outcome : Outcome → Outcome → Bool
same_outcome (Ready q) (Ready r) = q == r
same_outcome (Resumed q) (Resumed r) = q == r
same_outcome (Switched q) (Switched r) = q == r
same_outcome (Promoted q) (Promoted r) = q == r
same_outcome (ScaledDown q) (ScaledDown r) = q == r
same_outcome (Removed q) (Removed r) = q == r
same_outcome _ _ = false

-- the reason why an entry isn't followed
abbrev pub FollowFaultIs : Routing → Entry → FollowFault → Type 0
FollowFaultIs b e follow.OfRequest = is_of_request e ≡ true
FollowFaultIs b e follow.NotAllowed =
    (is_of_request e ≡ false) × (is_allowed b.strategy b.opening e b.past ≡ false)
FollowFaultIs b e follow.OutOfMemory = may_follow b e ≡ true

-- the fault of a journal whose entry at a place isn't followed for this reason
abbrev pub fault_at : ℕ → FollowFault → JournalFault
fault_at place follow.OfRequest = journal.OfRequest place
fault_at place follow.NotAllowed = journal.NotAllowed place
fault_at place follow.OutOfMemory = journal.OutOfMemory

-- the past of the first n entries, which are the oldest ones
abbrev pub first_entries : ℕ → List Entry → List Entry
first_entries n entries = reverse (take n entries)

-- the entries before the place may be followed one after the other, and the entry at the place is the first one of
-- which this isn't so
pub record StopsAt (s : Strategy) (o : Opening) (entries : List Entry) (place : ℕ)
    (e : Entry) : Type 0 where
  pub entry : slice_get entries place ≡ Some e
  pub before : all_allowed s o (first_entries place entries) ≡ true

-- the reason why a journal isn't resumed
abbrev pub JournalFaultIs : Strategy → Opening → Limits → List Entry → JournalFault → Type 0
JournalFaultIs s o l entries journal.TooManyEntries = l.entries < length entries + 141
JournalFaultIs s o l entries (journal.OfRequest place) =
    (e : Entry) × StopsAt s o entries place e × (is_of_request e ≡ true)
JournalFaultIs s o l entries (journal.NotAllowed place) =
    (e : Entry) × StopsAt s o entries place e × (is_of_request e ≡ false)
    × (is_allowed s o e (first_entries place entries) ≡ false)
JournalFaultIs s o l entries journal.OutOfMemory = ⊤

-- the fault is want of room or of memory
abbrev pub IsShortage : JournalFault → Type 0
IsShortage journal.TooManyEntries = ⊤
IsShortage (journal.OfRequest place) = ⊥
IsShortage (journal.NotAllowed place) = ⊥
IsShortage journal.OutOfMemory = ⊤

-- the routing after a journal with these entries (the oldest first): its past is that of the journal and the outcomes
-- that this past still allowed, each the first allowed one, and no more is allowed
pub record Resumes (old : Routing) (entries : List Entry) (new : Routing) : Type 0 where
  pub outcomes : List Outcome
  pub legal : IsLegal old.strategy old.opening old.closed (reverse entries)
  pub none_open : open_requests new.past ≡ []
  pub follow : Follows old.strategy outcomes (reverse entries)
  pub settled : IsTrue (is_settled old.strategy (with_outcomes outcomes (reverse entries)))
  pub now_is : new ≡ with_past old (with_outcomes outcomes (reverse entries)) old.seats
