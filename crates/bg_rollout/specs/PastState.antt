-- The state that a past gives: the answers of a book's readers.
use Rattle.std.specs.Prelude.{◌≡◌, ◌<◌, ◌+◌, ◌==◌, ℕ, Bool, not, ◌&&◌, nat_lt, if◌then◌else◌, List, filter, length, map, slice_get, Option, Some, None}
use Rattle.bg_strategy.specs.declared.strategy.Strategy.{Strategy}
use Rattle.bg_history.specs.declared.entry.Entry.{Entry}
use Rattle.bg_history.specs.Kept.{Opening}
use Rattle.bg_history.specs.Requests.{Request, held_by, calls_of, open_at, open_requests}
use Rattle.bg_history.specs.Sizes.{existing}
use Rattle.bg_history.specs.AttemptBounds.{moment}
use Rattle.bg_history.specs.Deadlines.{deadline, is_due, is_empty, is_reached}
use Rattle.bg_ledger.specs.declared.holding.Holding.{Holding}
use Rattle.bg_rollout.specs.declared.request_lists.OpenRequest.{OpenRequest}
use Rattle.bg_rollout.specs.RequestLists.{OpenAt}
use Rattle.bg_rollout.specs.declared.go_on.GoOn.{GoOn}
use Rattle.bg_rollout.specs.declared.go_on.GoOn.TheVariants.{Cut, Keep}
use Rattle.bg_ledger.specs.Holdings.{fresh}

-- r is due, and a request is open at it
abbrev pub is_draining : Strategy → ℕ → List Entry → Bool
is_draining s r past = is_due s r past && not (is_empty (open_at r past))

-- the moment `limit` seconds after the deadline, if there are both
abbrev pub drain_end : Option ℕ → Option ℕ → Option ℕ
drain_end None limit = None
drain_end (Some at) None = None
drain_end (Some at) (Some limit) = Some (at + limit)

-- r drains, and the drain limit is over
abbrev pub is_past_limit : Strategy → ℕ → List Entry → Bool
is_past_limit s r past =
    is_draining s r past && is_reached (drain_end (deadline s r past) s.drain_limit) (moment past)

-- a request has to end if the drain limit of its revision is over
abbrev pub goes_on_with : Strategy → Option Request → List Entry → GoOn
goes_on_with s None past = Keep
goes_on_with s (Some q) past = if is_past_limit s q.revision past then Cut else Keep

-- whether a seat's request goes on; `Keep` if the seat holds none
abbrev pub goes_on : Strategy → ℕ → List Entry → GoOn
goes_on s seat past = goes_on_with s (held_by seat past) past

-- a seat with this number of calls and this request
abbrev pub seated : ℕ → ℕ → Option Request → Holding
seated seat calls None = record (fresh seat) { calls = calls }
seated seat calls (Some q) = record {
  index = seat;
  calls = calls;
  number = q.number;
  revision = q.revision;
  port = q.port;
}

-- what a seat has: the number of its answered calls, and the request that it holds
abbrev pub seat_of : List ℕ → ℕ → List Entry → Holding
seat_of closed seat past = seated seat (calls_of closed seat past) (held_by seat past)

-- the record of each seat, in order of index, is what the past says
pub record SeatsInvariant (o : Opening) (closed : List ℕ) (past : List Entry)
    (seats : List Holding) : Type 0 where
  pub count : length seats ≡ o.seats
  pub each : (i : ℕ) → i < o.seats → slice_get seats i ≡ Some (seat_of closed i past)

-- the seat and the number of a request
abbrev pub listed : Request → OpenRequest
listed q = record { seat = q.seat; number = q.number }

-- the list of open requests of r that a past gives
abbrev pub requests_at : ℕ → List Entry → List OpenRequest
requests_at r past = map listed (filter (λ q. q.revision == r) (open_requests past))

-- the list of open requests of each existing revision, in ascending order of the numbers
abbrev pub lists_of : List Entry → List OpenAt
lists_of past = map (λ r. record { revision = r; requests = requests_at r past }) (existing past)

-- a seat's share of the open requests at r: 1 if the seat holds one of them, else 0
abbrev pub share : ℕ → Holding → ℕ
share r seat = if nat_lt 0 seat.number && (seat.revision == r) then 1 else 0
