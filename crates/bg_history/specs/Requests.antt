-- The requests of a past: the open ones, the seats that hold them, and how many there were.
use Rattle.std.specs.Prelude.{ℕ, ◌+◌, ◌*◌, not, if◌then◌else◌, ◌==◌, List, [], ◌∷◌, ◌++◌, filter, find, map, sum, slice_index, Option, Some, None}
use Rattle.bg_history.specs.declared.entry.Entry.{Entry}
use Rattle.bg_history.specs.declared.entry.Entry.TheVariants.{Enter, Leave}

-- a request that entered
pub record Request : Type 0 where
  pub seat : ℕ
  pub number : ℕ
  pub revision : ℕ
  pub port : ℕ

-- the open requests: those that entered and haven't left, in the order in which they entered
abbrev pub open_requests : List Entry → List Request
open_requests [] = []
open_requests (Enter seat service number r port ∷ before) =
    open_requests before ++ record { seat = seat; number = number; revision = r; port = port } ∷ []
open_requests (Leave seat number r ∷ before) =
    filter (λ q. not (q.number == number)) (open_requests before)
open_requests (_ ∷ before) = open_requests before

-- the numbers of the open requests at r, in order
abbrev pub open_at : ℕ → List Entry → List ℕ
open_at r past = map (λ q. q.number) (filter (λ q. q.revision == r) (open_requests past))

-- the request that a seat holds
abbrev pub held_by : ℕ → List Entry → Option Request
held_by seat past = find (λ q. q.seat == seat) (open_requests past)

-- the request numbers in the entries
abbrev pub request_numbers : List Entry → List ℕ
request_numbers [] = []
request_numbers (Enter seat service number r port ∷ before) = number ∷ request_numbers before
request_numbers (Leave seat number r ∷ before) = number ∷ request_numbers before
request_numbers (_ ∷ before) = request_numbers before

-- 1 if there is a request and it is at r, else 0
abbrev pub share_in : ℕ → Option Request → ℕ
share_in r None = 0
share_in r (Some q) = if q.revision == r then 1 else 0

-- a seat's share of the open requests at r: 1 if the seat holds one of them, else 0
abbrev pub share_of : ℕ → ℕ → List Entry → ℕ
share_of seat r past = share_in r (held_by seat past)

-- the number of Enters in the past
abbrev pub entered : List Entry → ℕ
entered [] = 0
entered (Enter seat service number r port ∷ before) = 1 + entered before
entered (_ ∷ before) = entered before

-- the number of requests that got a number: those with an Enter in the past, and the closed ones whose entries were
-- dropped
abbrev pub given : List ℕ → List Entry → ℕ
given closed past = entered past + sum closed

-- the number of a seat's entries: its Enters and its Leaves
abbrev pub calls_in : ℕ → List Entry → ℕ
calls_in seat [] = 0
calls_in seat (Enter s service number r port ∷ before) =
    (if s == seat then 1 else 0) + calls_in seat before
calls_in seat (Leave s number r ∷ before) = (if s == seat then 1 else 0) + calls_in seat before
calls_in seat (_ ∷ before) = calls_in seat before

-- the number of a seat's answered calls: its entries, and two for each closed request whose entries were dropped
abbrev pub calls_of : List ℕ → ℕ → List Entry → ℕ
calls_of closed seat past = calls_in seat past + 2 * slice_index closed seat
