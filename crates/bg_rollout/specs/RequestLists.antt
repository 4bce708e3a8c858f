-- A list of open requests for each revision.
use Rattle.std.specs.Prelude.{◌≡◌, ◌≤◌, ℕ, Bool, false, true, not, ◌==◌, ◌||◌, nat_lt, if◌then◌else◌, List, [], ◌∷◌, length, filter, find, map, Option, Some, None}
use Rattle.std.specs.List.{list_all, list_any}
use Rattle.bg_openlist.specs.Distinct.{Distinct}
use Rattle.bg_openlist.specs.Family.{Family, IsFamily, list_at}
use Rattle.bg_rollout.specs.declared.request_lists.OpenRequest.{OpenRequest}
use Rattle.bg_rollout.specs.declared.request_lists.OwnList.{OwnList}

-- a revision and its open requests, in the order in which they entered
pub record OpenAt : Type 0 where
  pub revision : ℕ
  pub requests : List OpenRequest

abbrev pub requests_in : Option OpenAt → List OpenRequest
requests_in None = []
requests_in (Some l) = l.requests

-- the requests in the list of r; none if r has no list
abbrev pub requests_of : ℕ → List OpenAt → List OpenRequest
requests_of r lists = requests_in (find (λ l. l.revision == r) lists)

-- the lists after a change of the requests in the list of r
abbrev pub changed : ℕ → (List OpenRequest → List OpenRequest) → List OpenAt → List OpenAt
changed r change [] = []
changed r change (l ∷ rest) =
    if l.revision == r then record l { requests = change l.requests } ∷ rest
    else l ∷ changed r change rest

-- the lists without the request of a seat
abbrev pub without_seat : ℕ → List OpenAt → List OpenAt
without_seat seat lists = map
    (λ (l : OpenAt). record l { requests = filter (λ q. not (q.seat == seat)) l.requests }) lists

-- some list has a request of the seat
abbrev pub has_request : ℕ → List OpenAt → Bool
has_request seat lists = list_any (λ l. list_any (λ q. q.seat == seat) l.requests) lists

-- no list of revision r has a request
abbrev pub is_empty_at : ℕ → List OpenAt → Bool
is_empty_at r lists = list_all (λ l. not (l.revision == r) || (length l.requests == 0)) lists

-- the request at a node: the node is its seat's index, and the value is its number
abbrev pub request_at : ℕ × ℕ → OpenRequest
request_at p = record { seat = p.0; number = p.1 }

-- a revision and the requests at the nodes of its linked list
abbrev pub shown_at : Family ℕ → OwnList → OpenAt
shown_at f own = record { revision = own.revision; requests = map request_at (list_at f own.list) }

-- a revision uses the linked list
abbrev pub is_owned : ℕ → List OwnList → Bool
is_owned l owned = list_any (λ o. o.list == l) owned

-- the invariant of the linked lists: each revision has its own one, a list that no revision uses is empty, and there
-- is a node for each seat
pub record OwnsLists (owned : List OwnList) (capacity : ℕ) (f : Family ℕ) : Type 0 where
  pub room : 64 ≤ capacity
  pub distinct : Distinct (map (λ o. o.list) owned)
  pub below : list_all (λ o. nat_lt o.list 64) owned ≡ true
  pub rest : (l : ℕ) → is_owned l owned ≡ false → list_at f l ≡ []
  pub family : IsFamily f
  pub nodes : f.nodes ≡ 2048
