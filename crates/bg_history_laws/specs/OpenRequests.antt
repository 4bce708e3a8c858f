-- A request stays open at its revision until it leaves.
use Rattle.std.specs.Prelude.{◌≡◌, ℕ, Bool, true, false, not, ◌==◌, List, find, Option, Some, IsTrue}
use Rattle.std.specs.List.{list_all}
use Rattle.bg_strategy.specs.declared.strategy.Strategy.{Strategy}
use Rattle.bg_history.specs.declared.entry.Entry.{Entry}
use Rattle.bg_history.specs.declared.entry.Entry.TheVariants.{Leave, Outcome}
use Rattle.bg_history.specs.Compacted.{is_among}
use Rattle.bg_history.specs.Kept.{Opening, Template}
use Rattle.bg_history.specs.Requests.{Request, open_requests}
use Rattle.bg_history.specs.Templates.{template}
use Rattle.bg_history_laws.specs.Reachable.{exists_scaled}

-- the open request of that number
abbrev pub open_request : ℕ → List Entry → Option Request
open_request number past = find (λ q. q.number == number) (open_requests past)

-- the entry is the Leave of the request of that number
abbrev pub is_leaving : ℕ → Entry → Bool
is_leaving number (Leave seat n r) = n == number
is_leaving number _ = false

-- the entry is an outcome
abbrev pub is_outcome : Entry → Bool
is_outcome (Outcome x) = true
is_outcome _ = false

-- no entry of the list is the Leave of that request
abbrev pub stays : ℕ → List Entry → Bool
stays number later = list_all (λ e. not (is_leaving number e)) later

-- the request is open and unchanged; its revision exists, is scaled, and has that template, which includes the
-- request's port
pub record IsServed (s : Strategy) (o : Opening) (q : Request) (t : Template)
    (past : List Entry) : Type 0 where
  pub open_still : open_request q.number past ≡ Some q
  pub revision : IsTrue (exists_scaled s q.revision past)
  pub template_is : template o q.revision past ≡ Some t
  pub port : IsTrue (is_among t.ports q.port)

-- the request that leaves is the open request of that number, from its own seat and revision
pub record LeavesAsItself (seat number r : ℕ) (past : List Entry) : Type 0 where
  pub q : Request
  pub open_is : open_request number past ≡ Some q
  pub seat_is : q.seat ≡ seat
  pub revision_is : q.revision ≡ r
