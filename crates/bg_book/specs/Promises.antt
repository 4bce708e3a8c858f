-- What the calls of a book promise to the users of the switch.
use Rattle.std.specs.Prelude.{◌≡◌, ◌⊎◌, ℕ, zero, suc, Bool, false, not, if◌then◌else◌, ◌==◌, List, [], ◌∷◌, Some, None, IsTrue, IsFalse}
use Rattle.std.specs.List.{list_all}
use Rattle.bg_revisions.specs.declared.revision.Service.TheVariants as service
use Rattle.bg_history.specs.declared.entry.Analysis.{Analysis}
use Rattle.bg_history.specs.declared.entry.AnalysisResult.TheVariants.{Failed, Error}
use Rattle.bg_history.specs.Kept.{Template}
use Rattle.bg_history.specs.AttemptBounds.{stable_of, newest_of, is_running}
use Rattle.bg_history.specs.Attempts.{has_promote_full}
use Rattle.bg_history.specs.Templates.{template}
use Rattle.bg_history.specs.Allowed.{awaits}
use Rattle.bg_history.specs.Requests.{Request}
use Rattle.bg_history.specs.Sizes.{desired, available}
use Rattle.bg_history.specs.Steps.{IsLegal}
use Rattle.bg_history_laws.specs.Rollback.{IsRolledBack}
use Rattle.bg_history_laws.specs.FullPromotion.{IsFullyPromoted}
use Rattle.bg_history_laws.specs.Live.{is_tested}
use Rattle.bg_history_laws.specs.Draining.{WaitsFor, IsScaledDown}
use Rattle.bg_history_laws.specs.OpenRequests.{IsServed, open_request}
use Rattle.bg_ledger.specs.declared.holding.Holding.{Holding}
use Rattle.bg_history.specs.declared.control.Control.{Control}
use Rattle.bg_history.specs.declared.control.Control.TheVariants.{Deploy, Available, Verdict, PromoteFull, Abort}
use Rattle.bg_rollout.specs.declared.control_fault.ControlFault.TheVariants.{HistoryFull}
use Rattle.bg_rollout.specs.declared.ticket.Left.{Left}
use Rattle.bg_rollout.specs.declared.ticket.Ticket.{Ticket}
use Rattle.bg_rollout.specs.Compaction.{with_compacted}
use Rattle.bg_rollout.specs.Refusals.{control_refusal}
use Rattle.bg_rollout.specs.Routing.{Routing}
use Rattle.bg_book.specs.declared.calls.Call.{Call}
use Rattle.bg_book.specs.declared.calls.Reply.{Reply}
use Rattle.bg_book.specs.declared.calls.Reply.TheVariants as reply
use Rattle.bg_book.specs.Runs.{EnterStep, LeaveStep, ControlStep, Runs, Unchanged}

-- the control has no fault other than a full history or an allocation failure
abbrev pub IsTaken : Routing → Control → Type 0
IsTaken b c = (control_refusal b c ≡ None) ⊎ (control_refusal b c ≡ Some HistoryFull)

-- the control is taken; after it, both services select the stable revision, which has as many available endpoints as
-- before
pub record CallRollsBack (b : Routing) (c : Control) : Type 0 where
  pub taken : IsTaken b c
  pub back : (seats : List Holding) (outcomes : ℕ) (new : Routing) (new_seats : List Holding)
      → ControlStep b seats c (reply.Done outcomes) new new_seats
      → IsRolledBack b.strategy (stable_of b.past) (available (stable_of b.past) b.past) new.past

-- the calls that roll back: an abort while an attempt runs, a verdict of failed or error while its analysis is
-- awaited, and a deploy of the stable revision's template while another revision is the newest
pub record CallsRollBack (b : Routing) : Type 0 where
  pub abort : IsTrue (is_running b.past) → CallRollsBack b Abort
  pub failed : (analysis : Analysis) → IsTrue (awaits analysis b.strategy b.past)
      → CallRollsBack b (Verdict analysis Failed)
  pub error : (analysis : Analysis) → IsTrue (awaits analysis b.strategy b.past)
      → CallRollsBack b (Verdict analysis Error)
  pub revert : (t : Template) → template b.opening (stable_of b.past) b.past ≡ Some t
      → IsFalse (newest_of b.past == stable_of b.past) → CallRollsBack b (Deploy t.name t.ports)

-- the next call of a full promotion: the full promotion if the attempt has none; else the report that all desired
-- endpoints of its revision are available
abbrev pub next_promotion_control : Routing → Control
next_promotion_control b =
    if has_promote_full b.past
    then Available (newest_of b.past) (desired b.strategy (newest_of b.past) b.past)
    else PromoteFull

-- at most this many of these calls fully promote r; each is taken after the ones before it
abbrev pub CallsPromote : ℕ → Routing → ℕ → Type 0
CallsPromote zero b r = IsFullyPromoted r b.past
CallsPromote (suc calls) b r =
    IsFullyPromoted r b.past
    ⊎ (IsTaken b (next_promotion_control b)
    × ((seats : List Holding) (outcomes : ℕ) (new : Routing) (new_seats : List Holding)
    → ControlStep b seats (next_promotion_control b) (reply.Done outcomes) new new_seats
    → CallsPromote calls new r))

-- a request that enters at the active service gets a tested revision
abbrev pub EntersTested : Routing → Type 0
EntersTested b = (seats : List Holding) (place : ℕ) (seat : Holding) (t : Ticket) (new : Routing)
    (new_seats : List Holding)
    → EnterStep b seats place seat service.Active (reply.Entered t) new new_seats
    → IsTrue (is_tested b.strategy t.revision b.past)

-- if a revision is due and has one open request, the call by which it leaves scales the revision down
abbrev pub LastLeaveScalesDown : Routing → Type 0
LastLeaveScalesDown b = (seats : List Holding) (place : ℕ) (seat : Holding) (left : Left)
    (new : Routing) (new_seats : List Holding)
    → LeaveStep b seats place seat (reply.Left left) new new_seats
    → WaitsFor b.strategy seat.number seat.revision b.past
    → IsScaledDown b.strategy seat.revision new.past

-- the request is open in the book, at its revision and its port
abbrev pub IsServedAt : Routing → Request → Template → Type 0
IsServedAt b q t = IsServed b.strategy b.opening q t b.past

-- the reply says that the request of that number left
abbrev pub tells_left : ℕ → Reply → Bool
tells_left number (reply.Left l) = l.number == number
tells_left number _ = false

-- no reply says that the request of that number left
abbrev pub none_left : ℕ → List Reply → Bool
none_left number replies = list_all (λ r. not (tells_left number r)) replies

-- calls one after the other, with the history compacted after each list of them; each compacted history was legal,
-- as the history of every book is
abbrev pub CompactedRuns : Routing → List Holding → List (List Call) → List (List Reply) → Routing
    → List Holding → Type 0
CompactedRuns b seats [] [] new new_seats = Unchanged b seats new new_seats
CompactedRuns b seats [] (replies ∷ more) new new_seats = ⊥
CompactedRuns b seats (calls ∷ rest) [] new new_seats = ⊥
CompactedRuns b seats (calls ∷ rest) (replies ∷ more) new new_seats =
    (next : Routing) × ((next_seats : List Holding)
    × (Runs b seats calls replies next next_seats
    × IsLegal next.strategy next.opening next.closed next.past
    × CompactedRuns (with_compacted next) next_seats rest more new new_seats))

-- each open request stays open at its revision and its port, regardless of all calls but its own leaving and of
-- compaction
pub record KeepsRequests (b : Routing) : Type 0 where
  pub every : (q : Request) → open_request q.number b.past ≡ Some q
      → (t : Template) × IsServedAt b q t
  pub calls : (q : Request) (t : Template) (seats : List Holding) (calls : List Call)
      (replies : List Reply) (new : Routing) (new_seats : List Holding) → IsServedAt b q t
      → IsTrue (none_left q.number replies) → Runs b seats calls replies new new_seats
      → IsServedAt new q t
  pub compacted : (q : Request) (t : Template) → IsServedAt b q t
      → IsServedAt (with_compacted b) q t
  pub compacted_calls : (q : Request) (t : Template) (seats : List Holding)
      (calls : List (List Call)) (replies : List (List Reply)) (new : Routing)
      (new_seats : List Holding) → IsServedAt b q t
      → IsTrue (list_all (none_left q.number) replies)
      → CompactedRuns b seats calls replies new new_seats → IsServedAt new q t
