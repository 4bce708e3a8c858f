-- A book whose history is compacted.
use Rattle.std.specs.Prelude.{◌≡◌, ℕ, Bool, true, false, List}
use Rattle.bg_ledger.specs.declared.holding.Holding.{Holding}
use Rattle.bg_history.specs.AttemptBounds.{moment}
use Rattle.bg_history.specs.Selections.{selectors_of}
use Rattle.bg_history.specs.Deadlines.{deadline}
use Rattle.bg_history.specs.Requests.{given, open_at}
use Rattle.bg_history_laws.specs.Listed.{revisions_of}
use Rattle.bg_promotion.specs.Phases.{phase_of}
use Rattle.bg_book.specs.declared.calls.Call.{Call}
use Rattle.bg_book.specs.declared.calls.Reply.{Reply}
use Rattle.bg_book.specs.declared.calls.Reply.TheVariants.{EnterRefused, ControlRefused}
use Rattle.bg_rollout.specs.declared.fault.EnterFault.TheVariants as enter_fault
use Rattle.bg_rollout.specs.declared.control_fault.ControlFault.TheVariants as control_fault
use Rattle.bg_rollout.specs.PastState.{is_draining, is_past_limit, seat_of}
use Rattle.bg_rollout.specs.Routing.{Routing}
use Rattle.bg_rollout.specs.Compaction.{with_compacted}
use Rattle.bg_book.specs.Runs.{CallStep}

-- the call is refused because the history has no room
abbrev pub is_history_full : Reply → Bool
is_history_full (EnterRefused enter_fault.HistoryFull) = true
is_history_full (ControlRefused control_fault.HistoryFull) = true
is_history_full _ = false

-- The compacted book gives the same reply to the call, unless the reply is that the history is full. The two books
-- after the call compact to the same book.
abbrev pub KeepsReply : Routing → List Holding → Call → Type 0
KeepsReply b seats c = (reply : Reply) (new : Routing) (new_seats : List Holding)
    → CallStep b seats c reply new new_seats → is_history_full reply ≡ false
    → (other : Routing) × CallStep (with_compacted b) seats c reply other new_seats
    × (with_compacted other ≡ with_compacted new)

-- the readers of the two books give the same answers, except those of the entries and of the closed counts
pub record SameState (a b : Routing) : Type 0 where
  pub moment_is : moment a.past ≡ moment b.past
  pub phase_is : phase_of a.strategy a.past ≡ phase_of b.strategy b.past
  pub selectors_are : selectors_of a.past ≡ selectors_of b.past
  pub revisions_are : revisions_of a.strategy a.opening a.past
      ≡ revisions_of b.strategy b.opening b.past
  pub deadlines_are : (r : ℕ) → deadline a.strategy r a.past ≡ deadline b.strategy r b.past
  pub draining_is : (r : ℕ) → is_draining a.strategy r a.past ≡ is_draining b.strategy r b.past
  pub past_limit_is : (r : ℕ)
      → is_past_limit a.strategy r a.past ≡ is_past_limit b.strategy r b.past
  pub open_are : (r : ℕ) → open_at r a.past ≡ open_at r b.past
  pub seats_are : (i : ℕ) → seat_of a.closed i a.past ≡ seat_of b.closed i b.past
  pub given_is : given a.closed a.past ≡ given b.closed b.past
