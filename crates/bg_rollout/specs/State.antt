-- The state of a rollout that its past gives.
use Rattle.std.specs.Prelude.{ℕ, zero, suc, ◌+◌, ◌==◌, List, [], ◌∷◌, map, length, find, replicate, slice_get, Option, Some, None}
use Rattle.bg_strategy.specs.declared.strategy.Strategy.{Strategy}
use Rattle.bg_revisions.specs.declared.revision.Revision.{Revision}
use Rattle.bg_revisions.specs.declared.revision.Selectors.{Selectors}
use Rattle.bg_history.specs.declared.entry.Entry.{Entry}
use Rattle.bg_history.specs.Kept.{Opening}
use Rattle.bg_history.specs.AttemptBounds.{moment as moment_of}
use Rattle.bg_history.specs.Selections.{selectors_of}
use Rattle.bg_history.specs.Sizes.{existing}
use Rattle.bg_history_laws.specs.Listed.{revision_of}
use Rattle.bg_promotion.specs.declared.phase.Phase.{Phase}
use Rattle.bg_promotion.specs.Phases.{phase_of}
use Rattle.bg_scaledown.specs.Due.{deadline_in}
use Rattle.bg_history.specs.Tables.{table_of}
use Rattle.bg_ledger.specs.declared.holding.Holding.{Holding}
use Rattle.bg_rollout.specs.declared.request_lists.OpenRequest.{OpenRequest}
use Rattle.bg_rollout.specs.PastState.{requests_at, seat_of}

-- an existing revision: its number, template and sizes, its deadline, and its open requests
pub record RevisionState : Type 0 where
  pub revision : Revision
  pub deadline : Option ℕ
  pub requests : List OpenRequest

-- the moment, the phase, the selectors, the existing revisions in ascending order of their numbers, and each seat's
-- calls and request; the phase is none while a step of an attempt is next
pub record State : Type 0 where
  pub moment : ℕ
  pub phase : Option Phase
  pub selectors : Selectors
  pub revisions : List RevisionState
  pub seats : List Holding

-- revision r; its deadline comes from the table of the past, which agrees with the past (`table_tells_deadlines` of
-- bg_scaledown)
abbrev pub revision_state : Strategy → Opening → List Entry → ℕ → RevisionState
revision_state s o past r = record {
  revision = revision_of s o past r;
  deadline = deadline_in (table_of s past) r;
  requests = requests_at r past;
}

-- what n seats have, from index i on
abbrev pub seats_from : List ℕ → List Entry → ℕ → ℕ → List Holding
seats_from closed past i zero = []
seats_from closed past i (suc n) = seat_of closed i past ∷ seats_from closed past (i + 1) n

-- the state of a past
abbrev pub state_of : Strategy → Opening → List ℕ → List Entry → State
state_of s o closed past = record {
  moment = moment_of past;
  phase = phase_of s past;
  selectors = selectors_of past;
  revisions = map (revision_state s o past) (existing past);
  seats = seats_from closed past 0 o.seats;
}

-- a revision without its open requests
abbrev pub unrequested : RevisionState → RevisionState
unrequested v = record v { requests = [] }

-- the state with `n` seats, none of which has made a call, and without open requests
abbrev pub without_requests : ℕ → State → State
without_requests n t = record t {
  revisions = map unrequested t.revisions;
  seats = seats_from (replicate n 0) [] 0 n;
}

-- the readers of a state's revisions, by place or by number; a revision that doesn't exist has no deadline and no
-- open request
abbrev pub revision_at : State → ℕ → Option Revision
revision_at t place = slice_get (map (λ v. v.revision) t.revisions) place

abbrev pub numbered : ℕ → List RevisionState → Option RevisionState
numbered r revisions = find (λ v. v.revision.number == r) revisions

abbrev pub deadline_in_state : Option RevisionState → Option ℕ
deadline_in_state None = None
deadline_in_state (Some v) = v.deadline

abbrev pub deadline_at : State → ℕ → Option ℕ
deadline_at t r = deadline_in_state (numbered r t.revisions)

abbrev pub requests_in_state : Option RevisionState → List OpenRequest
requests_in_state None = []
requests_in_state (Some v) = v.requests

abbrev pub open_count_at : State → ℕ → ℕ
open_count_at t r = length (requests_in_state (numbered r t.revisions))
