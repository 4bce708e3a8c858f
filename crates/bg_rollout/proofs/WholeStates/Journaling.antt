-- The state of a past without the entries of its requests.
use Rattle.std.proofs.Common.{◌≡◌, ◌+◌, ◌*◌, ℕ, List, [], ◌∷◌, map, find, filter, replicate, slice_index, ◌==◌, refl, ap, sym, ◌∙◌}
use Rattle.bg_strategy.specs.declared.strategy.Strategy.{Strategy}
use Rattle.bg_history.specs.declared.entry.Entry.{Entry}
use Rattle.bg_history.specs.Kept.{Opening}
use Rattle.bg_history.specs.Selections.{selectors_of}
use Rattle.bg_history.specs.Sizes.{existing}
use Rattle.bg_history.specs.AttemptBounds.{moment}
use Rattle.bg_history.specs.Requests.{Request, calls_in}
use Rattle.bg_history_laws.specs.Listed.{revision_of}
use Rattle.bg_history_laws.specs.Journaled.{journaled, Journals}
use Rattle.bg_ledger.specs.declared.holding.Holding.{Holding}
use Rattle.bg_promotion.specs.Phases.{phase_of}
use Rattle.bg_scaledown.specs.Due.{deadline_in}
use Rattle.bg_history.specs.Tables.{Table, table_of}
use Rattle.bg_rollout.specs.declared.request_lists.OpenRequest.{OpenRequest}
use Rattle.bg_rollout.specs.PastState.{listed, requests_at, seat_of, seated}
use Rattle.bg_rollout.specs.State.{RevisionState, revision_state, state_of, unrequested, without_requests}
use Rattle.bg_rollout.proofs.WholeStates.Compacting.{map-same, seats-same}

map-map : {X Y : Type 0} (g : X → Y) (f : ℕ → X) (xs : List ℕ) → map (λ r. g (f r)) xs ≡ map g (map f xs)
map-map g f [] = refl
map-map g f (x ∷ xs) = ap (λ ys. g (f x) ∷ ys) (map-map g f xs)

revision-kept : (s : Strategy) (o : Opening) (n : ℕ) (past : List Entry) → Journals s o past → (r : ℕ)
    → revision_state s (record o { seats = n }) (journaled past) r ≡ unrequested (revision_state s o past r)
revision-kept s o n past j r =
    let v : revision_of s (record o { seats = n }) (journaled past) r ≡ revision_of s o past r = rw (sym (j.alike.size r), sym (j.alike.reported r), j.templates n r) refl in
    let q : requests_at r (journaled past) ≡ [] = ap (λ (qs : List Request). map listed (filter (λ q. q.revision == r) qs)) j.none_open in
    ap (λ x. record { revision = x; deadline = deadline_in (table_of s (journaled past)) r; requests = requests_at r (journaled past) }) v
    ∙ ap (λ (t : Table). record { revision = revision_of s o past r; deadline = deadline_in t r; requests = requests_at r (journaled past) }) j.table
    ∙ ap (λ (x : List OpenRequest). record { revision = revision_of s o past r; deadline = deadline_in (table_of s past) r; requests = x }) q

phase-kept : (s : Strategy) (o : Opening) (past : List Entry) → Journals s o past → phase_of s past ≡ phase_of s (journaled past)
phase-kept s o past j = rw (j.answers.post, j.answers.sizing, j.answers.paused, j.answers.pre, j.answers.scaling, j.answers.steady, j.alike.halted) refl

selectors-kept : (s : Strategy) (o : Opening) (past : List Entry) → Journals s o past → selectors_of past ≡ selectors_of (journaled past)
selectors-kept s o past j = rw (j.alike.active, j.answers.preview, j.alike.stable, j.alike.newest) refl

seat-kept : (s : Strategy) (o : Opening) (closed : List ℕ) (past : List Entry) → Journals s o past → (i : ℕ) → seat_of closed i (journaled past) ≡ seat_of closed i []
seat-kept s o closed past j i =
    ap (λ (qs : List Request). seated i (calls_at (journaled past)) (find (λ q. q.seat == i) qs)) j.none_open
    ∙ ap (λ (k : ℕ). seated i (k + 2 * slice_index closed i) (find (λ q. q.seat == i) [])) (j.calls i)
  where
    calls_at : List Entry → ℕ
    calls_at p = calls_in i p + 2 * slice_index closed i

pub state-kept : (s : Strategy) (o : Opening) (closed : List ℕ) (n : ℕ) (past : List Entry) → Journals s o past
    → state_of s (record o { seats = n }) (replicate n 0) (journaled past) ≡ without_requests n (state_of s o closed past)
state-kept s o closed n past j =
    let now = journaled past in
    let revisions : map (revision_state s (record o { seats = n }) now) (existing now) ≡ map unrequested (map (revision_state s o past) (existing past)) =
    map-same (revision_state s (record o { seats = n }) now) (λ r. unrequested (revision_state s o past r)) (revision-kept s o n past j) (existing now)
    ∙ ap (map (λ r. unrequested (revision_state s o past r))) (sym j.alike.exist)
    ∙ map-map unrequested (revision_state s o past) (existing past) in
    let seats = seats-same (replicate n 0) (replicate n 0) now [] (seat-kept s o (replicate n 0) past j) 0 n in
    let from = state_of s (record o { seats = n }) (replicate n 0) now in
    ap (λ (m : ℕ). record from { moment = m }) (sym j.now)
    ∙ ap (λ p. record from { moment = moment past; phase = p }) (sym (phase-kept s o past j))
    ∙ ap (λ y. record from { moment = moment past; phase = phase_of s past; selectors = y }) (sym (selectors-kept s o past j))
    ∙ ap (λ (vs : List RevisionState). record from { moment = moment past; phase = phase_of s past; selectors = selectors_of past; revisions = vs }) revisions
    ∙ ap (λ (vs : List Holding). record (without_requests n (state_of s o closed past)) { seats = vs }) seats
