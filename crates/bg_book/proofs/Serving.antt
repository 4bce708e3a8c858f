-- An open request stays open, regardless of all calls but its own leaving.
use Rattle.std.proofs.Common.{◌≡◌, ℕ, true, false, not, ◌==◌, List, [], ◌∷◌, Option, Some, None, refl, ap, sym, subst, ◌∙◌, inl, inr}
use Rattle.std.specs.List.{list_all}
use Rattle.bg_strategy.specs.declared.strategy.Strategy.{Strategy}
use Rattle.bg_revisions.specs.declared.revision.Service.{Service}
use Rattle.bg_history.specs.declared.entry.Entry.{Entry}
use Rattle.bg_history.specs.declared.entry.Entry.TheVariants as entry
use Rattle.bg_history.specs.declared.entry.Outcome.{Outcome}
use Rattle.bg_history.specs.Compacted.{compacted}
use Rattle.bg_history.specs.Kept.{Opening, Template}
use Rattle.bg_history.specs.Requests.{Request}
use Rattle.bg_history.specs.Steps.{IsLegal, Step}
use Rattle.bg_history_laws.specs.OpenRequests.{IsServed, is_leaving, is_outcome}
use Rattle.bg_ledger.specs.declared.holding.Holding.{Holding}
use Rattle.bg_history.specs.declared.control.Control.{Control}
use Rattle.bg_history.specs.declared.control.Control.TheVariants.{Tick}
use Rattle.bg_rollout.specs.Changes.{Stepped, with_past, enter_entry}
use Rattle.bg_rollout.specs.Compaction.{with_compacted}
use Rattle.bg_rollout.specs.Refusals.{event_of}
use Rattle.bg_rollout.specs.Routing.{Routing}
use Rattle.bg_book.specs.declared.calls.Call.{Call}
use Rattle.bg_book.specs.declared.calls.Call.TheVariants as call
use Rattle.bg_book.specs.declared.calls.Reply.{Reply}
use Rattle.bg_book.specs.declared.calls.Reply.TheVariants.{Entered, EnterRefused, Left, Done, ControlRefused}
use Rattle.bg_book.specs.Promises.{IsServedAt, tells_left, none_left, CompactedRuns}
use Rattle.bg_book.specs.Runs.{Unchanged, EnterStep, LeaveStep, ControlStep, EnterAt, LeaveAt, CallStep, Runs}
use Rattle.bg_book.proofs.Tests.{and_parts, not_true}

-- a step of another event keeps the request open at its revision and port
abbrev pub StepsKeep : Type 0
StepsKeep = (s : Strategy) (o : Opening) (e : Entry) (past : List Entry) (outcomes : List Outcome) (new : List Entry) (q : Request) (t : Template)
    → IsServed s o q t past → is_outcome e ≡ false → is_leaving q.number e ≡ false → Step s e past outcomes new → IsServed s o q t new

-- compacting a legal past keeps the request open at its revision and port
abbrev pub CompactingKeeps : Type 0
CompactingKeeps = (s : Strategy) (o : Opening) (closed : List ℕ) (past : List Entry) (q : Request) (t : Template)
    → IsLegal s o closed past → IsServed s o q t past → IsServed s o q t (compacted past)

served-same : (b new : Routing) (seats new_seats : List Holding) (q : Request) (t : Template) → Unchanged b seats new new_seats → IsServedAt b q t → IsServedAt new q t
served-same b new seats new_seats q t same h = subst (λ (m : Routing). IsServedAt m q t) (sym same.0) h

served-stepped : StepsKeep → (b new : Routing) (e : Entry) (n : ℕ) (records : List Holding) (q : Request) (t : Template) → new ≡ with_past b new.past records
    → Stepped b.strategy e b.past new.past n → is_outcome e ≡ false → is_leaving q.number e ≡ false → IsServedAt b q t → IsServedAt new q t
served-stepped keep b new e n records q t is step event other h =
    subst (λ (m : Routing). IsServedAt m q t) (sym is) (keep b.strategy b.opening e b.past step.outcomes new.past q t h event other step.step)

event-no_outcome : (b : Routing) (c : Control) → is_outcome (event_of b c) ≡ false
event-no_outcome b (Tick m) = refl
event-no_outcome b c = refl

event-no_leaving : (b : Routing) (number : ℕ) (c : Control) → is_leaving number (event_of b c) ≡ false
event-no_leaving b number (Tick m) = refl
event-no_leaving b number c = refl

served-enter : StepsKeep → (b new : Routing) (seats new_seats : List Holding) (place : ℕ) (seat : Holding) (service : Service) (reply : Reply) (q : Request) (t : Template)
    → EnterStep b seats place seat service reply new new_seats → IsServedAt b q t → IsServedAt new q t
served-enter keep b new seats new_seats place seat service (Entered ticket) q t step h =
    served-stepped keep b new (enter_entry seat.index service ticket) 0 _ q t step.2.0 step.3 refl refl h
served-enter keep b new seats new_seats place seat service (EnterRefused e) q t step h = served-same b new seats new_seats q t step.1 h
served-enter keep b new seats new_seats place seat service reply q t step h = absurd step

served-enter_at : StepsKeep → (b new : Routing) (seats new_seats : List Holding) (place : ℕ) (o : Option Holding) (service : Service) (reply : Reply) (q : Request) (t : Template)
    → EnterAt b seats place o service reply new new_seats → IsServedAt b q t → IsServedAt new q t
served-enter_at keep b new seats new_seats place None service reply q t step h = served-same b new seats new_seats q t step.1 h
served-enter_at keep b new seats new_seats place (Some seat) service reply q t (inl step) h = served-same b new seats new_seats q t step.1.1 h
served-enter_at keep b new seats new_seats place (Some seat) service reply q t (inr step) h = served-enter keep b new seats new_seats place seat service reply q t step.1 h

served-leave : StepsKeep → (b new : Routing) (seats new_seats : List Holding) (place : ℕ) (seat : Holding) (reply : Reply) (q : Request) (t : Template)
    → LeaveStep b seats place seat reply new new_seats → tells_left q.number reply ≡ false → IsServedAt b q t → IsServedAt new q t
served-leave keep b new seats new_seats place seat (Left l) q t step other h =
    served-stepped keep b new (entry.Leave seat.index seat.number seat.revision) step.2.0 _ q t step.1.0 step.2.1 refl (ap (λ x. x.number == q.number) (sym step.0) ∙ other) h
served-leave keep b new seats new_seats place seat reply q t step other h = absurd step

served-leave_at : StepsKeep → (b new : Routing) (seats new_seats : List Holding) (place : ℕ) (o : Option Holding) (reply : Reply) (q : Request) (t : Template)
    → LeaveAt b seats place o reply new new_seats → tells_left q.number reply ≡ false → IsServedAt b q t → IsServedAt new q t
served-leave_at keep b new seats new_seats place None reply q t step other h = served-same b new seats new_seats q t step.1 h
served-leave_at keep b new seats new_seats place (Some seat) reply q t (inl step) other h = served-same b new seats new_seats q t step.1.1 h
served-leave_at keep b new seats new_seats place (Some seat) reply q t (inr step) other h = served-leave keep b new seats new_seats place seat reply q t step.1 other h

served-control : StepsKeep → (b new : Routing) (seats new_seats : List Holding) (c : Control) (reply : Reply) (q : Request) (t : Template)
    → ControlStep b seats c reply new new_seats → IsServedAt b q t → IsServedAt new q t
served-control keep b new seats new_seats c (Done n) q t step h =
    served-stepped keep b new (event_of b c) n b.seats q t step.2 step.4 (event-no_outcome b c) (event-no_leaving b q.number c) h
served-control keep b new seats new_seats c (ControlRefused e) q t step h = served-same b new seats new_seats q t step.1 h
served-control keep b new seats new_seats c reply q t step h = absurd step

served-call : StepsKeep → (b new : Routing) (seats new_seats : List Holding) (c : Call) (reply : Reply) (q : Request) (t : Template)
    → CallStep b seats c reply new new_seats → tells_left q.number reply ≡ false → IsServedAt b q t → IsServedAt new q t
served-call keep b new seats new_seats (call.Enter place service) reply q t step other h = served-enter_at keep b new seats new_seats place _ service reply q t step h
served-call keep b new seats new_seats (call.Leave place) reply q t step other h = served-leave_at keep b new seats new_seats place _ reply q t step other h
served-call keep b new seats new_seats (call.Control c) reply q t step other h = served-control keep b new seats new_seats c reply q t step h

-- a list of calls keeps the request open at its revision and port
pub served-run : StepsKeep → (q : Request) (t : Template) (b new : Routing) (seats new_seats : List Holding) (calls : List Call) (replies : List Reply)
    → IsServedAt b q t → none_left q.number replies ≡ true → Runs b seats calls replies new new_seats → IsServedAt new q t
served-run keep q t b new seats new_seats [] [] h none run = served-same b new seats new_seats q t run h
served-run keep q t b new seats new_seats [] (reply ∷ replies) h none run = absurd run
served-run keep q t b new seats new_seats (c ∷ calls) [] h none run = absurd run
served-run keep q t b new seats new_seats (c ∷ calls) (reply ∷ replies) h none (next, (next_seats, (step, run))) =
    let both = and_parts (not (tells_left q.number reply)) (none_left q.number replies) none in
    served-run keep q t next new next_seats new_seats calls replies (served-call keep b next seats next_seats c reply q t step (not_true (tells_left q.number reply) both.0) h) both.1 run

-- lists of calls, with the history compacted after each, keep the request open at its revision and port
pub served-compacted_runs : StepsKeep → CompactingKeeps → (q : Request) (t : Template) (b new : Routing) (seats new_seats : List Holding) (calls : List (List Call)) (replies : List (List Reply))
    → IsServedAt b q t → list_all (none_left q.number) replies ≡ true → CompactedRuns b seats calls replies new new_seats → IsServedAt new q t
served-compacted_runs keep compacts q t b new seats new_seats [] [] h none run = served-same b new seats new_seats q t run h
served-compacted_runs keep compacts q t b new seats new_seats [] (replies ∷ more) h none run = absurd run
served-compacted_runs keep compacts q t b new seats new_seats (calls ∷ rest) [] h none run = absurd run
served-compacted_runs keep compacts q t b new seats new_seats (calls ∷ rest) (replies ∷ more) h none (next, (next_seats, (run, legal, later))) =
    let both = and_parts (none_left q.number replies) (list_all (none_left q.number) more) none in
    let there : IsServedAt next q t = served-run keep q t b next seats next_seats calls replies h both.0 run in
    served-compacted_runs keep compacts q t (with_compacted next) new next_seats new_seats rest more
    (compacts next.strategy next.opening next.closed next.past q t legal there) both.1 later
