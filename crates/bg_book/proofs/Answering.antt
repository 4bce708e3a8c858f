-- Calls that aren't refused for lack of room get the same reply.
use Rattle.std.proofs.Common.{◌≡◌, ◌≢◌, ◌≤◌, ◌+◌, ℕ, Bool, true, false, cond, nat_le, ◌==◌, List, length, Option, Some, None, refl, arith, ap, sym, ◌∙◌}
use Rattle.std.specs.Option.{option_or}
use Rattle.std.proofs.lemmas.Bool.Decides.{nat_tests}
use Rattle.bg_revisions.specs.declared.revision.Service.{Service}
use Rattle.bg_history.specs.declared.entry.Entry.{Entry}
use Rattle.bg_history.specs.declared.entry.Analysis.{Analysis}
use Rattle.bg_history.specs.declared.entry.Analysis.TheVariants.{Pre, Post}
use Rattle.bg_history.specs.AttemptBounds.{newest_of}
use Rattle.bg_history.specs.Sizes.{available}
use Rattle.bg_history.specs.Requests.{open_requests, given}
use Rattle.bg_history.specs.Allowed.{awaits, selection}
use Rattle.bg_history.specs.Kept.{Opening}
use Rattle.bg_history.specs.Templates.{template, namesake}
use Rattle.bg_history_laws.specs.Answers.{namesake_answer}
use Rattle.bg_history.specs.declared.control.Control.{Control}
use Rattle.bg_history.specs.declared.control.Control.TheVariants.{Tick, Deploy, Available, Verdict, Promote, PromoteFull, Abort, Retry}
use Rattle.bg_rollout.specs.declared.fault.EnterFault.TheVariants as enter_fault
use Rattle.bg_rollout.specs.declared.control_fault.ControlFault as control
use Rattle.bg_rollout.specs.declared.control_fault.ControlFault.TheVariants as control_fault
use Rattle.bg_rollout.specs.declared.limits.Limits.{Limits}
use Rattle.bg_rollout.specs.Routing.{Routing}
use Rattle.bg_rollout.specs.Refusals.{event_fault, event_of, control_refusal, enter_refusal, enter_refusal_at, is_full_for_control, is_full_for_enter, IsTicket}
use Rattle.bg_rollout.specs.declared.ticket.Ticket.{Ticket}
use Rattle.bg_history.specs.Compacted.{compacted}
use Rattle.bg_history_laws.specs.Compaction.{Compacts}
use Rattle.bg_rollout.specs.Compaction.{with_compacted}

-- a fault whose test implies another test
less-full : (a b : Bool) → (a ≡ true → b ≡ true) → {F : Type 0} → (e : F) → cond b (Some e) None ≢ Some e → cond a (Some e) None ≡ cond b (Some e) None
less-full true true h e room = refl
less-full true false h e room = let x : false ≡ true = h refl in absurd (cc)
less-full false true h e room = absurd (room refl)
less-full false false h e room = refl

namesake_answer-same : (o : Opening) (ports : List ℕ) (q : Option ℕ) (a b : List Entry) → ((r : ℕ) → template o r a ≡ template o r b) → namesake_answer o ports q a ≡ namesake_answer o ports q b
namesake_answer-same o ports None a b h = refl
namesake_answer-same o ports (Some q) a b h = rw (h q) refl

pub event-same : (b : Routing) → Compacts b.strategy b.opening b.closed b.past → (x : Control) → event_of (with_compacted b) x ≡ event_of b x
event-same b c (Deploy name ports) = rw (← c.answers.namesake_is name, ← c.same.alike.last) refl
event-same b c x = refl

awaits-same : (b : Routing) → Compacts b.strategy b.opening b.closed b.past → (analysis : Analysis) → awaits analysis b.strategy (compacted b.past) ≡ awaits analysis b.strategy b.past
awaits-same b c Pre = sym c.answers.pre
awaits-same b c Post = sym c.answers.post

fault-same : (b : Routing) → Compacts b.strategy b.opening b.closed b.past → (x : Control) → event_fault (with_compacted b) x ≡ event_fault b x
fault-same b c (Tick m) = rw (← c.same.now) refl
fault-same b c (Deploy name ports) =
    let own = namesake_answer-same b.opening ports (namesake b.opening name b.past) b.past (compacted b.past) c.same.alike.templates in
    rw (← c.answers.namesake_is name, ← c.same.alike.newest, ← c.same.alike.exist, ← c.same.alike.templates (newest_of b.past), ← own) refl
fault-same b c (Available r n) = rw (← c.same.alike.exist, ← c.same.alike.size r) refl
fault-same b c (Verdict analysis result) = rw (awaits-same b c analysis) refl
fault-same b c Promote = rw (← c.answers.paused, ← c.same.alike.halted) refl
fault-same b c PromoteFull = rw (← c.same.alike.halted, ← c.same.alike.running, ← c.answers.attempted.full) refl
fault-same b c Abort = rw (← c.same.alike.halted, ← c.same.alike.running) refl
fault-same b c Retry = rw (← c.same.alike.halted) refl

less-control : (l : Limits) (a b : List Entry) → length a ≤ length b → open_requests a ≡ open_requests b → is_full_for_control l a ≡ true → is_full_for_control l b ≡ true
less-control l a b le same h = let e : length (open_requests a) ≡ length (open_requests b) = ap length same in grind (arith, nat_tests)

less-enter : (l : Limits) (a b : List Entry) → length a ≤ length b → open_requests a ≡ open_requests b → is_full_for_enter l a ≡ true → is_full_for_enter l b ≡ true
less-enter l a b le same h = let e : length (open_requests a) ≡ length (open_requests b) = ap length same in grind (arith, nat_tests)

refusal-by : (f : Option control.ControlFault) (x y : Bool) → (x ≡ true → y ≡ true) → option_or f (cond y (Some control_fault.HistoryFull) None) ≢ Some control_fault.HistoryFull
    → option_or f (cond x (Some control_fault.HistoryFull) None) ≡ option_or f (cond y (Some control_fault.HistoryFull) None)
refusal-by None x y h room = less-full x y h control_fault.HistoryFull room
refusal-by (Some f) x y h room = refl

pub control-same : ((past : List Entry) → length (compacted past) ≤ length past) → (b : Routing) → Compacts b.strategy b.opening b.closed b.past → (x : Control)
    → control_refusal b x ≢ Some control_fault.HistoryFull → control_refusal (with_compacted b) x ≡ control_refusal b x
control-same shorter b c x room =
    ap (λ f. option_or f (cond (is_full_for_control b.limits (compacted b.past)) (Some control_fault.HistoryFull) None)) (fault-same b c x)
    ∙ refusal-by (event_fault b x) (is_full_for_control b.limits (compacted b.past)) (is_full_for_control b.limits b.past)
    (less-control b.limits (compacted b.past) b.past (shorter b.past) (sym c.same.held)) room

-- the faults of a request before the lack of room
enter-by : (none spent x y : Bool) → (x ≡ true → y ≡ true)
    → cond none (Some enter_fault.NoEndpoints) (cond spent (Some enter_fault.NumbersSpent) (cond y (Some enter_fault.HistoryFull) None)) ≢ Some enter_fault.HistoryFull
    → cond none (Some enter_fault.NoEndpoints) (cond spent (Some enter_fault.NumbersSpent) (cond x (Some enter_fault.HistoryFull) None))
    ≡ cond none (Some enter_fault.NoEndpoints) (cond spent (Some enter_fault.NumbersSpent) (cond y (Some enter_fault.HistoryFull) None))
enter-by true spent x y h room = refl
enter-by false true x y h room = refl
enter-by false false x y h room = less-full x y h enter_fault.HistoryFull room

enter_at-same : ((past : List Entry) → length (compacted past) ≤ length past) → (b : Routing) → Compacts b.strategy b.opening b.closed b.past → (r : Option ℕ)
    → enter_refusal_at b r ≢ Some enter_fault.HistoryFull → enter_refusal_at (with_compacted b) r ≡ enter_refusal_at b r
enter_at-same shorter b c None room = refl
enter_at-same shorter b c (Some r) room =
    rw (← c.same.alike.reported r, c.given)
    (enter-by (available r b.past == 0) (nat_le b.limits.numbers (given b.closed b.past)) (is_full_for_enter b.limits (compacted b.past)) (is_full_for_enter b.limits b.past)
    (less-enter b.limits (compacted b.past) b.past (shorter b.past) (sym c.same.held)) room)

pub enter-same : ((past : List Entry) → length (compacted past) ≤ length past) → (b : Routing) → Compacts b.strategy b.opening b.closed b.past → (v : Service)
    → enter_refusal b v ≢ Some enter_fault.HistoryFull → enter_refusal (with_compacted b) v ≡ enter_refusal b v
enter-same shorter b c v room =
    ap (enter_refusal_at (with_compacted b)) (sym (c.answers.selected v)) ∙ enter_at-same shorter b c (selection b.strategy v b.past) room

pub ticket-same : (b : Routing) → Compacts b.strategy b.opening b.closed b.past → (v : Service) (t : Ticket) → IsTicket b v t → IsTicket (with_compacted b) v t
ticket-same b c v t h = record {
  number_is = h.number_is ∙ ap (λ n. n + 1) (sym c.given);
  revision_is = sym (c.answers.selected v) ∙ h.revision_is;
  port_is = rw (← c.same.alike.templates t.revision, ← c.same.alike.reported t.revision) h.port_is;
}
