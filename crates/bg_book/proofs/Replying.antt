-- The replies of a book whose history is compacted.
use Rattle.std.proofs.Common.{◌≡◌, ◌≢◌, ◌≤◌, ◌+◌, ℕ, true, false, not, ◌==◌, ◌&&◌, nat_le, List, [], ◌∷◌, length, slice_get, slice_set, Option, Some, None, inl, inr, refl, arith, ap, sym, ◌∙◌}
use Rattle.std.proofs.lemmas.Bool.Decides.{nat_tests}
use Rattle.std.proofs.lemmas.Option.{same_Some}
use Rattle.bg_revisions.specs.declared.revision.Service.{Service}
use Rattle.bg_ledger.specs.declared.holding.Holding.{Holding}
use Rattle.bg_ledger.specs.Holdings.{after_leave}
use Rattle.bg_history.specs.declared.entry.Entry.{Entry}
use Rattle.bg_history.specs.declared.entry.Entry.TheVariants as entry
use Rattle.bg_history.specs.declared.entry.Outcome as outcome
use Rattle.bg_history.specs.Requests.{calls_of, given, request_numbers}
use Rattle.bg_history.specs.Steps.{Step, all_given, with_outcomes}
use Rattle.bg_history.specs.Compacted.{left_numbers, is_among, compacted, closed_after}
use Rattle.bg_history_laws.specs.Compaction.{Answers, Compacts, Commutes, Same, enters_anew}
use Rattle.bg_book.specs.declared.calls.Call.{Call}
use Rattle.bg_book.specs.declared.calls.Call.TheVariants as call
use Rattle.bg_history.specs.declared.control.Control.{Control}
use Rattle.bg_history.specs.declared.control.Control.TheVariants.{Tick}
use Rattle.bg_book.specs.declared.calls.Reply.{Reply}
use Rattle.bg_book.specs.declared.calls.Reply.TheVariants.{Entered, EnterRefused, Left, Done, ControlRefused, NoSuchSeat, SeatBusy, SeatIdle}
use Rattle.bg_rollout.specs.declared.fault.EnterFault as enter
use Rattle.bg_rollout.specs.declared.fault.EnterFault.TheVariants as enter_fault
use Rattle.bg_rollout.specs.declared.control_fault.ControlFault as control
use Rattle.bg_rollout.specs.declared.control_fault.ControlFault.TheVariants as control_fault
use Rattle.bg_rollout.specs.Changes.{Stepped, with_past, enter_entry, seat_in}
use Rattle.bg_rollout.specs.Compaction.{with_compacted}
use Rattle.bg_book.specs.Compaction.{is_history_full}
use Rattle.bg_rollout.specs.Invariant.{RoutingInvariant}
use Rattle.bg_rollout.specs.PastState.{lists_of}
use Rattle.bg_rollout.specs.State.{state_of}
use Rattle.bg_history.specs.Tables.{table_of}
use Rattle.bg_rollout.specs.Refusals.{enter_refusal, control_refusal, event_of, IsRefusedBy}
use Rattle.bg_rollout.specs.Routing.{Routing}
use Rattle.bg_book.specs.Runs.{Unchanged, SeatRefused, EnterStep, LeaveStep, ControlStep, EnterAt, LeaveAt, CallStep}
use Rattle.bg_book.proofs.Answering.{event-same, control-same, enter-same, ticket-same}
use Rattle.bg_book.proofs.Tests.{and_parts}

-- the facts of a book whose history is compacted
pub record Compaction (b : Routing) : Type 0 where
  pub represents : RoutingInvariant b
  pub compacts : Compacts b.strategy b.opening b.closed b.past
  pub shorter : (past : List Entry) → length (compacted past) ≤ length past
  pub lists : (past new : List Entry) → Same b.strategy b.opening past new → lists_of past ≡ lists_of new
  pub table : (past : List Entry) → table_of b.strategy (compacted past) ≡ table_of b.strategy past
  pub states : (closed new : List ℕ) (past other : List Entry) → Same b.strategy b.opening past other → Answers b.strategy b.opening past other
      → table_of b.strategy past ≡ table_of b.strategy other → ((i : ℕ) → calls_of closed i past ≡ calls_of new i other)
      → state_of b.strategy b.opening closed past ≡ state_of b.strategy b.opening new other
  pub once : with_compacted (with_compacted b) ≡ with_compacted b
  pub commutes : (e : Entry) (outcomes : List outcome.Outcome) (new : List Entry)
      → enters_anew e b.past ≡ true → Step b.strategy e b.past outcomes new
      → Commutes b.strategy b.opening b.closed e b.past outcomes new

-- the compacted book gives the reply, by this relation, and the books after it compact to the same book
abbrev pub Kept : Routing → Routing → (Routing → Type 0) → Type 0
Kept b new P = (other : Routing) × P other × (with_compacted other ≡ with_compacted new)

-- the case in which nothing changed
kept-unchanged : (b new : Routing) (seats new_seats : List Holding) → Compaction b → Unchanged b seats new new_seats
    → Kept b new (λ other. Unchanged (with_compacted b) seats other new_seats)
kept-unchanged b new seats new_seats k h = (with_compacted b, (refl, h.1), k.once ∙ ap with_compacted (sym h.0))

kept-refused : (b new : Routing) (seats new_seats : List Holding) (why reply : Reply) → Compaction b → SeatRefused why reply b seats new new_seats
    → Kept b new (λ other. SeatRefused why reply (with_compacted b) seats other new_seats)
kept-refused b new seats new_seats why reply k h =
    let u = kept-unchanged b new seats new_seats k h.1 in
    (u.0, (h.0, u.1), u.2)

-- one more entry is one more call of its seat, in both pasts
calls-entry : (closed new : List ℕ) (i : ℕ) (e : Entry) (a b : List Entry) → calls_of closed i a ≡ calls_of new i b → calls_of closed i (e ∷ a) ≡ calls_of new i (e ∷ b)
calls-entry closed new i (entry.Enter seat service number r port) a b h = omega (arith, h)
calls-entry closed new i (entry.Leave seat number r) a b h = omega (arith, h)
calls-entry closed new i e a b h = h

-- outcomes don't change the number of calls
calls-outcomes : (closed new : List ℕ) (i : ℕ) (outcomes : List outcome.Outcome) (a b : List Entry) → calls_of closed i a ≡ calls_of new i b
    → calls_of closed i (with_outcomes outcomes a) ≡ calls_of new i (with_outcomes outcomes b)
calls-outcomes closed new i [] a b h = h
calls-outcomes closed new i (o ∷ outcomes) a b h = calls-outcomes closed new i outcomes a b h

-- the case in which an event was recorded
kept-stepped : (b : Routing) (e : Entry) (past : List Entry) (n : ℕ) (seats : List Holding) → Compaction b → enters_anew e b.past ≡ true → Stepped b.strategy e b.past past n
    → (other : List Entry) × Stepped b.strategy e (compacted b.past) other n
    × (with_compacted (with_past (with_compacted b) other seats) ≡ with_compacted (with_past b past seats))
kept-stepped b e past n seats k anew h =
    let c = k.commutes e h.outcomes past anew h.step in
    let other : List Entry = with_outcomes h.outcomes (e ∷ compacted b.past) in
    let closed : List ℕ = closed_after b.past b.closed in
    let table : table_of b.strategy other ≡ table_of b.strategy past =
    sym (k.table other) ∙ ap (table_of b.strategy) c.past_is ∙ k.table past in
    let calls : (i : ℕ) → calls_of b.closed i past ≡ calls_of closed i other = λ i.
    ap (calls_of b.closed i) h.step.new_is
    ∙ calls-outcomes b.closed closed i h.outcomes (e ∷ b.past) (e ∷ compacted b.past)
    (calls-entry b.closed closed i e b.past (compacted b.past) (sym (k.compacts.calls i))) in
    let running = sym (k.states b.closed closed past other c.same c.answers (sym table) calls) in (
      other,
      record { outcomes = h.outcomes; step = c.step; count_is = h.count_is },
      ap (λ x. record (with_past b past seats) { closed = closed_after other closed; past = compacted other; lists = lists_of other; running = x }) running
          ∙ ap (λ x. record (with_past b past seats) { closed = x; past = compacted other; lists = lists_of other }) c.closed_is
          ∙ ap (λ x. record (with_past b past seats) { closed = closed_after past b.closed; past = x; lists = lists_of other }) c.past_is
          ∙ ap (λ x. record (with_past b past seats) { closed = closed_after past b.closed; past = compacted past; lists = x })
          (sym (k.lists past other c.same)),
    )

-- a number above all given ones is not the number of a request that left
above-left : (n : ℕ) (past : List Entry) → all_given n (request_numbers past) ≡ true → is_among (left_numbers past) (n + 1) ≡ false
above-left n [] h = refl
above-left n (entry.Enter seat service number r port ∷ before) h =
    above-left n before (and_parts (nat_le 1 number && nat_le number n) (all_given n (request_numbers before)) h).1
above-left n (entry.Leave seat number r ∷ before) h =
    let two = and_parts (nat_le 1 number && nat_le number n) (all_given n (request_numbers before)) h in
    let one : nat_le number n ≡ true = (and_parts (nat_le 1 number) (nat_le number n) two.0).1 in
    let other : (number == n + 1) ≡ false = grind (arith, nat_tests) in
    rw other (above-left n before two.1)
above-left n (e ∷ before) h = above-left n before h

-- a fault other than lack of room is the same
refused-same : {F : Type 0} (a b : Option F) (none full e : F) → (b ≢ Some full → a ≡ b) → e ≢ full → IsRefusedBy b none e → IsRefusedBy a none e
refused-same a b none full e same other (inl is) =
    inl (same (λ h. other (same_Some e full (sym is ∙ h))) ∙ is)
refused-same a b none full e same other (inr is) =
    inr (same (λ h. absurd (none_some b full is.0 h)) ∙ is.0, is.1) where
      none_some : {F : Type 0} (x : Option F) (f : F) → x ≡ None → x ≡ Some f → ⊥
      none_some x f n s = let c : None ≡ Some f = sym n ∙ s in absurd (cc)

no_refusal : {F : Type 0} (a b : Option F) (full : F) → (b ≢ Some full → a ≡ b) → b ≡ None → a ≡ None
no_refusal a b full same is = same (λ h. let c : None ≡ Some full = sym is ∙ h in absurd (cc)) ∙ is

enter-other : (e : enter.EnterFault) → is_history_full (EnterRefused e) ≡ false → e ≢ enter_fault.HistoryFull
enter-other e h is = let c : true ≡ false = sym (ap (λ f. is_history_full (EnterRefused f)) is) ∙ h in absurd (cc)

control-other : (e : control.ControlFault) → is_history_full (ControlRefused e) ≡ false → e ≢ control_fault.HistoryFull
control-other e h is = let c : true ≡ false = sym (ap (λ f. is_history_full (ControlRefused f)) is) ∙ h in absurd (cc)

kept-enter : (b new : Routing) (seats new_seats : List Holding) (place : ℕ) (seat : Holding) (service : Service) (reply : Reply) → Compaction b
    → EnterStep b seats place seat service reply new new_seats → is_history_full reply ≡ false
    → Kept b new (λ other. EnterStep (with_compacted b) seats place seat service reply other new_seats)
kept-enter b new seats new_seats place seat service (Entered t) k h room =
    let same = enter-same k.shorter b k.compacts service in
    let records : List Holding = slice_set b.seats seat.index (seat_in seat t) in
    let anew : enters_anew (enter_entry seat.index service t) b.past ≡ true
    = ap (λ n. not (is_among (left_numbers b.past) n)) h.1.number_is ∙ ap not (above-left (given b.closed b.past) b.past k.represents.legal.numbers) in
    let s = kept-stepped b (enter_entry seat.index service t) new.past 0 records k anew h.3 in (
      with_past (with_compacted b) s.0 records,
      (
        no_refusal (enter_refusal (with_compacted b) service) (enter_refusal b service) enter_fault.HistoryFull same h.0,
        ticket-same b k.compacts service t h.1,
        (refl, h.2.1),
        s.1,
      ),
      s.2 ∙ ap with_compacted (sym h.2.0),
    )
kept-enter b new seats new_seats place seat service (EnterRefused e) k h room =
    let same = enter-same k.shorter b k.compacts service in
    let u = kept-unchanged b new seats new_seats k h.1 in (
      u.0,
      (
        refused-same (enter_refusal (with_compacted b) service) (enter_refusal b service) enter_fault.OutOfMemory enter_fault.HistoryFull e same (enter-other e room) h.0,
        u.1,
      ),
      u.2,
    )
kept-enter b new seats new_seats place seat service reply k h room = absurd h

kept-leave : (b new : Routing) (seats new_seats : List Holding) (place : ℕ) (seat : Holding) (reply : Reply) → Compaction b
    → LeaveStep b seats place seat reply new new_seats → Kept b new (λ other. LeaveStep (with_compacted b) seats place seat reply other new_seats)
kept-leave b new seats new_seats place seat (Left l) k h =
    let records : List Holding = slice_set b.seats seat.index (after_leave seat) in
    let s = kept-stepped b (entry.Leave seat.index seat.number seat.revision) new.past h.2.0 records k refl h.2.1 in
    (with_past (with_compacted b) s.0 records, (h.0, (refl, h.1.1), (h.2.0, s.1, h.2.2)), s.2 ∙ ap with_compacted (sym h.1.0))
kept-leave b new seats new_seats place seat reply k h = absurd h

-- no event is an Enter
event-anew : (b : Routing) (past : List Entry) (c : Control) → enters_anew (event_of b c) past ≡ true
event-anew b past (Tick m) = refl
event-anew b past c = refl

kept-control : (b new : Routing) (seats new_seats : List Holding) (c : Control) (reply : Reply) → Compaction b
    → ControlStep b seats c reply new new_seats → is_history_full reply ≡ false → Kept b new (λ other. ControlStep (with_compacted b) seats c reply other new_seats)
kept-control b new seats new_seats c (Done n) k h room =
    let same = control-same k.shorter b k.compacts c in
    let s = kept-stepped b (event_of b c) new.past n b.seats k (event-anew b b.past c) h.4 in (
      with_past (with_compacted b) s.0 b.seats,
      (
        no_refusal (control_refusal (with_compacted b) c) (control_refusal b c) control_fault.HistoryFull same h.0,
        h.1,
        refl,
        h.3,
        rw (event-same b k.compacts c) s.1,
      ),
      s.2 ∙ ap with_compacted (sym h.2),
    )
kept-control b new seats new_seats c (ControlRefused e) k h room =
    let same = control-same k.shorter b k.compacts c in
    let u = kept-unchanged b new seats new_seats k h.1 in (
      u.0,
      (
        refused-same (control_refusal (with_compacted b) c) (control_refusal b c) control_fault.OutOfMemory control_fault.HistoryFull e same (control-other e room) h.0,
        u.1,
      ),
      u.2,
    )
kept-control b new seats new_seats c reply k h room = absurd h

kept-enter_at : (b new : Routing) (seats new_seats : List Holding) (place : ℕ) (o : Option Holding) (service : Service) (reply : Reply) → Compaction b
    → EnterAt b seats place o service reply new new_seats → is_history_full reply ≡ false
    → Kept b new (λ other. EnterAt (with_compacted b) seats place o service reply other new_seats)
kept-enter_at b new seats new_seats place None service reply k h room = kept-refused b new seats new_seats NoSuchSeat reply k h
kept-enter_at b new seats new_seats place (Some seat) service reply k (inl h) room =
    let u = kept-refused b new seats new_seats SeatBusy reply k h.1 in
    (u.0, inl (h.0, u.1), u.2)
kept-enter_at b new seats new_seats place (Some seat) service reply k (inr h) room =
    let u = kept-enter b new seats new_seats place seat service reply k h.1 room in
    (u.0, inr (h.0, u.1), u.2)

kept-leave_at : (b new : Routing) (seats new_seats : List Holding) (place : ℕ) (o : Option Holding) (reply : Reply) → Compaction b
    → LeaveAt b seats place o reply new new_seats → Kept b new (λ other. LeaveAt (with_compacted b) seats place o reply other new_seats)
kept-leave_at b new seats new_seats place None reply k h = kept-refused b new seats new_seats NoSuchSeat reply k h
kept-leave_at b new seats new_seats place (Some seat) reply k (inl h) =
    let u = kept-refused b new seats new_seats SeatIdle reply k h.1 in
    (u.0, inl (h.0, u.1), u.2)
kept-leave_at b new seats new_seats place (Some seat) reply k (inr h) =
    let u = kept-leave b new seats new_seats place seat reply k h.1 in
    (u.0, inr (h.0, u.1), u.2)

pub keeps_reply : (b : Routing) → Compaction b → (seats : List Holding) (c : Call) (reply : Reply) (new : Routing) (new_seats : List Holding)
    → CallStep b seats c reply new new_seats → is_history_full reply ≡ false
    → Kept b new (λ other. CallStep (with_compacted b) seats c reply other new_seats)
keeps_reply b k seats (call.Enter place service) reply new new_seats h room =
    kept-enter_at b new seats new_seats place (slice_get seats place) service reply k h room
keeps_reply b k seats (call.Leave place) reply new new_seats h room =
    kept-leave_at b new seats new_seats place (slice_get seats place) reply k h
keeps_reply b k seats (call.Control c) reply new new_seats h room =
    kept-control b new seats new_seats c reply k h room
