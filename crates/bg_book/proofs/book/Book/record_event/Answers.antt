use Rattle.std.proofs.Common.{◌≡◌, ◌≤◌, ◌+◌, ◌*◌, ◌∷◌, ℕ, true, length, Option, Some, None, Result, Ok, Err, inl, sym, ap, ◌∙◌, subst, arith}
use Rattle.std.specs.Result.{IsErrAnd}
use Rattle.bg_history.specs.Steps.{is_settled}
use Rattle.bg_history_laws.specs.Reachable.{Reachable}
use Rattle.bg_history.specs.declared.entry.Entry.{Entry}
use Rattle.bg_rollout.specs.declared.accepted_event.AcceptedEvent.{AcceptedEvent}
use Rattle.bg_history.specs.declared.control.Control.{Control}
use Rattle.bg_rollout.specs.declared.control_fault.ControlFault.{ControlFault}
use Rattle.bg_rollout.specs.declared.control_fault.ControlFault.TheVariants as control_fault
use Rattle.bg_rollout.specs.declared.limits.Limits.{Limits}
use Rattle.bg_rollout.specs.Changes.{Stepped, with_past}
use Rattle.bg_rollout.specs.Refusals.{all_open, AnswersBy, event_of, control_refusal}
use Rattle.bg_rollout.specs.Judging.{IsAccepted, entry_of}
use Rattle.bg_rollout.specs.Routing.{Routing}
use Rattle.bg_rollout.specs.Settling.{Reached}
use Rattle.bg_rollout.specs.Recording.{Recorded}
use Rattle.bg_rollout.specs.Invariant.{RolloutModel}
use Rattle.bg_book.specs.Invariant.{AtRest}
use Rattle.bg_book.proofs.Stepping.{stepped_by, reached_few, open_after, length_after, limits_after, control_opens_none}
use Rattle.bg_book.proofs.book.Book.record_event.Goals as goal

pub judge-requires : goal.judge-requires
judge-requires g c = omega (arith, c.self.invariant.room, c.holds_invariant.ensures.entries)

pub places_kept-reserved-requires : goal.places_kept-reserved-requires
places_kept-reserved-requires g c = omega (arith, c.self.invariant.room, c.holds_invariant.ensures.entries)

pub reserve-requires : goal.reserve-requires
reserve-requires g c = omega (arith, c.self.invariant.room, c.holds_invariant.ensures.entries, c.places_kept-reserved.ensures)

pub settle-requires : goal.settle-requires
settle-requires g c = λ outcomes follow.
    let b = c.take_in.new.self.routing in
    let reach : Reachable b.strategy b.opening b.past = c.reachable.ensures b.strategy b.opening b.past c.holds_invariant-2.ensures.legal.allowed in
    let few = c.few_follow.ensures b.strategy b.past outcomes follow in
    omega (arith, few, c.work_is_bounded.ensures b.strategy b.past reach.few, c.in_ok-take_in.ensures.ok.spare, c.in_ok-reserve.ensures.ok, c.places_kept-reserved.ensures)

-- the fault found in the book's fields is the fault of the book
found : (b now : Routing) (control : Control) (answer : Option ControlFault) → b ≡ now → control_refusal b control ≡ answer → control_refusal now control ≡ answer
found b now control answer is judged = subst (λ (v : Routing). control_refusal v control ≡ answer) is judged

pub returns-clause-refusal : goal.returns-clause-refusal
returns-clause-refusal g c = found _ _ c.args.control.now None c.self.view_is c.in_ok-accepted.ensures.judged

pub returns-in_err-accepted-clause-refusal : goal.returns-in_err-accepted-clause-refusal
returns-in_err-accepted-clause-refusal g c = told _ control_fault.OutOfMemory _ c.from_residual.result (found _ _ c.args.control.now _ c.self.view_is c.in_err-accepted.ensures.judged) c.from_residual.ensures.1 where
  told : (x : Option ControlFault) (last e : ControlFault) (r : Result ℕ ControlFault) → x ≡ Some e → IsErrAnd r (λ f. f ≡ e) → AnswersBy x last r
  told x last e (Ok n) is h = absurd h
  told x last e (Err f) is h = inl (is ∙ ap Some (sym h))

pub returns-clause-few : goal.returns-clause-few
returns-clause-few g c =
    let b = c.take_in.new.self.routing in
    let reach : Reachable b.strategy b.opening b.past = c.reachable.ensures b.strategy b.opening b.past c.holds_invariant-2.ensures.legal.allowed in
    let few = reached_few c.few_follow.ensures b _ c.settle.result 136 c.settle.ensures.reached (c.work_is_bounded.ensures b.strategy b.past reach.few) in
    omega (arith, few)

-- the invariant after the outcomes of an event that had room
at_rest : {count : ℕ} (rollout reserved event settled : RolloutModel) (control : Control) (n : ℕ) → AtRest count rollout → reserved.routing ≡ rollout.routing → Recorded (event_of reserved.routing control) reserved event
    → Reached event.routing settled.routing n → n ≤ 136 → settled.spare + n ≡ event.spare → 141 + 3 * all_open rollout.routing.past ≤ reserved.spare
    → length rollout.routing.past + 141 + 3 * all_open rollout.routing.past ≤ rollout.routing.limits.entries → is_settled settled.routing.strategy settled.routing.past ≡ true → AtRest count settled
at_rest rollout reserved event settled control n rest same recorded reached few spare places room quiet =
    let made : event.routing ≡ with_past rollout.routing (event_of rollout.routing control ∷ rollout.routing.past) rollout.routing.seats =
    recorded.routing ∙ ap (λ (v : Routing). with_past v (event_of v control ∷ v.past) v.seats) same in
    let kept : all_open settled.routing.past ≡ all_open rollout.routing.past =
    open_after event.routing settled.routing n reached ∙ ap (λ (v : Routing). all_open v.past) made ∙ control_opens_none rollout.routing control rollout.routing.past in
    let entries : length settled.routing.past ≡ n + length event.routing.past = length_after event.routing settled.routing n reached in
    let one : length event.routing.past ≡ length (event_of rollout.routing control ∷ rollout.routing.past) = ap (λ (v : Routing). length v.past) made in
    let limits : settled.routing.limits ≡ rollout.routing.limits = limits_after event.routing settled.routing n reached ∙ ap (λ (v : Routing). v.limits) made in
    let limit : settled.routing.limits.entries ≡ rollout.routing.limits.entries = ap (λ (l : Limits). l.entries) limits in
    record {
      all_seats = ap (λ (v : Routing). v.opening.seats) reached.now_is ∙ ap (λ (v : Routing). v.opening.seats) made ∙ rest.all_seats;
      settled = quiet;
      spare = omega (arith, kept, spare, recorded.spare, places, few);
      room = omega (arith, kept, entries, one, room, limit, few);
    }

-- the recorded entry is the entry of the event
event_recorded : (found : Routing) (reserved event : RolloutModel) (accepted : AcceptedEvent) (control : Control) → reserved.routing ≡ found → entry_of found accepted ≡ event_of found control
    → Recorded (entry_of reserved.routing accepted) reserved event → Recorded (event_of reserved.routing control) reserved event
event_recorded found reserved event accepted control same is made =
    subst (λ (e : Entry). Recorded e reserved event) (subst (λ (v : Routing). entry_of v accepted ≡ event_of v control) (sym same) is) made

pub invariant_of-self-2 : goal.invariant_of-self-2
invariant_of-self-2 g c =
    let b = c.take_in.new.self.routing in
    let reach : Reachable b.strategy b.opening b.past = c.reachable.ensures b.strategy b.opening b.past c.holds_invariant-2.ensures.legal.allowed in
    let few = reached_few c.few_follow.ensures b _ c.settle.result 136 c.settle.ensures.reached (c.work_is_bounded.ensures b.strategy b.past reach.few) in
    at_rest c.self.inside.rollout c.reserve.new.self c.take_in.new.self c.settle.new.self c.args.control.now c.settle.result c.self.invariant c.reserve.ensures.routing (event_recorded _ c.reserve.new.self c.take_in.new.self c.in_ok-accepted.accepted c.args.control.now c.reserve.ensures.routing c.in_ok-accepted.ensures.entry c.in_ok-take_in.ensures.ok)
    c.settle.ensures.reached few c.settle.ensures.spare (omega (arith, c.in_ok-reserve.ensures.ok, c.places_kept-reserved.ensures))
    c.in_ok-accepted.ensures.room c.settle.ensures.settled

pub take_in-requires-clause-accepted : goal.take_in-requires-clause-accepted
take_in-requires-clause-accepted g c = subst (λ (v : Routing). IsAccepted v c.in_ok-accepted.accepted) (sym c.reserve.ensures.routing) c.in_ok-accepted.ensures.accepted

-- the event, and the outcomes after it
stepped : (b now reserved event new : Routing) (control : Control) (n : ℕ) → b ≡ now → reserved ≡ b → event ≡ with_past reserved (event_of reserved control ∷ reserved.past) reserved.seats
    → Reached event new n → is_settled new.strategy new.past ≡ true → Stepped now.strategy (event_of now control) now.past new.past n
stepped b now reserved event new control n is same made reached settled =
    subst (λ (v : Routing). Stepped v.strategy (event_of v control) v.past new.past n) (same ∙ is)
    (stepped_by reserved event new (event_of reserved control) reserved.seats n made reached settled)

pub returns-clause-step : goal.returns-clause-step
returns-clause-step g c =
    stepped _ _ _ _ _ c.args.control.now c.settle.result c.self.view_is c.reserve.ensures.routing (event_recorded _ c.reserve.new.self c.take_in.new.self c.in_ok-accepted.accepted c.args.control.now c.reserve.ensures.routing c.in_ok-accepted.ensures.entry c.in_ok-take_in.ensures.ok).routing c.settle.ensures.reached c.settle.ensures.settled
