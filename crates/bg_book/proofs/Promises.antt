-- The calls that roll back, and those that promote.
use Rattle.std.proofs.Common.{◌≡◌, ◌≤◌, ◌+◌, ℕ, zero, suc, Bool, true, false, not, cond, ◌==◌, ◌&&◌, ◌||◌, nat_lt, nat_le, List, [], ◌∷◌, length, Option, Some, None, is_none, refl, ap, sym, subst, arith, ◌∙◌, ◌⊎◌, inl, inr}
use Rattle.std.specs.Prelude.{Result, Ok, Err, unwrap_or}
use Rattle.std.specs.Option.{option_or}
use Rattle.bg_strategy.specs.Label.{is_label}
use Rattle.bg_revisions.specs.PortLists.{are_ports}
use Rattle.bg_revisions.specs.Rosters.{well_formed}
use Rattle.bg_revisions.specs.declared.revision_fault.RevisionFault.{RevisionFault}
use Rattle.bg_revisions.specs.declared.revision_fault.RevisionFault.TheVariants.{BadName, BadPorts, SameTemplate, PortsDiffer, TooManyRevisions}
use Rattle.bg_history.specs.declared.entry.Entry.{Entry}
use Rattle.bg_history.specs.declared.entry.Entry.TheVariants as entry
use Rattle.bg_history.specs.declared.entry.Entry.TheVariants.{Outcome}
use Rattle.bg_history.specs.declared.entry.AnalysisResult.TheVariants.{Failed, Error}
use Rattle.bg_history.specs.declared.entry.Outcome.TheVariants.{Promoted}
use Rattle.bg_history.specs.AttemptBounds.{stable_of, newest_of, is_halt, is_running, is_halted}
use Rattle.bg_history.specs.Sizes.{existing, last_number, desired, is_scaled}
use Rattle.bg_history.specs.Deadlines.{exists_in}
use Rattle.bg_history.specs.Templates.{template, has_ports, namesake}
use Rattle.bg_history.specs.Allowed.{is_template, fits_namesake, may_deploy, is_allowed}
use Rattle.bg_history.specs.Attempts.{has_promote_full}
use Rattle.bg_history.specs.Selections.{active_of}
use Rattle.bg_history.specs.Steps.{Step}
use Rattle.bg_history_laws.specs.Reachable.{Reachable}
use Rattle.bg_history_laws.specs.Answers.{template_answer, namesake_answer}
use Rattle.bg_history_laws.specs.Rollback.{RollsBack, CanRollBack}
use Rattle.bg_history_laws.specs.FullPromotion.{next_promotion_call, CanPromote}
use Rattle.bg_history_laws.specs.Live.{is_tested}
use Rattle.std.proofs.lemmas.Bool.Decides.{nat_tests}
use Rattle.std.proofs.lemmas.Option.{same_Some}
use Rattle.bg_history.specs.declared.control.Control.{Control}
use Rattle.bg_history.specs.declared.control.Control.TheVariants.{Deploy, Available, Verdict, PromoteFull, Abort}
use Rattle.bg_rollout.specs.declared.control_fault.ControlFault.TheVariants.{HistoryFull, Revision}
use Rattle.bg_rollout.specs.Refusals.{fault_if, fault_in, event_fault, event_of, deploy_fault, deployed_number, has_no_place, is_full_for_control}
use Rattle.bg_rollout.specs.Routing.{Routing}
use Rattle.bg_book.specs.Promises.{IsTaken, CallRollsBack, CallsRollBack, next_promotion_control, CallsPromote, EntersTested}
use Rattle.bg_book.proofs.Tests.{and_parts, eq_from}

-- a running attempt isn't halted
running-unhalted : (past : List Entry) → is_running past ≡ true → is_halted past ≡ false
running-unhalted [] runs = refl
running-unhalted (entry.Deploy r name ports ∷ before) runs = refl
running-unhalted (entry.Retry ∷ before) runs = refl
running-unhalted (Outcome (Promoted r) ∷ before) runs = refl
running-unhalted (e ∷ before) runs = go (is_halt e) runs (running-unhalted before) where
  go : (halt : Bool) → not halt && is_running before ≡ true → (is_running before ≡ true → is_halted before ≡ false) → halt || is_halted before ≡ false
  go true runs earlier = absurd (cc)
  go false runs earlier = earlier runs

-- a call whose event has no fault can be refused only for lack of room
is-taken : (b : Routing) (c : Control) → event_fault b c ≡ None → IsTaken b c
is-taken b c none = rw none (go (is_full_for_control b.limits b.past)) where
  go : (full : Bool) → (fault_if full HistoryFull None ≡ None) ⊎ (fault_if full HistoryFull None ≡ Some HistoryFull)
  go true = inr refl
  go false = inl refl

-- a call whose event rolls back isn't refused otherwise, and it rolls back
call-back : (b : Routing) (c : Control) (e : Entry) → event_fault b c ≡ None → event_of b c ≡ e → RollsBack b.strategy b.opening e b.past → CallRollsBack b c
call-back b c e none is back = record {
  taken = is-taken b c none;
  back = λ seats n new new_seats step. back.back step.4.outcomes new.past
      (subst (λ (e : Entry). Step b.strategy e b.past step.4.outcomes new.past) is step.4.step);
}

-- the name and ports, the template and the number of revisions have no fault
no-fault : (r : ℕ) (formed : Result (Unit {0}) RevisionFault) (namesake : Result (Option ℕ) RevisionFault) (full : Bool) → formed ≡ Ok tt → namesake ≡ Ok (Some r) → full ≡ false
    → option_or (fault_in Revision formed) (option_or (fault_in Revision namesake) (fault_if full (Revision TooManyRevisions) None)) ≡ None
no-fault r formed namesake full is there room = rw (is, there, room) refl

-- a label and a revision's ports are well formed
well_formed-both : (label ports : Bool) → label ≡ true → ports ≡ true → ◌≡◌ {A = Result (Unit {0}) RevisionFault} (cond label (cond ports (Ok tt) (Err BadPorts)) (Err BadName)) (Ok tt)
well_formed-both label ports is are = rw (is, are) refl

-- if the newest revision has another template, the deploy of an existing revision's template gives its number
owned-answer : (r : ℕ) (newest same : Bool) → not newest ≡ true → same ≡ true
    → ◌≡◌ {A = Result (Option ℕ) RevisionFault} (cond newest (Err SameTemplate) (cond same (Ok (Some r)) (Err PortsDiffer))) (Ok (Some r))
owned-answer r true same other is = absurd (cc)
owned-answer r false same other is = rw is refl

-- a template that may be deployed and whose revision exists has the number of its name's namesake, and no fault
record Deploys (b : Routing) (r : ℕ) (name ports : List ℕ) : Type 0 where
  faultless : deploy_fault b name ports ≡ None
  numbered : deployed_number b name ≡ r

deploys : (b : Routing) (r : ℕ) (name ports : List ℕ) → r ≤ last_number b.past → may_deploy b.strategy b.opening r name ports b.past ≡ true → Deploys b r name ports
deploys b r name ports given may =
    let fits = and_parts _ (fits_namesake b.opening (namesake b.opening name b.past) r ports b.past) may in
    let other = and_parts _ (not (is_template name ports (template b.opening (newest_of b.past) b.past))) fits.0 in
    let formed = and_parts (is_label name) (are_ports b.strategy.replicas ports) other.0 in
    go (namesake b.opening name b.past) refl fits.1 (well_formed-both (is_label name) (are_ports b.strategy.replicas ports) formed.0 formed.1) other.1 where
      go : (k : Option ℕ) → namesake b.opening name b.past ≡ k → fits_namesake b.opening k r ports b.past ≡ true → well_formed b.strategy.replicas name ports ≡ Ok tt
          → not (is_template name ports (template b.opening (newest_of b.past) b.past)) ≡ true → Deploys b r name ports
      go None is fits formed other =
          let next : r ≡ last_number b.past + 1 = eq_from r (last_number b.past + 1) (and_parts (r == last_number b.past + 1) _ fits).0 in
          absurd (omega arith)
      go (Some q) is fits formed other =
          let parts = and_parts (q == r) (has_ports ports (template b.opening q b.past)) fits in
          let same : q ≡ r = eq_from q r parts.0 in
          record {
            faultless = no-fault q (well_formed b.strategy.replicas name ports) (template_answer b.opening (newest_of b.past) name ports b.past) (has_no_place b name) formed
                (ap (λ k. cond (is_template name ports (template b.opening (newest_of b.past) b.past)) (Err SameTemplate) (namesake_answer b.opening ports k b.past)) is
                ∙ owned-answer q (is_template name ports (template b.opening (newest_of b.past) b.past)) (has_ports ports (template b.opening q b.past)) other parts.1)
                (ap (λ k. is_none k && nat_le 64 (length (existing b.past))) is);
            numbered = ap (λ k. unwrap_or k (last_number b.past + 1)) is ∙ same;
          }

pub calls-roll_back : (b : Routing) → CanRollBack b.strategy b.opening b.past → Reachable b.strategy b.opening b.past → CallsRollBack b
calls-roll_back b way reach = record {
  abort = λ runs. call-back b Abort entry.Abort (rw (running-unhalted b.past runs, runs) refl) refl (way.abort runs);
  failed = λ analysis may. call-back b (Verdict analysis Failed) (entry.Verdict analysis Failed) (rw may refl) refl (way.failed analysis may);
  error = λ analysis may. call-back b (Verdict analysis Error) (entry.Verdict analysis Error) (rw may refl) refl (way.error analysis may);
  revert = λ t is other.
      let back = way.revert t is other in
      let exists : exists_in (stable_of b.past) b.past ≡ true = (and_parts (exists_in (stable_of b.past) b.past) (is_scaled b.strategy (stable_of b.past) b.past) reach.stable).0 in
      let made = deploys b (stable_of b.past) t.name t.ports (reach.given_to (stable_of b.past) exists) back.allowed in
      call-back b (Deploy t.name t.ports) (entry.Deploy (stable_of b.past) t.name t.ports) made.faultless (ap (λ r. entry.Deploy r t.name t.ports) made.numbered) back;
}

-- the event of the next promotion call is the next promotion event of the past
next-event : (b : Routing) → event_of b (next_promotion_control b) ≡ next_promotion_call b.strategy b.past
next-event b = go (has_promote_full b.past) where
  go : (full : Bool) → event_of b (cond full (Available (newest_of b.past) (desired b.strategy (newest_of b.past) b.past)) PromoteFull)
      ≡ cond full (entry.Available (newest_of b.past) (desired b.strategy (newest_of b.past) b.past)) entry.PromoteFull
  go true = refl
  go false = refl

-- an allowed promotion event has no fault
next-faultless : (b : Routing) → is_allowed b.strategy b.opening (next_promotion_call b.strategy b.past) b.past ≡ true → event_fault b (next_promotion_control b) ≡ None
next-faultless b may = go (has_promote_full b.past) refl may where
  r : ℕ
  r = newest_of b.past

  go : (full : Bool) → has_promote_full b.past ≡ full
      → is_allowed b.strategy b.opening (cond full (entry.Available r (desired b.strategy r b.past)) entry.PromoteFull) b.past ≡ true
      → event_fault b (cond full (Available r (desired b.strategy r b.past)) PromoteFull) ≡ None
  go true is h =
      let both = and_parts (exists_in r b.past) (nat_le (desired b.strategy r b.past) (desired b.strategy r b.past)) h in
      let less : nat_lt (desired b.strategy r b.past) (desired b.strategy r b.past) ≡ false = grind (arith, nat_tests) in
      rw (both.0, less) refl
  go false is h =
      let both = and_parts (is_running b.past) (not (has_promote_full b.past)) h in
      rw (running-unhalted b.past both.0, both.0, is) refl

-- so at most as many calls as events promote r
pub calls-promote : (calls : ℕ) (b : Routing) (r : ℕ) → CanPromote calls b.strategy b.opening r b.past → CallsPromote calls b r
calls-promote zero b r way = way
calls-promote (suc calls) b r (inl there) = inl there
calls-promote (suc calls) b r (inr (may, on)) = inr (
  is-taken b (next_promotion_control b) (next-faultless b may),
  λ seats n new new_seats step.
      let made : Step b.strategy (next_promotion_call b.strategy b.past) b.past step.4.outcomes new.past =
      subst (λ (e : Entry). Step b.strategy e b.past step.4.outcomes new.past) (next-event b) step.4.step in
      let next : CanPromote calls b.strategy b.opening r new.past = on step.4.outcomes new.past made in
      calls-promote calls new r (subst (λ (m : Routing). CanPromote calls m.strategy m.opening r new.past) (sym step.2) next),
)

-- if the active revision is tested, a request that enters at the active service gets a tested revision
pub enters-tested : (b : Routing) → is_tested b.strategy (active_of b.past) b.past ≡ true → EntersTested b
enters-tested b tested seats place seat t new new_seats step =
    subst (λ (r : ℕ). is_tested b.strategy r b.past ≡ true) (same_Some (active_of b.past) t.revision step.1.revision_is) tested
