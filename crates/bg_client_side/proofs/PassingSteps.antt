-- What a call for a response that is passed on makes of a connection.
use Rattle.std.proofs.Common.{◌≡◌, ◌∙◌, ℕ, ◌≤◌, Bool, true, false, cond, not, List, [], ◌++◌, length, inr, refl, sym, ap, subst, arith, append-nil}
use Rattle.bg_http.specs.declared.persistence.Persistence.{Persistence}
use Rattle.bg_client_side.proofs.SoundLemmas.{both}
use Rattle.bg_client_side.proofs.Steps.{Step, stage_step, no_later_than_left, quiet_step}
use Rattle.bg_client_side.specs.Clients.{Client, cut_off, left, may_pass_on, passed_at, passing_on}
use Rattle.bg_client_side.specs.Runs.{Calls, ClientCall, begins_passing_on, count_if, cuts, passes_on}
use Rattle.bg_client_side.specs.Stages.{awaits_answer, is_handed_out, is_passing_on, rank, to_write}
use Rattle.bg_client_side.specs.declared.stage.Stage.{Stage}
use Rattle.bg_client_side.specs.declared.stage.Stage.TheVariants as stage

-- a stage at which a request is inside, as early as this
record IsInsideAt (s : Stage) (at_most : ℕ) : Type 0 where
  nothing : to_write s ≡ []
  awaits : awaits_answer s ≡ true
  early : rank s ≤ at_most

handed_out : (s : Stage) → is_handed_out s ≡ true → IsInsideAt s 3
handed_out stage.Idle is = absurd (cc)
handed_out stage.Reading is = absurd (cc)
handed_out stage.Continuing is = absurd (cc)
handed_out (stage.Waiting request) is = absurd (cc)
handed_out stage.Inside is = record { nothing = refl; awaits = refl; early = omega arith }
handed_out (stage.PassingOn passing) is = absurd (cc)
handed_out (stage.Refused named) is = absurd (cc)
handed_out (stage.Answering answering) is = absurd (cc)
handed_out (stage.Lingering lingering) is = absurd (cc)
handed_out stage.Left is = absurd (cc)

passed_on : (s : Stage) → is_passing_on s ≡ true → IsInsideAt s 4
passed_on stage.Idle is = absurd (cc)
passed_on stage.Reading is = absurd (cc)
passed_on stage.Continuing is = absurd (cc)
passed_on (stage.Waiting request) is = absurd (cc)
passed_on stage.Inside is = absurd (cc)
passed_on (stage.PassingOn passing) is = record { nothing = refl; awaits = refl; early = omega arith }
passed_on (stage.Refused named) is = absurd (cc)
passed_on (stage.Answering answering) is = absurd (cc)
passed_on (stage.Lingering lingering) is = absurd (cc)
passed_on stage.Left is = absurd (cc)

pub begins_step : (old new : Client) (persistence : Persistence) (now : ℕ) (begun : Bool)
    → Calls old (begins_passing_on persistence now begun) new → Step old (begins_passing_on persistence now begun) new
begins_step old new persistence now begun is =
    subst (Step old (begins_passing_on persistence now begun)) (sym is.1) (go (may_pass_on old) refl) where
      go : (b : Bool) → may_pass_on old ≡ b
          → Step old (begins_passing_on persistence now begun) (cond b (passing_on persistence now old) old)
      go true may =
          let before = handed_out old.stage (both (is_handed_out old.stage) (not old.facts.has_failed) may).0 in
          let counts = ap count_if before.awaits in
          let begins = passing_on persistence now old in
          stage_step old begins (begins_passing_on persistence now begun) begins.stage refl refl refl refl
          (sym before.nothing) (omega (arith, counts)) (omega (arith, before.early))
      go false may = quiet_step old (begins_passing_on persistence now begun) refl refl refl refl

pub passes_step : (old new : Client) (bytes : List ℕ) (waits : Bool) (now : ℕ) (passes : Bool)
    → Calls old (passes_on bytes waits now passes) new → Step old (passes_on bytes waits now passes) new
passes_step old new bytes waits now passes is =
    subst (Step old (passes_on bytes waits now passes)) (sym is.1)
    (subst (λ b. Step old (passes_on bytes waits now b) (passed_at old.stage (length bytes) waits now old)) (sym is.0)
    (go old.stage refl)) where
      call : Stage → ClientCall
      call s = passes_on bytes waits now (is_passing_on s)

      go : (s : Stage) → old.stage ≡ s → Step old (call s) (passed_at s (length bytes) waits now old)
      go stage.Idle at_is = quiet_step old (call stage.Idle) refl refl refl refl
      go stage.Reading at_is = quiet_step old (call stage.Reading) refl refl refl refl
      go stage.Continuing at_is = quiet_step old (call stage.Continuing) refl refl refl refl
      go (stage.Waiting request) at_is = quiet_step old (call (stage.Waiting request)) refl refl refl refl
      go stage.Inside at_is = quiet_step old (call stage.Inside) refl refl refl refl
      go (stage.PassingOn passing) at_is =
          let nothing = ap to_write at_is in
          let awaits = ap (λ t. count_if (awaits_answer t)) at_is in
          let early = ap rank at_is in
          record {
            cut = [];
            in_sequence = ap (λ rest. rest ++ bytes) nothing ∙ sym (append-nil bytes);
            lost = 0;
            once = omega (arith, awaits);
            none = λ stays. (refl, refl);
            forward = inr (refl, omega (arith, early));
          }
      go (stage.Refused named) at_is = quiet_step old (call (stage.Refused named)) refl refl refl refl
      go (stage.Answering answering) at_is = quiet_step old (call (stage.Answering answering)) refl refl refl refl
      go (stage.Lingering lingering) at_is = quiet_step old (call (stage.Lingering lingering)) refl refl refl refl
      go stage.Left at_is = quiet_step old (call stage.Left) refl refl refl refl

pub cuts_step : (old new : Client) (was : Bool) → Calls old (cuts was) new → Step old (cuts was) new
cuts_step old new was is =
    subst (Step old (cuts was)) (sym is.1)
    (subst (λ b. Step old (cuts b) (cut_off old)) (sym is.0) (go (is_passing_on old.stage) refl)) where
      go : (b : Bool) → is_passing_on old.stage ≡ b → Step old (cuts b) (cond b (left old) old)
      go true passes =
          let before = passed_on old.stage passes in
          let counts = ap count_if before.awaits in
          record {
            cut = [];
            in_sequence = ap (λ rest. rest ++ []) before.nothing;
            lost = 0;
            once = omega (arith, counts);
            none = λ stays. absurd (cc);
            forward = inr (refl, no_later_than_left old.stage);
          }
      go false passes = quiet_step old (cuts false) refl refl refl refl
