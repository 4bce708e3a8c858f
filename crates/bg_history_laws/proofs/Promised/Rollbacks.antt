-- A rollback is always possible.
use Rattle.std.proofs.Common.{◌≡◌, ℕ, true, false, not, cond, ◌==◌, List, ◌∷◌, refl, ap, sym, subst, ◌∙◌}
use Rattle.bg_strategy.specs.declared.strategy.Strategy.{Strategy}
use Rattle.bg_history.specs.declared.entry.Entry.{Entry}
use Rattle.bg_history.specs.declared.entry.Entry.TheVariants.{Deploy, Verdict, Abort, Outcome}
use Rattle.bg_history.specs.declared.entry.Outcome as outcome
use Rattle.bg_history.specs.declared.entry.Outcome.TheVariants.{Ready, Resumed, Switched, Promoted, ScaledDown, Removed}
use Rattle.bg_history.specs.declared.entry.AnalysisResult.TheVariants.{Failed, Error}
use Rattle.bg_history.specs.Kept.{Opening}
use Rattle.bg_history.specs.AttemptBounds.{stable_of, newest_of, is_running}
use Rattle.bg_history.specs.Selections.{active_of}
use Rattle.bg_history.specs.Sizes.{available, is_scaled}
use Rattle.bg_history.specs.Deadlines.{exists_in}
use Rattle.bg_history.specs.Allowed.{is_allowed}
use Rattle.bg_history.specs.Steps.{all_allowed, IsLegal, Step}
use Rattle.bg_history_laws.specs.Reachable.{exists_scaled, Reachable}
use Rattle.bg_history_laws.specs.Rollback.{IsRolledBack, RollsBack, CanRollBack}
use Rattle.bg_history_laws.proofs.Tests.{and_parts, and_both, both_ways, equal_itself}
use Rattle.bg_history_laws.proofs.Promised.Outcomes.{step-keeps, step-allowed}
use Rattle.bg_history_laws.proofs.Promised.Names.{may-revert}
use Rattle.bg_history_laws.proofs.Promised.Attempts.{ready-step, resumed-step, switched-step, promoted-step, down-not_stable}

-- no attempt runs, and r is active and stable and has this many available endpoints
record IsCalmAt (r endpoints : ℕ) (past : List Entry) : Type 0 where
  ended : is_running past ≡ false
  active : active_of past ≡ r
  stable : stable_of past ≡ r
  available_is : available r past ≡ endpoints

-- each outcome that is then allowed keeps this: it is no step of an attempt, and scales down another revision
calm-kept : (s : Strategy) (o : Opening) (r n : ℕ) (x : outcome.Outcome) (p : List Entry) → all_allowed s o p ≡ true → is_allowed s o (Outcome x) p ≡ true
    → IsCalmAt r n p → IsCalmAt r n (Outcome x ∷ p)
calm-kept s o r n (Ready q) p a may h = both_ways (is_running p) (ready-step s q p may).runs h.ended
calm-kept s o r n (Resumed q) p a may h = both_ways (is_running p) (resumed-step s q p may).runs h.ended
calm-kept s o r n (Switched q) p a may h = both_ways (is_running p) (switched-step s q p may).runs h.ended
calm-kept s o r n (Promoted q) p a may h = both_ways (is_running p) (promoted-step s q p may).runs h.ended
calm-kept s o r n (ScaledDown q) p a may h =
    let other : (q == r) ≡ false = ap (λ k. q == k) (sym h.stable) ∙ down-not_stable s q p may in
    record { ended = h.ended; active = h.active; stable = h.stable; available_is = rw other h.available_is }
calm-kept s o r n (Removed q) p a may h = record { ended = h.ended; active = h.active; stable = h.stable; available_is = h.available_is }

-- so an allowed event after which this holds rolls back
rolls-back : ((s : Strategy) (o : Opening) (past : List Entry) → all_allowed s o past ≡ true → Reachable s o past)
    → (s : Strategy) (o : Opening) (e : Entry) (past : List Entry) → all_allowed s o past ≡ true → is_allowed s o e past ≡ true
    → IsCalmAt (stable_of past) (available (stable_of past) past) (e ∷ past) → RollsBack s o e past
rolls-back reach s o e past a may calm = record { allowed = may; back = λ xs new step. back xs new step } where
  now : all_allowed s o (e ∷ past) ≡ true
  now = and_both (is_allowed s o e past) (all_allowed s o past) may a

  back : (xs : List outcome.Outcome) (new : List Entry) → Step s e past xs new → IsRolledBack s (stable_of past) (available (stable_of past) past) new
  back xs new step =
      let after : IsCalmAt (stable_of past) (available (stable_of past) past) new =
      step-keeps s o (IsCalmAt (stable_of past) (available (stable_of past) past)) (λ x p. calm-kept s o (stable_of past) (available (stable_of past) past) x p) e past xs new now step calm in
      record {
        active = after.active;
        preview = ap (λ b. cond b (newest_of new) (stable_of new)) after.ended ∙ after.stable;
        stable = after.stable;
        exists_and_scaled = subst (λ (k : ℕ). exists_scaled s k new ≡ true) after.stable (reach s o new (step-allowed s o e past xs new now step)).stable;
        available = after.available_is;
        ended = after.ended;
      }

pub can-roll_back : ((s : Strategy) (o : Opening) (past : List Entry) → all_allowed s o past ≡ true → Reachable s o past)
    → (s : Strategy) (o : Opening) (closed : List ℕ) (past : List Entry) → IsLegal s o closed past → CanRollBack s o past
can-roll_back reach s o closed past legal = record {
  abort = λ runs. rolls-back reach s o Abort past legal.allowed runs (record { ended = refl; active = refl; stable = refl; available_is = refl });
  failed = λ analysis may. rolls-back reach s o (Verdict analysis Failed) past legal.allowed may (record { ended = refl; active = refl; stable = refl; available_is = refl });
  error = λ analysis may. rolls-back reach s o (Verdict analysis Error) past legal.allowed may (record { ended = refl; active = refl; stable = refl; available_is = refl });
  template_is = there.templates (stable_of past) stable;
  revert = λ t is other. rolls-back reach s o (Deploy (stable_of past) t.name t.ports) past legal.allowed
      (may-revert reach s o past (stable_of past) t legal.opening legal.allowed stable is other)
      (record {
        ended = ap not (equal_itself (stable_of past));
        active = ap (λ b. cond b (stable_of past) (active_of past)) (equal_itself (stable_of past));
        stable = refl;
        available_is = refl;
      });
} where
  there : Reachable s o past
  there = reach s o past legal.allowed

  stable : exists_in (stable_of past) past ≡ true
  stable = (and_parts (exists_in (stable_of past) past) (is_scaled s (stable_of past) past) there.stable).0
