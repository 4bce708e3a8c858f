-- While no attempt runs, the active revision is the stable one; so the preview revision has no deadline either.
use Rattle.std.proofs.Common.{◌≡◌, ℕ, Bool, true, false, not, cond, ◌==◌, ◌&&◌, List, [], ◌∷◌, None, refl, sym, subst, ◌∙◌}
use Rattle.bg_strategy.specs.declared.strategy.Strategy.{Strategy}
use Rattle.bg_history.specs.declared.entry.Entry.{Entry}
use Rattle.bg_history.specs.declared.entry.Entry.TheVariants.{Deploy, Retry, Outcome}
use Rattle.bg_history.specs.declared.entry.Outcome.TheVariants.{Switched, Promoted}
use Rattle.bg_history.specs.Kept.{Opening}
use Rattle.bg_history.specs.AttemptBounds.{stable_of, newest_of, is_halt, is_running}
use Rattle.bg_history.specs.Attempts.{has_switched}
use Rattle.bg_history.specs.Selections.{active_of, preview_of}
use Rattle.bg_history.specs.Deadlines.{deadline}
use Rattle.bg_history.specs.Steps.{all_allowed}
use Rattle.bg_history_laws.proofs.Tests.{equal_numbers}
use Rattle.bg_history_laws.proofs.Reached.Allowing.{allowed_now, allowed_before, switched-newest, switched-running, promoted-newest, promoted-switched}
use Rattle.bg_history_laws.proofs.Reached.Unmarked.{active_unmarked, newest_unmarked}

-- once the attempt has switched, the active revision is the newest one
pub switched-active : (s : Strategy) (o : Opening) (past : List Entry) → all_allowed s o past ≡ true → has_switched past ≡ true → active_of past ≡ newest_of past
switched-active s o [] a h = absurd (cc)
switched-active s o (Deploy r name ports ∷ before) a h = absurd (cc)
switched-active s o (Retry ∷ before) a h = absurd (cc)
switched-active s o (Outcome (Promoted r) ∷ before) a h = absurd (cc)
switched-active s o (Outcome (Switched r) ∷ before) a h = switched-newest s r before (allowed_now s o (Outcome (Switched r)) before a)
switched-active s o (e ∷ before) a h = go (is_halt e) h (switched-active s o before (allowed_before s o e before a)) where
  go : (halt : Bool) → not halt && has_switched before ≡ true → (has_switched before ≡ true → active_of before ≡ newest_of before)
      → cond halt (stable_of before) (active_of before) ≡ newest_of before
  go true h earlier = absurd (cc)
  go false h earlier = earlier h

-- while no attempt runs, the active revision is the stable one
steady-active : (s : Strategy) (o : Opening) (past : List Entry) → all_allowed s o past ≡ true → is_running past ≡ false → active_of past ≡ stable_of past
steady-active s o [] a h = refl
steady-active s o (Deploy r name ports ∷ before) a h = go (r == stable_of before) refl h where
  go : (b : Bool) → (r == stable_of before) ≡ b → not b ≡ false → cond b r (active_of before) ≡ stable_of before
  go true is h = equal_numbers r (stable_of before) is
  go false is h = absurd (cc)
steady-active s o (Retry ∷ before) a h = absurd (cc)
steady-active s o (Outcome (Promoted r) ∷ before) a h =
    let allowed = allowed_now s o (Outcome (Promoted r)) before a in
    switched-active s o before (allowed_before s o (Outcome (Promoted r)) before a) (promoted-switched s r before allowed) ∙ sym (promoted-newest s r before allowed)
steady-active s o (Outcome (Switched r) ∷ before) a h =
    let never : true ≡ false = sym (switched-running s r before (allowed_now s o (Outcome (Switched r)) before a)) ∙ h in absurd (cc)
steady-active s o (e ∷ before) a h = go (is_halt e) h (steady-active s o before (allowed_before s o e before a)) where
  go : (halt : Bool) → not halt && is_running before ≡ false → (is_running before ≡ false → active_of before ≡ stable_of before)
      → cond halt (stable_of before) (active_of before) ≡ stable_of before
  go true h earlier = refl
  go false h earlier = earlier h

-- the preview revision has no deadline
pub preview_unmarked : (s : Strategy) (o : Opening) (past : List Entry) → all_allowed s o past ≡ true → deadline s (preview_of past) past ≡ None
preview_unmarked s o past a = go (is_running past) refl where
  go : (b : Bool) → is_running past ≡ b → deadline s (cond b (newest_of past) (stable_of past)) past ≡ None
  go true is = newest_unmarked s o past a is
  go false is = subst (λ (k : ℕ). deadline s k past ≡ None) (steady-active s o past a is) (active_unmarked s o past a)
