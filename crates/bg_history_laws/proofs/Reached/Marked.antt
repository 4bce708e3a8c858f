-- A revision with a deadline exists and is scaled.
use Rattle.std.proofs.Common.{◌≡◌, ℕ, Bool, true, false, not, ◌==◌, ◌&&◌, ◌||◌, List, [], ◌∷◌, None, is_some, refl, ap, sym, subst, ◌∙◌}
use Rattle.bg_strategy.specs.declared.strategy.Strategy.{Strategy}
use Rattle.bg_history.specs.declared.entry.Entry.{Entry}
use Rattle.bg_history.specs.declared.entry.Entry.TheVariants.{Deploy, Outcome}
use Rattle.bg_history.specs.declared.entry.Outcome.TheVariants.{ScaledDown}
use Rattle.bg_history.specs.Kept.{Opening}
use Rattle.bg_history.specs.AttemptBounds.{stable_of, newest_of, is_halt}
use Rattle.bg_history.specs.Selections.{active_of}
use Rattle.bg_history.specs.Marks.{halts, leaves_active, supersedes, has_abort_delay, scales_down, aborts, clears}
use Rattle.bg_history.specs.Sizes.{is_scaled}
use Rattle.bg_history.specs.Deadlines.{exists_in, deadline}
use Rattle.bg_history.specs.Steps.{all_allowed}
use Rattle.bg_history_laws.specs.Reachable.{exists_scaled}
use Rattle.bg_history_laws.proofs.Tests.{and_parts, and_both, or_right, equal_itself, equal_numbers}
use Rattle.bg_history_laws.proofs.Reached.Allowing.{allowed_now, allowed_before}
use Rattle.bg_history_laws.proofs.Reached.Running.{halt-running}
use Rattle.bg_history_laws.proofs.Reached.Unmarked.{deadline_by, cleared_unmarked, kept_active}
use Rattle.bg_history_laws.proofs.Reached.Staying.{stays}
use Rattle.bg_history_laws.proofs.Reached.Selected.{SelectedScaled, selected_scaled}

-- a revision that left the active service was active
left_active : (r : ℕ) (e : Entry) (before : List Entry) → leaves_active r e before ≡ true → active_of before ≡ r
left_active r e before h =
    equal_numbers (active_of before) r (and_parts (active_of before == r) (not (active_of (e ∷ before) == r)) (and_parts _ (not (halts r e before)) h).0).0

-- a revision that was superseded was the newest one, and scaled
superseded_newest : (s : Strategy) (r : ℕ) (e : Entry) (before : List Entry) → supersedes s r e before ≡ true → (newest_of before ≡ r) × (is_scaled s r before ≡ true)
superseded_newest s r (Deploy q name ports) before h =
    let scaled = and_parts ((newest_of before == r) && not (active_of before == r) && not (stable_of before == r)) (is_scaled s r before) h in
    let newest = and_parts (newest_of before == r) (not (active_of before == r)) (and_parts _ (not (stable_of before == r)) scaled.0).0 in
    (equal_numbers (newest_of before) r newest.0, scaled.1)
superseded_newest s r _ before h = absurd (cc)

-- a revision that was aborted was the newest one, and its attempt ran
aborted_newest : (s : Strategy) (r : ℕ) (e : Entry) (before : List Entry) → aborts s r e before ≡ true → (is_halt e ≡ true) × (newest_of before ≡ r)
aborted_newest s r e before h =
    let halted = and_parts (is_halt e) (newest_of before == r) (and_parts (halts r e before) (has_abort_delay s) h).0 in
    (halted.0, equal_numbers (newest_of before) r halted.1)

-- a revision with a deadline had one, or was active, superseded or aborted, so it existed and was scaled before the entry
marked_before : (s : Strategy) (o : Opening) (r : ℕ) (e : Entry) (before : List Entry) → all_allowed s o (e ∷ before) ≡ true → SelectedScaled s before
    → (is_some (deadline s r before) ≡ true → exists_scaled s r before ≡ true)
    → is_some (deadline s r (e ∷ before)) ≡ true → exists_scaled s r before ≡ true
marked_before s o r e before allowed selected_scaled earlier h = go (leaves_active r e before) (supersedes s r e before) (aborts s r e before) (clears s r e before) refl refl refl h where
  go : (l u a c : Bool) → leaves_active r e before ≡ l → supersedes s r e before ≡ u → aborts s r e before ≡ a → is_some (deadline_by s r e before l u a c) ≡ true
      → exists_scaled s r before ≡ true
  go true u a c left superseded aborted h = subst (λ (k : ℕ). exists_scaled s k before ≡ true) (left_active r e before left) selected_scaled.active
  go false true a c left superseded aborted h =
      let newest = superseded_newest s r e before superseded in
      and_both (exists_in r before) (is_scaled s r before) (subst (λ (k : ℕ). exists_in k before ≡ true) newest.0 selected_scaled.newest) newest.1
  go false false true c left superseded aborted h =
      let newest = aborted_newest s r e before aborted in
      subst (λ (k : ℕ). exists_scaled s k before ≡ true) newest.1 (selected_scaled.running (halt-running s o e before allowed newest.0))
  go false false false true left superseded aborted h = absurd (cc)
  go false false false false left superseded aborted h = earlier h

-- a revision that is scaled down has no deadline
down_unmarked : (s : Strategy) (r : ℕ) (before : List Entry) → deadline s r (Outcome (ScaledDown r) ∷ before) ≡ None
down_unmarked s r before =
    cleared_unmarked s r (Outcome (ScaledDown r)) before (record { left = kept_active (active_of before == r) true; superseded = refl; aborted = refl })
    (ap (λ b. b || false) (or_right (not (active_of before == r) && (active_of before == r)) (r == r) (equal_itself r)))

-- so an entry after which a revision has a deadline didn't scale it down
marked-other : (s : Strategy) (r : ℕ) (e : Entry) (before : List Entry) → is_some (deadline s r (e ∷ before)) ≡ true → scales_down r e ≡ false
marked-other s r (Outcome (ScaledDown q)) before h = go (q == r) refl where
  go : (b : Bool) → (q == r) ≡ b → b ≡ false
  go false is = refl
  go true is =
      let none : deadline s r (Outcome (ScaledDown q) ∷ before) ≡ None = subst (λ (k : ℕ). deadline s r (Outcome (ScaledDown k) ∷ before) ≡ None) (sym (equal_numbers q r is)) (down_unmarked s r before) in
      let never : false ≡ true = sym (ap is_some none) ∙ h in absurd (cc)
marked-other s r e before h = refl

-- in each past whose entries were allowed, a revision with a deadline exists and is scaled
pub marked : (s : Strategy) (o : Opening) (r : ℕ) (past : List Entry) → all_allowed s o past ≡ true → is_some (deadline s r past) ≡ true → exists_scaled s r past ≡ true
marked s o r [] a h = absurd (cc)
marked s o r (e ∷ before) a h =
    let earlier = allowed_before s o e before a in
    stays s o r e before (allowed_now s o e before a) (marked-other s r e before h)
    (marked_before s o r e before a (selected_scaled s o before earlier) (marked s o r before earlier) h)
