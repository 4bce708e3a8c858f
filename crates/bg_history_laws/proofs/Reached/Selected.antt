-- The selected revisions exist and are scaled, the newest one exists, and is scaled while its attempt runs.
use Rattle.std.proofs.Common.{◌≡◌, ◌≤◌, ℕ, Bool, true, false, not, cond, ◌==◌, ◌&&◌, ◌||◌, nat_le, max, List, [], ◌∷◌, Option, Some, None, refl, arith, ap, sym, subst, ◌∙◌}
use Rattle.std.proofs.lemmas.Bool.Decides.{nat_tests}
use Rattle.bg_strategy.specs.declared.strategy.Strategy.{Strategy}
use Rattle.bg_history.specs.declared.entry.Entry.{Entry}
use Rattle.bg_history.specs.declared.entry.Entry.TheVariants.{Deploy, Retry, Outcome}
use Rattle.bg_history.specs.declared.entry.Outcome.TheVariants.{Resumed, Switched, Promoted, ScaledDown, Removed}
use Rattle.bg_history.specs.Kept.{Opening}
use Rattle.bg_history.specs.AttemptBounds.{stable_of, newest_of, is_halt, is_running}
use Rattle.bg_history.specs.Selections.{active_of, preview_of}
use Rattle.bg_history.specs.Sizes.{begins, at_least, desired, is_scaled}
use Rattle.bg_history.specs.Marks.{Left, Superseded, Aborted, Cleared, Mark, MarkKind, mark}
use Rattle.bg_history.specs.Deadlines.{exists_in, deadline_of, deadline, time_of, marks_due}
use Rattle.bg_history.specs.Steps.{all_allowed}
use Rattle.bg_history_laws.specs.Reachable.{exists_scaled}
use Rattle.bg_history_laws.proofs.Tests.{and_parts, and_both, equal_itself, equal_numbers}
use Rattle.bg_history_laws.proofs.Reached.Existing.{exists-Deploy, exists-Removed}
use Rattle.bg_history_laws.proofs.Reached.Allowing.{allowed_now, allowed_before, ScalesDown, scaled_down, removed, removed-older, switched-newest, switched-running, promoted-newest, promoted-running}
use Rattle.bg_history_laws.proofs.Reached.Unmarked.{newest_unmarked}
use Rattle.bg_history_laws.proofs.Reached.Staying.{scaled-more, stays-Deploy, stays-Retry, stays-Resumed, stays-ScaledDown, stays-Removed}

-- the active and the stable revision exist and are scaled, the newest one exists, and is scaled while its attempt runs
pub record SelectedScaled (s : Strategy) (past : List Entry) : Type 0 where
  pub active : exists_scaled s (active_of past) past ≡ true
  pub stable : exists_scaled s (stable_of past) past ≡ true
  pub newest : exists_in (newest_of past) past ≡ true
  pub running : is_running past ≡ true → exists_scaled s (newest_of past) past ≡ true

-- this holds at the opening
selected_scaled-opening : (s : Strategy) → SelectedScaled s []
selected_scaled-opening s =
    let first : exists_scaled s 1 [] ≡ true = scaled-more 1 s.replicas s.some_replica refl in
    record { active = first; stable = first; newest = refl; running = λ h. first }

-- an attempt begins with a size above 0
raised : (b : Bool) (n size : ℕ) → 1 ≤ n → b ≡ true → nat_le 1 (at_least b n size) ≡ true
raised true n size some is = scaled-more 1 (max n size) (omega arith) refl
raised false n size some is = absurd (cc)

-- this holds of the deployed revision: it is the stable one, or its attempt begins
selected_scaled-deployed : (s : Strategy) (r : ℕ) (name ports : List ℕ) (before : List Entry) → exists_scaled s (stable_of before) before ≡ true
    → exists_scaled s r (Deploy r name ports ∷ before) ≡ true
selected_scaled-deployed s r name ports before stable = go (r == stable_of before) refl where
  go : (b : Bool) → (r == stable_of before) ≡ b → exists_scaled s r (Deploy r name ports ∷ before) ≡ true
  go true is =
      stays-Deploy s r r name ports before (subst (λ (k : ℕ). exists_scaled s k before ≡ true) (sym (equal_numbers r (stable_of before) is)) stable)
  go false is =
      and_both (exists_in r (Deploy r name ports ∷ before)) (is_scaled s r (Deploy r name ports ∷ before))
      (exists-Deploy r r name ports before ∙ ap (λ b. b || exists_in r before) (equal_itself r))
      (raised (begins r (Deploy r name ports) before) s.preview_replicas (desired s r before) s.some_preview (rw (equal_itself r, is) refl))

-- this holds of the newest revision after a retry, which begins its attempt
selected_scaled-retried : (s : Strategy) (before : List Entry) → exists_in (newest_of before) before ≡ true → exists_scaled s (newest_of before) (Retry ∷ before) ≡ true
selected_scaled-retried s before exists =
    and_both (exists_in (newest_of before) before) (is_scaled s (newest_of before) (Retry ∷ before)) exists
    (raised (begins (newest_of before) Retry before) s.preview_replicas (desired s (newest_of before) before) s.some_preview (equal_itself (newest_of before)))

-- this holds after a deploy: the active revision stays, or is the deployed one
selected_scaled-Deploy : (s : Strategy) (r : ℕ) (name ports : List ℕ) (before : List Entry) → SelectedScaled s before → SelectedScaled s (Deploy r name ports ∷ before)
selected_scaled-Deploy s r name ports before h =
    let new = selected_scaled-deployed s r name ports before h.stable in
    record {
      active = go (r == stable_of before) new (stays-Deploy s (active_of before) r name ports before h.active);
      stable = stays-Deploy s (stable_of before) r name ports before h.stable;
      newest = (and_parts (exists_in r (Deploy r name ports ∷ before)) (is_scaled s r (Deploy r name ports ∷ before)) new).0;
      running = λ h. new;
    } where
      go : (b : Bool) → exists_scaled s r (Deploy r name ports ∷ before) ≡ true → exists_scaled s (active_of before) (Deploy r name ports ∷ before) ≡ true
          → exists_scaled s (cond b r (active_of before)) (Deploy r name ports ∷ before) ≡ true
      go true new active = new
      go false new active = active

-- if none of three tests holds, neither the first nor the third does
or_parts : (a p t : Bool) → a || p || t ≡ false → (a ≡ false) × (t ≡ false)
or_parts false false false h = (refl, refl)
or_parts false false true h = absurd (cc)
or_parts false true t h = absurd (cc)
or_parts true p t h = absurd (cc)

-- a revision without a deadline isn't due
due_marked : (s : Strategy) (m : Option Mark) (past : List Entry) → deadline_of s m ≡ None → marks_due s m past ≡ false
due_marked s None past h = refl
due_marked s (Some m) past h = go m.kind m.moment m.position h where
  go : (k : MarkKind) (at position : ℕ) → time_of s k at ≡ None → marks_due s (Some (record { kind = k; moment = at; position = position })) past ≡ false
  go Left at position h = absurd (cc)
  go Superseded at position h = absurd (cc)
  go Aborted at position h = absurd (cc)
  go Cleared at position h = refl

-- so the newest revision isn't scaled down while its attempt runs
down_older : (s : Strategy) (o : Opening) (r : ℕ) (before : List Entry) → all_allowed s o before ≡ true → is_running before ≡ true → marks_due s (mark s r before) before ≡ true
    → (r == newest_of before) ≡ false
down_older s o r before a runs due = go (r == newest_of before) refl where
  go : (b : Bool) → (r == newest_of before) ≡ b → b ≡ false
  go false is = refl
  go true is =
      let none : deadline s r before ≡ None = subst (λ (k : ℕ). deadline s k before ≡ None) (sym (equal_numbers r (newest_of before) is)) (newest_unmarked s o before a runs) in
      sym due ∙ due_marked s (mark s r before) before none

-- this holds after a scale-down, which is of none of these revisions
selected_scaled-ScaledDown : (s : Strategy) (o : Opening) (r : ℕ) (before : List Entry) → all_allowed s o before ≡ true → ScalesDown s r before → SelectedScaled s before
    → SelectedScaled s (Outcome (ScaledDown r) ∷ before)
selected_scaled-ScaledDown s o r before a d h =
    let apart = or_parts (r == active_of before) (r == preview_of before) (r == stable_of before) d.unselected in
    record {
      active = stays-ScaledDown s (active_of before) r before apart.0 h.active;
      stable = stays-ScaledDown s (stable_of before) r before apart.1 h.stable;
      newest = h.newest;
      running = λ k. stays-ScaledDown s (newest_of before) r before (down_older s o r before a k d.due) (h.running k);
    }

-- another number isn't this one either way
other_way : (r n : ℕ) → (r == n) ≡ false → (n == r) ≡ false
other_way r n h = grind (arith, nat_tests)

-- this holds after a removal, which is of a revision that is neither scaled nor the newest
selected_scaled-Removed : (s : Strategy) (r : ℕ) (before : List Entry) → is_scaled s r before ≡ false → (r == newest_of before) ≡ false → SelectedScaled s before
    → SelectedScaled s (Outcome (Removed r) ∷ before)
selected_scaled-Removed s r before unscaled older h = record {
  active = stays-Removed s (active_of before) r before unscaled h.active;
  stable = stays-Removed s (stable_of before) r before unscaled h.stable;
  newest =
      exists-Removed (newest_of before) r before ∙ ap (λ b. not b && exists_in (newest_of before) before) (other_way r (newest_of before) older) ∙ h.newest;
  running = λ k. stays-Removed s (newest_of before) r before unscaled (h.running k);
}

-- this holds in each past whose entries were allowed
pub selected_scaled : (s : Strategy) (o : Opening) (past : List Entry) → all_allowed s o past ≡ true → SelectedScaled s past
selected_scaled s o [] a = selected_scaled-opening s
selected_scaled s o (Deploy r name ports ∷ before) a = selected_scaled-Deploy s r name ports before (selected_scaled s o before (allowed_before s o (Deploy r name ports) before a))
selected_scaled s o (Retry ∷ before) a =
    let h = selected_scaled s o before (allowed_before s o Retry before a) in
    record {
      active = stays-Retry s (active_of before) before h.active;
      stable = stays-Retry s (stable_of before) before h.stable;
      newest = h.newest;
      running = λ k. selected_scaled-retried s before h.newest;
    }
selected_scaled s o (Outcome (Resumed r) ∷ before) a =
    let h = selected_scaled s o before (allowed_before s o (Outcome (Resumed r)) before a) in
    record {
      active = stays-Resumed s (active_of before) r before h.active;
      stable = stays-Resumed s (stable_of before) r before h.stable;
      newest = h.newest;
      running = λ k. stays-Resumed s (newest_of before) r before (h.running k);
    }
selected_scaled s o (Outcome (Switched r) ∷ before) a =
    let h = selected_scaled s o before (allowed_before s o (Outcome (Switched r)) before a) in
    let allowed = allowed_now s o (Outcome (Switched r)) before a in
    let new = h.running (switched-running s r before allowed) in
    record {
      active = subst (λ (k : ℕ). exists_scaled s k before ≡ true) (sym (switched-newest s r before allowed)) new;
      stable = h.stable;
      newest = h.newest;
      running = h.running;
    }
selected_scaled s o (Outcome (Promoted r) ∷ before) a =
    let h = selected_scaled s o before (allowed_before s o (Outcome (Promoted r)) before a) in
    let allowed = allowed_now s o (Outcome (Promoted r)) before a in
    let new = h.running (promoted-running s r before allowed) in
    record {
      active = h.active;
      stable = subst (λ (k : ℕ). exists_scaled s k before ≡ true) (sym (promoted-newest s r before allowed)) new;
      newest = h.newest;
      running = λ k. absurd (cc);
    }
selected_scaled s o (Outcome (ScaledDown r) ∷ before) a =
    let earlier = allowed_before s o (Outcome (ScaledDown r)) before a in
    selected_scaled-ScaledDown s o r before earlier (scaled_down s r before (allowed_now s o (Outcome (ScaledDown r)) before a)) (selected_scaled s o before earlier)
selected_scaled s o (Outcome (Removed r) ∷ before) a =
    let allowed = allowed_now s o (Outcome (Removed r)) before a in
    selected_scaled-Removed s r before (removed s r before allowed) (removed-older s r before allowed) (selected_scaled s o before (allowed_before s o (Outcome (Removed r)) before a))
selected_scaled s o (e ∷ before) a =
    let h = selected_scaled s o before (allowed_before s o e before a) in
    record {
      active = active (is_halt e) h;
      stable = h.stable;
      newest = h.newest;
      running = λ k. h.running (and_parts (not (is_halt e)) (is_running before) k).1;
    } where
      active : (halt : Bool) → SelectedScaled s before → exists_scaled s (cond halt (stable_of before) (active_of before)) before ≡ true
      active true h = h.stable
      active false h = h.active

-- the same holds of the preview revision, which is the newest or the stable one
pub selected_scaled-preview : (s : Strategy) (past : List Entry) → SelectedScaled s past → exists_scaled s (preview_of past) past ≡ true
selected_scaled-preview s past h = go (is_running past) refl where
  go : (b : Bool) → is_running past ≡ b → exists_scaled s (cond b (newest_of past) (stable_of past)) past ≡ true
  go true is = h.running is
  go false is = h.stable
