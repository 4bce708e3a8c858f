-- Lemmas about the first allowed outcome.
use Rattle.std.proofs.Common.{◌≡◌, ℕ, Bool, true, false, not, cond, ◌==◌, ◌&&◌, ◌||◌, nat_lt, List, [], ◌∷◌, filter, find, length, Option, Some, None, refl, ap, sym, subst, ◌∙◌, arith}
use Rattle.std.specs.Option.{option_or, option_map}
use Rattle.std.specs.List.{list_any}
use Rattle.std.proofs.lemmas.Bool.Decides.{nat_tests}
use Rattle.std.proofs.lemmas.Option.{same_Some}
use Rattle.bg_strategy.specs.declared.strategy.Strategy.{Strategy}
use Rattle.bg_history.specs.declared.entry.Entry.{Entry}
use Rattle.bg_history.specs.declared.entry.Entry.TheVariants.{Deploy, Retry, Outcome}
use Rattle.bg_history.specs.declared.entry.Outcome as outcome
use Rattle.bg_history.specs.declared.entry.Outcome.TheVariants.{Ready, Resumed, Switched, Promoted, ScaledDown, Removed}
use Rattle.bg_history.specs.Kept.{Opening}
use Rattle.bg_history.specs.AttemptBounds.{newest_of, is_halt, is_running}
use Rattle.bg_history.specs.Attempts.{has_ready, has_resumed, has_switched}
use Rattle.bg_history.specs.Sizes.{existing, is_scaled}
use Rattle.bg_history.specs.Promotion.{attempts, may_be_ready, may_resume, may_switch, may_promote, first_promotion}
use Rattle.bg_history.specs.Deadlines.{exists_in, is_due, may_scale_down, is_old, is_first, old_revisions, may_remove}
use Rattle.bg_history.specs.Allowed.{is_allowed}
use Rattle.bg_history.specs.Steps.{first_allowed, all_allowed}
use Rattle.bg_promotion.specs.Answers.{is_step}
use Rattle.bg_promotion.specs.Represents.{is_neutral}
use Rattle.bg_rollout.proofs.OpenRequests.Requests.{and_parts, and_both, eq_from}

or_true : (b : Bool) → (b || true) ≡ true
or_true true = refl
or_true false = refl

-- an element that is found passes the test and is in the list
pub found_holds : (p : ℕ → Bool) (r : ℕ) (xs : List ℕ) → find p xs ≡ Some r → (p r ≡ true) × (list_any (λ q. q == r) xs ≡ true)
found_holds p r [] h = absurd (cc)
found_holds p r (x ∷ xs) h = go (p x) refl h (found_holds p r xs) where
  go : (b : Bool) → p x ≡ b → cond b (Some x) (find p xs) ≡ Some r
      → (find p xs ≡ Some r → (p r ≡ true) × (list_any (λ q. q == r) xs ≡ true)) → (p r ≡ true) × (list_any (λ q. q == r) (x ∷ xs) ≡ true)
  go true is f rest = let e : x ≡ r = same_Some x r f in (rw (← e) is, rw (← e) (grind (arith, nat_tests)))
  go false is f rest = let there = rest f in (there.0, rw there.1 (or_true (x == r)))

-- the first of two options, else the rest
either : {X : Type 0} (a b : Option X) (x : X) (P : Type 0) → (a ≡ Some x → P) → (b ≡ Some x → P) → option_or a b ≡ Some x → P
either None b x P left right h = right h
either (Some a) b x P left right h = left h

chosen : {X : Type 0} (b : Bool) (v x : X) (rest : Option X) (P : Type 0) → (b ≡ true → v ≡ x → P) → (rest ≡ Some x → P) → cond b (Some v) rest ≡ Some x → P
chosen true v x rest P here there h = here refl (same_Some v x h)
chosen false v x rest P here there h = there h

mapped : (make : ℕ → outcome.Outcome) (o : Option ℕ) (x : outcome.Outcome) (P : Type 0) → ((r : ℕ) → o ≡ Some r → make r ≡ x → P) → option_map make o ≡ Some x → P
mapped make None x P here h = absurd (cc)
mapped make (Some r) x P here h = here r refl (same_Some (make r) x h)

allowed_as : (s : Strategy) (o : Opening) (past : List Entry) (v x : outcome.Outcome) → v ≡ x → is_allowed s o (Outcome v) past ≡ true → is_allowed s o (Outcome x) past ≡ true
allowed_as s o past v x is h = rw (← is) h

pub promotion_allowed : (s : Strategy) (o : Opening) (past : List Entry) (x : outcome.Outcome) → first_promotion s past ≡ Some x → is_allowed s o (Outcome x) past ≡ true
promotion_allowed s o past x h =
    let r : ℕ = newest_of past in
    let P : Type 0 = is_allowed s o (Outcome x) past ≡ true in
    chosen (may_be_ready s r past) (Ready r) x _ P (λ may is. allowed_as s o past (Ready r) x is may)
    (chosen (may_resume s r past) (Resumed r) x _ P (λ may is. allowed_as s o past (Resumed r) x is may)
    (chosen (may_switch s r past) (Switched r) x _ P (λ may is. allowed_as s o past (Switched r) x is may)
    (chosen (may_promote s r past) (Promoted r) x _ P (λ may is. allowed_as s o past (Promoted r) x is may) (λ e. absurd (cc))))) h

-- the first allowed outcome is allowed
pub first_is_allowed : (s : Strategy) (o : Opening) (past : List Entry) (x : outcome.Outcome) → first_allowed s past ≡ Some x → is_allowed s o (Outcome x) past ≡ true
first_is_allowed s o past x h =
    let P : Type 0 = is_allowed s o (Outcome x) past ≡ true in
    either (first_promotion s past) _ x P (promotion_allowed s o past x)
    (either (option_map ScaledDown (find (λ r. may_scale_down s r past) (existing past))) _ x P
    (mapped ScaledDown _ x P (λ r found is. allowed_as s o past (ScaledDown r) x is (found_holds (λ q. may_scale_down s q past) r (existing past) found).0))
    (mapped Removed (find (λ r. may_remove s r past) (existing past)) x P
    (λ r found is. allowed_as s o past (Removed r) x is (found_holds (λ q. may_remove s q past) r (existing past) found).0))) h

-- if the first allowed outcome is a step, it is the next step
pub step_is_first : (s : Strategy) (past : List Entry) (x : outcome.Outcome) → first_allowed s past ≡ Some x → is_step x ≡ true → first_promotion s past ≡ Some x
step_is_first s past x h step =
    let P : Type 0 = first_promotion s past ≡ Some x in
    either (first_promotion s past) _ x P (λ e. e)
    (either (option_map ScaledDown (find (λ r. may_scale_down s r past) (existing past))) _ x P
    (mapped ScaledDown _ x P (λ r found is. absurd (no_step (ScaledDown r) x is step refl)))
    (mapped Removed (find (λ r. may_remove s r past) (existing past)) x P (λ r found is. absurd (no_step (Removed r) x is step refl)))) h
  where
    no_step : (v x : outcome.Outcome) → v ≡ x → is_step x ≡ true → is_step v ≡ false → ⊥
    no_step v x is step none = let e : true ≡ false = sym step ∙ ap is_step (sym is) ∙ none in absurd (cc)

-- an outcome that is no step has no part in promotion
pub no_step_is_neutral : (x : outcome.Outcome) → is_step x ≡ false → is_neutral (Outcome x) ≡ true
no_step_is_neutral (Ready r) h = absurd (cc)
no_step_is_neutral (Resumed r) h = absurd (cc)
no_step_is_neutral (Switched r) h = absurd (cc)
no_step_is_neutral (Promoted r) h = absurd (cc)
no_step_is_neutral (ScaledDown r) h = refl
no_step_is_neutral (Removed r) h = refl

-- the revision that grows is the newest
pub resumed_is_newest : (s : Strategy) (o : Opening) (past : List Entry) (r : ℕ) → is_allowed s o (Outcome (Resumed r)) past ≡ true → r ≡ newest_of past
resumed_is_newest s o past r may = grind (arith, nat_tests)

-- a revision that is scaled down exists
pub scaled_down_exists : (s : Strategy) (o : Opening) (past : List Entry) (r : ℕ) → is_allowed s o (Outcome (ScaledDown r)) past ≡ true → exists_in r past ≡ true
scaled_down_exists s o past r may =
    let due = (and_parts (is_due s r past) _ may).0 in
    (and_parts (exists_in r past) _ (and_parts (exists_in r past && _) _ due).0).0

-- the first element that passes a test passes it and is in the list
first_passes : (p : ℕ → Bool) (r : ℕ) (xs : List ℕ) → is_first r (filter p xs) ≡ true → (p r ≡ true) × (list_any (λ q. q == r) xs ≡ true)
first_passes p r [] h = absurd (cc)
first_passes p r (x ∷ xs) h = go (p x) refl h (first_passes p r xs) where
  go : (b : Bool) → p x ≡ b → is_first r (cond b (x ∷ filter p xs) (filter p xs)) ≡ true
      → (is_first r (filter p xs) ≡ true → (p r ≡ true) × (list_any (λ q. q == r) xs ≡ true)) → (p r ≡ true) × (list_any (λ q. q == r) (x ∷ xs) ≡ true)
  go true is f rest = let e : x ≡ r = eq_from x r f in (rw (← e) is, rw f refl)
  go false is f rest = let there = rest f in (there.0, rw there.1 (or_true (x == r)))

-- a revision that is removed exists and isn't scaled
pub removed_was : (s : Strategy) (o : Opening) (past : List Entry) (r : ℕ) → is_allowed s o (Outcome (Removed r)) past ≡ true → (exists_in r past ≡ true) × (is_scaled s r past ≡ false)
removed_was s o past r may =
    let first = (and_parts (nat_lt s.history_limit (length (old_revisions s past))) (is_first r (old_revisions s past)) may).1 in
    let old = first_passes (is_old s past) r (existing past) first in
    (old.1, isnt (is_scaled s r past) (and_parts (not (is_scaled s r past)) _ (and_parts (not (is_scaled s r past) && _) _ old.0).0).0)
  where
    isnt : (b : Bool) → not b ≡ true → b ≡ false
    isnt true h = absurd (cc)
    isnt false h = refl

-- the revision of a step is the newest
newest_in : (r : ℕ) (past : List Entry) → attempts r past ≡ true → r ≡ newest_of past
newest_in r past h = eq_from r (newest_of past) (and_parts (is_running past) (r == newest_of past) h).1

resumes_ready : (s : Strategy) (r : ℕ) (past : List Entry) → may_resume s r past ≡ true → has_ready past ≡ true
resumes_ready s r past may = (and_parts (attempts r past) (has_ready past) (and_parts (attempts r past && has_ready past) (not (has_resumed past)) (and_parts (attempts r past && has_ready past && not (has_resumed past)) _ may).0).0).1

switches_resumed : (s : Strategy) (r : ℕ) (past : List Entry) → may_switch s r past ≡ true → has_resumed past ≡ true
switches_resumed s r past may = (and_parts (attempts r past) (has_resumed past) (and_parts (attempts r past && has_resumed past) (not (has_switched past)) (and_parts (attempts r past && has_resumed past && not (has_switched past)) _ may).0).0).1

-- an attempt that has resumed was ready before
was_ready : (s : Strategy) (o : Opening) (past : List Entry) → all_allowed s o past ≡ true → has_resumed past ≡ true → has_ready past ≡ true
was_ready s o [] a h = absurd (cc)
was_ready s o (Deploy r name ports ∷ before) a h = absurd (cc)
was_ready s o (Retry ∷ before) a h = absurd (cc)
was_ready s o (Outcome (Promoted r) ∷ before) a h = absurd (cc)
was_ready s o (Outcome (Resumed r) ∷ before) a h = resumes_ready s r before (and_parts (may_resume s r before) (all_allowed s o before) a).0
was_ready s o (Outcome (Ready r) ∷ before) a h =
    either_true (is_running before) (has_ready before) (was_ready s o before (and_parts (may_be_ready s r before) (all_allowed s o before) a).1 h) where
      either_true : (b c : Bool) → c ≡ true → (b || c) ≡ true
      either_true true c h = refl
      either_true false c h = h
was_ready s o (e ∷ before) a h =
    let parts = and_parts (not (is_halt e)) (has_resumed before) h in
    and_both (not (is_halt e)) (has_ready before) parts.0 (was_ready s o before (and_parts (is_allowed s o e before) (all_allowed s o before) a).1 parts.1)

-- an attempt that has switched had resumed before
had_resumed : (s : Strategy) (o : Opening) (past : List Entry) → all_allowed s o past ≡ true → has_switched past ≡ true → has_resumed past ≡ true
had_resumed s o [] a h = absurd (cc)
had_resumed s o (Deploy r name ports ∷ before) a h = absurd (cc)
had_resumed s o (Retry ∷ before) a h = absurd (cc)
had_resumed s o (Outcome (Promoted r) ∷ before) a h = absurd (cc)
had_resumed s o (Outcome (Switched r) ∷ before) a h = switches_resumed s r before (and_parts (may_switch s r before) (all_allowed s o before) a).0
had_resumed s o (Outcome (Resumed r) ∷ before) a h =
    either_true (is_running before) (has_resumed before) (had_resumed s o before (and_parts (may_resume s r before) (all_allowed s o before) a).1 h) where
      either_true : (b c : Bool) → c ≡ true → (b || c) ≡ true
      either_true true c h = refl
      either_true false c h = h
had_resumed s o (e ∷ before) a h =
    let parts = and_parts (not (is_halt e)) (has_switched before) h in
    and_both (not (is_halt e)) (has_resumed before) parts.0 (had_resumed s o before (and_parts (is_allowed s o e before) (all_allowed s o before) a).1 parts.1)

-- a step that was made isn't next
not_next : (made : Bool) (a b : Bool) → made ≡ true → (a && not made && b) ≡ false
not_next true true b h = refl
not_next true false b h = refl
not_next false a b h = absurd (cc)

-- a step of an attempt that is allowed is the next one
pub allowed_is_next : (s : Strategy) (o : Opening) (past : List Entry) (x : outcome.Outcome) → all_allowed s o past ≡ true → is_allowed s o (Outcome x) past ≡ true → is_step x ≡ true
    → first_promotion s past ≡ Some x
allowed_is_next s o past (Ready r) a may step =
    let of = newest_in r past (and_parts (attempts r past) _ (and_parts (attempts r past && not (has_ready past)) _ may).0).0 in
    let now : may_be_ready s (newest_of past) past ≡ true = subst (λ (q : ℕ). may_be_ready s q past ≡ true) of may in
    rw now (ap (λ (q : ℕ). Some (Ready q)) (sym of))
allowed_is_next s o past (Resumed r) a may step =
    let n = newest_of past in
    let of = newest_in r past (and_parts (attempts r past) _ (and_parts (attempts r past && has_ready past) _ (and_parts (attempts r past && has_ready past && not (has_resumed past)) _ may).0).0).0 in
    let now : may_resume s n past ≡ true = subst (λ (q : ℕ). may_resume s q past ≡ true) of may in
    let unready : may_be_ready s n past ≡ false = not_next (has_ready past) (attempts n past) _ (resumes_ready s r past may) in
    rw (unready, now) (ap (λ (q : ℕ). Some (Resumed q)) (sym of))
allowed_is_next s o past (Switched r) a may step =
    let n = newest_of past in
    let of = newest_in r past (and_parts (attempts r past) _ (and_parts (attempts r past && has_resumed past) _ (and_parts (attempts r past && has_resumed past && not (has_switched past)) _ may).0).0).0 in
    let now : may_switch s n past ≡ true = subst (λ (q : ℕ). may_switch s q past ≡ true) of may in
    let resumed = switches_resumed s r past may in
    let unready : may_be_ready s n past ≡ false = not_next (has_ready past) (attempts n past) _ (was_ready s o past a resumed) in
    let unresumed : may_resume s n past ≡ false = not_next (has_resumed past) (attempts n past && has_ready past) _ resumed in
    rw (unready, unresumed, now) (ap (λ (q : ℕ). Some (Switched q)) (sym of))
allowed_is_next s o past (Promoted r) a may step =
    let n = newest_of past in
    let both = and_parts (attempts r past && has_switched past) _ may in
    let of = newest_in r past (and_parts (attempts r past) _ both.0).0 in
    let now : may_promote s n past ≡ true = subst (λ (q : ℕ). may_promote s q past ≡ true) of may in
    let switched = (and_parts (attempts r past) _ both.0).1 in
    let resumed = had_resumed s o past a switched in
    let unready : may_be_ready s n past ≡ false = not_next (has_ready past) (attempts n past) _ (was_ready s o past a resumed) in
    let unresumed : may_resume s n past ≡ false = not_next (has_resumed past) (attempts n past && has_ready past) _ resumed in
    let unswitched : may_switch s n past ≡ false = not_next (has_switched past) (attempts n past && has_resumed past) _ switched in
    rw (unready, unresumed, unswitched, now) (ap (λ (q : ℕ). Some (Promoted q)) (sym of))
allowed_is_next s o past (ScaledDown r) a may step = absurd (cc)
allowed_is_next s o past (Removed r) a may step = absurd (cc)
