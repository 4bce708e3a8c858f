-- Each outcome reduces the work, and the work has a bound.
use Rattle.std.proofs.Common.{◌≡◌, ◌<◌, ◌≤◌, ◌+◌, ℕ, Bool, true, false, not, cond, ◌==◌, List, ◌∷◌, length, find, Option, Some, None, refl, arith}
use Rattle.std.specs.Option.{option_or, option_map}
use Rattle.std.proofs.lemmas.Bool.Decides.{nat_tests}
use Rattle.std.proofs.lemmas.List.Sums.{count_by-le-length}
use Rattle.bg_history.specs.declared.entry.Entry.{Entry}
use Rattle.bg_history.specs.declared.entry.Entry.TheVariants.{Outcome}
use Rattle.bg_history.specs.declared.entry.Outcome as outcome
use Rattle.bg_history.specs.declared.entry.Outcome.TheVariants.{Ready, Resumed, Switched, Promoted, ScaledDown, Removed}
use Rattle.bg_strategy.specs.declared.strategy.Strategy.{Strategy}
use Rattle.bg_history.specs.AttemptBounds.{newest_of, is_running}
use Rattle.bg_history.specs.Attempts.{has_ready, has_resumed, has_switched}
use Rattle.bg_history.specs.Sizes.{existing, Ascends, is_scaled}
use Rattle.bg_history.specs.Promotion.{may_be_ready, may_resume, may_switch, may_promote, first_promotion}
use Rattle.bg_history.specs.Deadlines.{may_scale_down, may_remove}
use Rattle.bg_history.specs.Steps.{first_allowed}
use Rattle.bg_history_laws.specs.Work.{one_unless, steps_left, scaled_count, work}
use Rattle.bg_history_laws.proofs.Ended.Counts.{count-less, count-one_more, count-filter, length-without}
use Rattle.bg_history_laws.proofs.Finding.{found}
use Rattle.bg_history_laws.proofs.Lists.{member}

-- the outcome reduces the work
Falls : Strategy → List Entry → outcome.Outcome → Type 0
Falls s past x = work s (Outcome x ∷ past) < work s past

-- an allowed Ready reduces the work: one step fewer is left
ready-falls : (s : Strategy) (r : ℕ) (past : List Entry) → may_be_ready s r past ≡ true → Falls s past (Ready r)
unfolding Falls
ready-falls s r past may = grind (arith, nat_tests)

-- an allowed Switched reduces the work: one step fewer is left
switched-falls : (s : Strategy) (r : ℕ) (past : List Entry) → may_switch s r past ≡ true → Falls s past (Switched r)
unfolding Falls
switched-falls s r past may = grind (arith, nat_tests)

-- after Promoted no attempt runs
promoted-falls : (s : Strategy) (r : ℕ) (past : List Entry) → may_promote s r past ≡ true → Falls s past (Promoted r)
unfolding Falls
promoted-falls s r past may = grind (arith, nat_tests)

-- after Resumed, one step fewer is left, and at most one more revision is scaled
resumed-falls : (s : Strategy) (r : ℕ) (past : List Entry) → Ascends (existing past) → may_resume s r past ≡ true → Falls s past (Resumed r)
unfolding Falls
resumed-falls s r past ascends may =
    let more : scaled_count s (Outcome (Resumed r) ∷ past) ≤ scaled_count s past + 1
    = count-one_more (λ q. is_scaled s q past) (λ q. is_scaled s q (Outcome (Resumed r) ∷ past)) r (existing past) ascends (λ q other. rw other refl) in
    grind (arith, nat_tests, more)

-- one revision fewer is scaled
scaled_down-falls : (s : Strategy) (r : ℕ) (past : List Entry) → may_scale_down s r past ≡ true → member r (existing past) ≡ true → Falls s past (ScaledDown r)
unfolding Falls
scaled_down-falls s r past may within =
    let fewer : scaled_count s (Outcome (ScaledDown r) ∷ past) < scaled_count s past
    = count-less (λ q. is_scaled s q past) (λ q. is_scaled s q (Outcome (ScaledDown r) ∷ past)) r (existing past)
    (λ q h. grind (arith, nat_tests)) (grind (arith, nat_tests)) (grind (arith, nat_tests)) within in
    omega (arith, fewer)

-- one revision fewer exists
removed-falls : (s : Strategy) (r : ℕ) (past : List Entry) → member r (existing past) ≡ true → Falls s past (Removed r)
unfolding Falls
removed-falls s r past within =
    omega (arith, count-filter (λ q. is_scaled s q past) (λ q. not (q == r)) (existing past), length-without r (existing past) within)

-- a choice of two reduces the work if each does
cond-falls : (s : Strategy) (past : List Entry) (b : Bool) (v x : outcome.Outcome) (rest : Option outcome.Outcome)
    → (b ≡ true → Falls s past v) → (rest ≡ Some x → Falls s past x) → cond b (Some v) rest ≡ Some x → Falls s past x
cond-falls s past true v x rest here there h = let e : v ≡ x = cc in rw (← e) (here refl)
cond-falls s past false v x rest here there h = there h

-- the first of two options reduces the work if each does
or-falls : (s : Strategy) (past : List Entry) (a b : Option outcome.Outcome) (x : outcome.Outcome)
    → (a ≡ Some x → Falls s past x) → (b ≡ Some x → Falls s past x) → option_or a b ≡ Some x → Falls s past x
or-falls s past None b x left right h = right h
or-falls s past (Some a) b x left right h = left h

-- an outcome made from the found number reduces the work
found-falls : (s : Strategy) (past : List Entry) (make : ℕ → outcome.Outcome) (o : Option ℕ) (x : outcome.Outcome)
    → ((r : ℕ) → o ≡ Some r → Falls s past (make r)) → option_map make o ≡ Some x → Falls s past x
found-falls s past make None x here h = absurd (cc)
found-falls s past make (Some r) x here h = let e : make r ≡ x = cc in rw (← e) (here r refl)

-- a step of an attempt reduces the work
promotion-falls : (s : Strategy) (past : List Entry) (x : outcome.Outcome) → Ascends (existing past) → first_promotion s past ≡ Some x → Falls s past x
promotion-falls s past x ascends h =
    let r : ℕ = newest_of past in
    cond-falls s past (may_be_ready s r past) (Ready r) x _ (ready-falls s r past)
    (cond-falls s past (may_resume s r past) (Resumed r) x _ (resumed-falls s r past ascends)
    (cond-falls s past (may_switch s r past) (Switched r) x _ (switched-falls s r past)
    (cond-falls s past (may_promote s r past) (Promoted r) x _ (promoted-falls s r past) (λ e. absurd (cc))))) h

-- each first allowed outcome reduces the work
pub work-falls : (s : Strategy) (past : List Entry) (x : outcome.Outcome) → Ascends (existing past) → first_allowed s past ≡ Some x → work s (Outcome x ∷ past) < work s past
unfolding Falls
work-falls s past x ascends h =
    or-falls s past (first_promotion s past) _ x (promotion-falls s past x ascends)
    (or-falls s past (option_map ScaledDown (find (λ r. may_scale_down s r past) (existing past))) _ x
    (found-falls s past ScaledDown (find (λ r. may_scale_down s r past) (existing past)) x
    (λ r e. let f = found (λ q. may_scale_down s q past) r (existing past) e in scaled_down-falls s r past f.0 f.1))
    (found-falls s past Removed (find (λ r. may_remove s r past) (existing past)) x
    (λ r e. let f = found (λ q. may_remove s q past) r (existing past) e in removed-falls s r past f.1))) h

-- an attempt has at most four steps
steps-bounded : (past : List Entry) → steps_left past ≤ 4
steps-bounded past = bounded (is_running past) (has_ready past) (has_resumed past) (has_switched past) where
  unless-bounded : (taken : Bool) → one_unless taken ≤ 1
  unless-bounded true = omega arith
  unless-bounded false = omega arith

  bounded : (b x y z : Bool) → cond b (1 + one_unless x + one_unless y + one_unless z) 0 ≤ 4
  bounded true x y z = omega (arith, unless-bounded x, unless-bounded y, unless-bounded z)
  bounded false x y z = omega arith

-- 64 revisions make at most 136 outcomes
pub work-bounded : (s : Strategy) (past : List Entry) → length (existing past) ≤ 64 → work s past ≤ 136
work-bounded s past few = omega (arith, steps-bounded past, count_by-le-length (λ r. is_scaled s r past) (existing past))
