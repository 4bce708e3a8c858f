-- While no step of an attempt is allowed, the rollout has a phase.
use Rattle.std.proofs.Common.{◌≡◌, ℕ, Bool, true, false, not, cond, ◌&&◌, ◌||◌, List, [], ◌∷◌, Option, Some, None, refl, sym, ap, ◌∙◌, arith, is_some}
use Rattle.std.proofs.lemmas.Grind.{common_steps}
use Rattle.std.proofs.lemmas.Bool.Decides.{nat_tests}
use Rattle.bg_history.specs.declared.entry.Entry.{Entry}
use Rattle.bg_history.specs.declared.entry.Entry.TheVariants.{Outcome}
use Rattle.bg_history.specs.declared.entry.Outcome.TheVariants.{Ready, Resumed, Switched, Promoted}
use Rattle.bg_strategy.specs.declared.strategy.Strategy.{Strategy}
use Rattle.bg_history.specs.AttemptBounds.{moment, newest_of, is_running, is_halted}
use Rattle.bg_history.specs.Attempts.{is_ready, has_ready, has_resumed, has_switched, has_promote, has_promote_full, has_post_success, passes, first_at, pass_moment, is_passed}
use Rattle.bg_history.specs.Phases.{needs_pause, is_sizing, awaits_pre, is_paused, awaits_post}
use Rattle.bg_history.specs.Promotion.{attempts, waited, may_be_ready, may_resume, may_switch, may_promote, first_promotion}
use Rattle.bg_promotion.specs.declared.phase.Phase.TheVariants.{Sizing}
use Rattle.bg_promotion.specs.Phases.{phase_of}

-- if no analysis is set before the switch, a Ready passes the attempt
ready-passes : (s : Strategy) (e : Entry) (before : List Entry) → s.pre ≡ false → is_ready e ≡ true → is_running before ≡ true → passes s e before ≡ true
ready-passes s (Outcome (Ready r)) before no_analysis ready runs = grind (arith, common_steps)
ready-passes s e before no_analysis ready runs = grind arith

first_at-kept : (now : Bool) (at : ℕ) (kept : Option ℕ) → (now || is_some kept) ≡ true → is_some (first_at now at kept) ≡ true
first_at-kept true at None h = refl
first_at-kept true at (Some m) h = refl
first_at-kept false at kept h = h

-- so a ready revision has passed
ready_is_passed : (s : Strategy) (past : List Entry) → s.pre ≡ false → has_ready past ≡ true → is_passed s past ≡ true
ready_is_passed s [] no_analysis h = grind arith
ready_is_passed s (e ∷ before) no_analysis h =
    grind (arith, common_steps, ready-passes s e before no_analysis, first_at-kept (passes s e before) (moment before) (pass_moment s before), ready_is_passed s before no_analysis)

-- if no step is allowed, neither the first of two is nor the rest
none-both : {X : Type 0} (b : Bool) (v : X) (rest : Option X) → cond b (Some v) rest ≡ None → (b ≡ false) × (rest ≡ None)
none-both true v rest h = absurd (cc)
none-both false v rest h = (refl, h)

full_or : (full later after : Bool) → (full || true || later || after) ≡ false → false ≡ true
full_or true later after h = absurd (cc)
full_or false later after h = absurd (cc)

-- if no step is allowed and no other phase applies, the pause is over and the active service hasn't switched
sizes : (resumed switched passed pre post needs full later after success : Bool) → (pre ≡ false → passed ≡ true)
    → (not resumed && pre && not passed) ≡ false → (passed && not resumed && needs) ≡ false → (switched && post) ≡ false
    → (not resumed && (full || (passed && not needs) || later || after)) ≡ false → (switched && (not post || success || full)) ≡ false
    → (resumed && not switched) ≡ true
sizes resumed true passed pre true needs full later after success whenever pre_is paused post_is resume promote = absurd (cc)
sizes resumed true passed pre false needs full later after success whenever pre_is paused post_is resume promote = absurd (cc)
sizes true false passed pre post needs full later after success whenever pre_is paused post_is resume promote = refl
sizes false false passed pre post needs full later after success whenever pre_is paused post_is resume promote = go pre passed needs whenever pre_is paused resume where
  go : (pre passed needs : Bool) → (pre ≡ false → passed ≡ true) → (true && pre && not passed) ≡ false → (passed && true && needs) ≡ false
      → (true && (full || (passed && not needs) || later || after)) ≡ false → false ≡ true
  go true true true whenever pre_is paused resume = absurd (cc)
  go true true false whenever pre_is paused resume = full_or full later after resume
  go true false needs whenever pre_is paused resume = absurd (cc)
  go false false needs whenever pre_is paused resume = whenever refl
  go false true true whenever pre_is paused resume = absurd (cc)
  go false true false whenever pre_is paused resume = full_or full later after resume

-- the phase is sizing if no other phase applies
pub sizing_is_left : (s : Strategy) (past : List Entry) → is_halted past ≡ false → is_running past ≡ true → has_ready past ≡ true → awaits_pre s past ≡ false
    → is_paused s past ≡ false → awaits_post s past ≡ false → first_promotion s past ≡ None → phase_of s past ≡ Some Sizing
sizing_is_left s past halted runs ready pre paused post none =
    let r : ℕ = newest_of past in
    let after_ready = none-both (may_be_ready s r past) (Ready r) _ none in
    let resume = none-both (may_resume s r past) (Resumed r) _ after_ready.1 in
    let switch = none-both (may_switch s r past) (Switched r) _ resume.1 in
    let promote = none-both (may_promote s r past) (Promoted r) _ switch.1 in
    let tried : attempts r past ≡ true = rw runs (grind (arith, nat_tests)) in
    let full : Bool = has_promote_full past in
    let ended : Bool = full || (is_passed s past && not (needs_pause s)) || (is_passed s past && has_promote past)
    || waited s.auto_promotion s.auto_seconds (moment past) (pass_moment s past) in
    let sized : is_sizing past ≡ true =
    sizes (has_resumed past) (has_switched past) (is_passed s past) s.pre s.post (needs_pause s) full (is_passed s past && has_promote past)
    (waited s.auto_promotion s.auto_seconds (moment past) (pass_moment s past)) (has_post_success past)
    (λ no_analysis. ready_is_passed s past no_analysis ready)
    (sym (ap (λ b. b && not (has_resumed past) && s.pre && not (is_passed s past)) ready) ∙ pre) paused post
    (sym (ap (λ b. b && not (has_resumed past) && ended) ready) ∙ sym (ap (λ b. b && has_ready past && not (has_resumed past) && ended) tried) ∙ resume.0)
    (sym (ap (λ b. b && has_switched past && (not s.post || has_post_success past || full)) tried) ∙ promote.0) in
    rw (pre, paused, halted, runs, ready, sized) refl
