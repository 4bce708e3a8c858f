-- A running attempt can always be promoted.
use Rattle.std.proofs.Common.{◌≡◌, ◌≤◌, ℕ, zero, suc, Bool, true, false, not, cond, ◌==◌, ◌&&◌, ◌||◌, nat_le, List, ◌∷◌, Option, Some, None, is_none, refl, arith, ap, sym, subst, ◌∙◌, ◌⊎◌, inl, inr}
use Rattle.std.specs.Option.{option_or}
use Rattle.std.proofs.lemmas.Bool.Decides.{nat_tests}
use Rattle.bg_strategy.specs.declared.strategy.Strategy.{Strategy}
use Rattle.bg_history.specs.declared.entry.Entry.{Entry}
use Rattle.bg_history.specs.declared.entry.Entry.TheVariants.{Available, PromoteFull, Outcome}
use Rattle.bg_history.specs.declared.entry.Outcome as outcome
use Rattle.bg_history.specs.declared.entry.Outcome.TheVariants.{Ready, Resumed, Switched, Promoted, ScaledDown, Removed}
use Rattle.bg_history.specs.Kept.{Opening}
use Rattle.bg_history.specs.AttemptBounds.{newest_of, is_running}
use Rattle.bg_history.specs.Attempts.{has_ready, has_resumed, has_switched, has_promote_full}
use Rattle.bg_history.specs.Sizes.{desired, available}
use Rattle.bg_history.specs.Promotion.{may_be_ready, may_resume, may_switch, may_promote, first_promotion}
use Rattle.bg_history.specs.Deadlines.{exists_in}
use Rattle.bg_history.specs.Allowed.{is_allowed}
use Rattle.bg_history.specs.Steps.{is_settled, all_allowed, Step}
use Rattle.bg_history_laws.specs.Reachable.{Reachable}
use Rattle.bg_history_laws.specs.FullPromotion.{IsFullyPromoted, next_promotion_call, CanPromote}
use Rattle.bg_history_laws.proofs.Tests.{and_both, not_false, both_ways, equal_itself}
use Rattle.bg_history_laws.proofs.Promised.Outcomes.{step-keeps, step-allowed}
use Rattle.bg_history_laws.proofs.Promised.Attempts.{ready-step, resumed-step, switched-step, promoted-step}
use Rattle.bg_history_laws.proofs.Promised.Sizes.{down-not_newest, running-desired, resumed-desired}
use Rattle.bg_history_laws.proofs.Reached.Steady.{switched-active}
use Rattle.bg_history_laws.proofs.Reached.Allowing.{promoted-switched}

-- the attempt of r runs, it was fully promoted by an operator, n endpoints of r are available, and it was resumed if it had been
record IsOnItsWay (r n : ℕ) (resumed : Bool) (past : List Entry) : Type 0 where
  runs : is_running past ≡ true
  newest : newest_of past ≡ r
  full : has_promote_full past ≡ true
  available_is : available r past ≡ n
  resumed_still : resumed ≡ true → has_resumed past ≡ true

-- r is fully promoted, or its attempt is in progress
abbrev IsThrough : ℕ → ℕ → Bool → List Entry → Type 0
IsThrough r n resumed past = IsFullyPromoted r past ⊎ IsOnItsWay r n resumed past

-- each outcome that is allowed in progress continues the attempt, or ends it
way-kept : (s : Strategy) (o : Opening) (r n : ℕ) (resumed : Bool) (x : outcome.Outcome) (p : List Entry) → all_allowed s o p ≡ true → is_allowed s o (Outcome x) p ≡ true
    → IsOnItsWay r n resumed p → IsThrough r n resumed (Outcome x ∷ p)
way-kept s o r n resumed (Ready q) p a may h = inr (record { runs = h.runs; newest = h.newest; full = h.full; available_is = h.available_is; resumed_still = h.resumed_still })
way-kept s o r n resumed (Resumed q) p a may h =
    inr (record { runs = h.runs; newest = h.newest; full = h.full; available_is = h.available_is; resumed_still = λ k. ap (λ b. b || has_resumed p) h.runs })
way-kept s o r n resumed (Switched q) p a may h = inr (record { runs = h.runs; newest = h.newest; full = h.full; available_is = h.available_is; resumed_still = h.resumed_still })
way-kept s o r n resumed (Promoted q) p a may h =
    let same : q ≡ r = (promoted-step s q p may).newest ∙ h.newest in
    inl (record {
      newest = h.newest;
      active = switched-active s o p a (promoted-switched s q p may) ∙ h.newest;
      preview = same;
      stable = same;
      ended = refl;
    })
way-kept s o r n resumed (ScaledDown q) p a may h =
    let other : (q == r) ≡ false = ap (λ k. q == k) (sym h.newest) ∙ down-not_newest s q p h.runs may in
    inr (record { runs = h.runs; newest = h.newest; full = h.full; available_is = rw other h.available_is; resumed_still = h.resumed_still })
way-kept s o r n resumed (Removed q) p a may h = inr (record { runs = h.runs; newest = h.newest; full = h.full; available_is = h.available_is; resumed_still = h.resumed_still })

-- once r is fully promoted, only outcomes that scale down or remove a revision follow
place-kept : (s : Strategy) (o : Opening) (r : ℕ) (x : outcome.Outcome) (p : List Entry) → is_allowed s o (Outcome x) p ≡ true → IsFullyPromoted r p → IsFullyPromoted r (Outcome x ∷ p)
place-kept s o r (Ready q) p may h = both_ways (is_running p) (ready-step s q p may).runs h.ended
place-kept s o r (Resumed q) p may h = both_ways (is_running p) (resumed-step s q p may).runs h.ended
place-kept s o r (Switched q) p may h = both_ways (is_running p) (switched-step s q p may).runs h.ended
place-kept s o r (Promoted q) p may h = both_ways (is_running p) (promoted-step s q p may).runs h.ended
place-kept s o r (ScaledDown q) p may h = record { newest = h.newest; active = h.active; preview = h.preview; stable = h.stable; ended = h.ended }
place-kept s o r (Removed q) p may h = record { newest = h.newest; active = h.active; preview = h.preview; stable = h.stable; ended = h.ended }

through-kept : (s : Strategy) (o : Opening) (r n : ℕ) (resumed : Bool) (x : outcome.Outcome) (p : List Entry) → all_allowed s o p ≡ true → is_allowed s o (Outcome x) p ≡ true
    → IsThrough r n resumed p → IsThrough r n resumed (Outcome x ∷ p)
through-kept s o r n resumed x p a may (inl h) = inl (place-kept s o r x p may h)
through-kept s o r n resumed x p a may (inr h) = way-kept s o r n resumed x p a may h

-- so r is in progress after each step whose event makes it so
through-step : (s : Strategy) (o : Opening) (r n : ℕ) (resumed : Bool) (e : Entry) (past : List Entry) (xs : List outcome.Outcome) (new : List Entry) → all_allowed s o (e ∷ past) ≡ true
    → Step s e past xs new → IsOnItsWay r n resumed (e ∷ past) → IsThrough r n resumed new
through-step s o r n resumed e past xs new a step h =
    step-keeps s o (λ p. IsThrough r n resumed p) (λ x p. through-kept s o r n resumed x p) e past xs new a step (inr h)

-- if no allowed outcome is left undone, no step of an attempt is allowed
record NoStep (s : Strategy) (past : List Entry) : Type 0 where
  ready : may_be_ready s (newest_of past) past ≡ false
  resume : may_resume s (newest_of past) past ≡ false
  switch : may_switch s (newest_of past) past ≡ false
  promote : may_promote s (newest_of past) past ≡ false

no-step : (s : Strategy) (past : List Entry) → is_settled s past ≡ true → NoStep s past
no-step s past h = go (may_be_ready s r past) (may_resume s r past) (may_switch s r past) (may_promote s r past) refl refl refl refl (first-none (first_promotion s past) _ h) where
  r : ℕ
  r = newest_of past

  first-none : (a b : Option outcome.Outcome) → is_none (option_or a b) ≡ true → a ≡ None
  first-none None b h = refl
  first-none (Some x) b h = absurd (cc)

  go : (a b c d : Bool) → may_be_ready s r past ≡ a → may_resume s r past ≡ b → may_switch s r past ≡ c → may_promote s r past ≡ d
      → cond a (Some (Ready r)) (cond b (Some (Resumed r)) (cond c (Some (Switched r)) (cond d (Some (Promoted r)) None))) ≡ None → NoStep s past
  go true b c d ha hb hc hd h = absurd (cc)
  go false true c d ha hb hc hd h = absurd (cc)
  go false false true d ha hb hc hd h = absurd (cc)
  go false false false true ha hb hc hd h = absurd (cc)
  go false false false false ha hb hc hd h = record { ready = ha; resume = hb; switch = hc; promote = hd }

-- so in progress, r isn't ready because its preview wants more endpoints; or it was resumed and hasn't its full size
stage : (s : Strategy) (past : List Entry) (r n : ℕ) (resumed : Bool) → is_settled s past ≡ true → IsOnItsWay r n resumed past
    → ((has_resumed past ≡ false) × (nat_le s.preview_replicas n ≡ false)) ⊎ ((has_resumed past ≡ true) × ((n == s.replicas) ≡ false))
stage s past r n resumed settled h = by-resumed (has_resumed past) refl where
  none : NoStep s past
  none = no-step s past settled

  runs : is_running past ≡ true
  runs = h.runs

  full : has_promote_full past ≡ true
  full = h.full

  itself : (newest_of past == newest_of past) ≡ true
  itself = equal_itself (newest_of past)

  there : available (newest_of past) past ≡ n
  there = ap (λ k. available k past) h.newest ∙ h.available_is

  -- it hasn't switched, because the full promotion would have promoted it
  unswitched : has_switched past ≡ false
  unswitched = let k : may_promote s (newest_of past) past ≡ false = none.promote in grind (arith, nat_tests)

  by-resumed : (b : Bool) → has_resumed past ≡ b
      → ((has_resumed past ≡ false) × (nat_le s.preview_replicas n ≡ false)) ⊎ ((has_resumed past ≡ true) × ((n == s.replicas) ≡ false))
  by-resumed true is =
      let k : may_switch s (newest_of past) past ≡ false = none.switch in
      let small : (available (newest_of past) past == s.replicas) ≡ false = grind (arith, nat_tests) in
      inr (is, ap (λ m. m == s.replicas) (sym there) ∙ small)
  by-resumed false is =
      let k : may_resume s (newest_of past) past ≡ false = none.resume in
      let unready : has_ready past ≡ false = grind (arith, nat_tests) in
      let l : may_be_ready s (newest_of past) past ≡ false = none.ready in
      let small : nat_le s.preview_replicas (available (newest_of past) past) ≡ false = grind (arith, nat_tests) in
      inl (is, ap (λ m. nat_le s.preview_replicas m) (sym there) ∙ small)

-- if r is fully promoted, no call is needed
arrived : (calls : ℕ) (s : Strategy) (o : Opening) (r : ℕ) (past : List Entry) → IsFullyPromoted r past → CanPromote calls s o r past
arrived zero s o r past h = h
arrived (suc calls) s o r past h = inl h

-- otherwise the next call is made
takes : (calls : ℕ) (s : Strategy) (o : Opening) (r : ℕ) (past : List Entry) (e : Entry) → next_promotion_call s past ≡ e → is_allowed s o e past ≡ true
    → ((xs : List outcome.Outcome) (new : List Entry) → Step s e past xs new → CanPromote calls s o r new) → CanPromote (suc calls) s o r past
takes calls s o r past e is may go =
    inr (subst (λ (e : Entry). (is_allowed s o e past ≡ true) × ((xs : List outcome.Outcome) (new : List Entry) → Step s e past xs new → CanPromote calls s o r new)) (sym is) (may, go))

-- in progress, that call is the report that all desired endpoints are available
reports : (s : Strategy) (r : ℕ) (past : List Entry) → has_promote_full past ≡ true → newest_of past ≡ r → next_promotion_call s past ≡ Available r (desired s r past)
reports s r past full newest = ap (λ b. cond b (Available (newest_of past) (desired s (newest_of past) past)) PromoteFull) full ∙ ap (λ k. Available k (desired s k past)) newest

-- this report is allowed
may-report : (s : Strategy) (o : Opening) (r : ℕ) (past : List Entry) → exists_in r past ≡ true → is_allowed s o (Available r (desired s r past)) past ≡ true
may-report s o r past here = and_both (exists_in r past) (nat_le (desired s r past) (desired s r past)) here (grind (arith, nat_tests))

-- after the report, all desired endpoints are available
after-report : (r n size : ℕ) (resumed : Bool) (past : List Entry) → IsOnItsWay r n resumed past → IsOnItsWay r size resumed (Available r size ∷ past)
after-report r n size resumed past h = record { runs = h.runs; newest = h.newest; full = h.full; available_is = rw (equal_itself r) refl; resumed_still = h.resumed_still }

module _ (reach : (s : Strategy) (o : Opening) (past : List Entry) → all_allowed s o past ≡ true → Reachable s o past) where
  exists-newest : (s : Strategy) (o : Opening) (r : ℕ) (past : List Entry) → all_allowed s o past ≡ true → newest_of past ≡ r → exists_in r past ≡ true
  exists-newest s o r past a newest = subst (λ (k : ℕ). exists_in k past ≡ true) newest (reach s o past a).newest

  -- after it was resumed, one report fully promotes r
  last-call : (calls : ℕ) (s : Strategy) (o : Opening) (r n : ℕ) (past : List Entry) → all_allowed s o past ≡ true → IsOnItsWay r n true past → CanPromote (suc calls) s o r past
  last-call calls s o r n past a h =
      takes calls s o r past (Available r (desired s r past)) (reports s r past h.full h.newest) may (λ xs new step. go new step.settled (through-step s o r (desired s r past) true (Available r (desired s r past)) past xs new
      (and_both (is_allowed s o (Available r (desired s r past)) past) (all_allowed s o past) may a) step (after-report r n (desired s r past) true past h))) where
        may : is_allowed s o (Available r (desired s r past)) past ≡ true
        may = may-report s o r past (exists-newest s o r past a h.newest)

        all : (desired s r past == s.replicas) ≡ true
        all =
            let least : s.replicas ≤ desired s r past = subst (λ (k : ℕ). s.replicas ≤ desired s k past) h.newest (resumed-desired s o past a (h.resumed_still refl)) in
            let most : desired s r past ≤ s.replicas = (reach s o past a).desired_most r in
            grind (arith, nat_tests)

        go : (new : List Entry) → is_settled s new ≡ true → IsThrough r (desired s r past) true new → CanPromote calls s o r new
        go new settled (inl k) = arrived calls s o r new k
        go new settled (inr k) = elim (stage s new r (desired s r past) true settled k) [
          | inl w ↦ both_ways (has_resumed new) (k.resumed_still refl) w.0
          | inr w ↦ both_ways (desired s r past == s.replicas) all w.1
        ]

  -- before it was resumed, two reports do
  two-calls : (calls : ℕ) (s : Strategy) (o : Opening) (r n : ℕ) (past : List Entry) → all_allowed s o past ≡ true → IsOnItsWay r n false past → CanPromote (suc (suc calls)) s o r past
  two-calls calls s o r n past a h =
      takes (suc calls) s o r past (Available r (desired s r past)) (reports s r past h.full h.newest) may (λ xs new step. go new (step-allowed s o (Available r (desired s r past)) past xs new now step) step.settled
      (through-step s o r (desired s r past) false (Available r (desired s r past)) past xs new now step (after-report r n (desired s r past) false past h))) where
        may : is_allowed s o (Available r (desired s r past)) past ≡ true
        may = may-report s o r past (exists-newest s o r past a h.newest)

        now : all_allowed s o (Available r (desired s r past) ∷ past) ≡ true
        now = and_both (is_allowed s o (Available r (desired s r past)) past) (all_allowed s o past) may a

        enough : nat_le s.preview_replicas (desired s r past) ≡ true
        enough =
            let least : s.preview_replicas ≤ desired s r past = subst (λ (k : ℕ). s.preview_replicas ≤ desired s k past) h.newest (running-desired s o past a h.runs) in
            grind (arith, nat_tests)

        go : (new : List Entry) → all_allowed s o new ≡ true → is_settled s new ≡ true → IsThrough r (desired s r past) false new → CanPromote (suc calls) s o r new
        go new b settled (inl k) = arrived (suc calls) s o r new k
        go new b settled (inr k) = elim (stage s new r (desired s r past) false settled k) [
          | inl w ↦ both_ways (nat_le s.preview_replicas (desired s r past)) enough w.1
          | inr w ↦ last-call calls s o r (desired s r past) new b (record { runs = k.runs; newest = k.newest; full = k.full; available_is = k.available_is; resumed_still = λ h. w.0 })
        ]

  -- the full promotion comes first, unless the attempt has one
  pub can-promote : (s : Strategy) (o : Opening) (past : List Entry) → all_allowed s o past ≡ true → is_running past ≡ true
      → CanPromote 3 s o (newest_of past) past
  can-promote s o past a runs = go (has_promote_full past) refl where
    r : ℕ
    r = newest_of past

    go : (b : Bool) → has_promote_full past ≡ b → CanPromote 3 s o (newest_of past) past
    go true is = two-calls 1 s o (newest_of past) (available (newest_of past) past) past a (record { runs = runs; newest = refl; full = is; available_is = refl; resumed_still = λ h. absurd (cc) })
    go false is =
        takes 2 s o (newest_of past) past PromoteFull (ap (λ b. cond b (Available (newest_of past) (desired s (newest_of past) past)) PromoteFull) is) may (λ xs new step. after new (step-allowed s o PromoteFull past xs new now step)
        (through-step s o (newest_of past) (available (newest_of past) past) false PromoteFull past xs new now step
        (record { runs = runs; newest = refl; full = ap (λ b. b || has_promote_full past) runs; available_is = refl; resumed_still = λ h. absurd (cc) }))) where
          may : is_running past && not (has_promote_full past) ≡ true
          may = and_both (is_running past) (not (has_promote_full past)) runs (not_false (has_promote_full past) is)

          now : all_allowed s o (PromoteFull ∷ past) ≡ true
          now = and_both (is_allowed s o PromoteFull past) (all_allowed s o past) may a

          after : (new : List Entry) → all_allowed s o new ≡ true → IsThrough (newest_of past) (available (newest_of past) past) false new → CanPromote 2 s o (newest_of past) new
          after new b (inl k) = arrived 2 s o (newest_of past) new k
          after new b (inr k) = two-calls 0 s o (newest_of past) (available (newest_of past) past) new b k
