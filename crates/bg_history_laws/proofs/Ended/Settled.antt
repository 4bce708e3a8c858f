-- When no outcome is allowed.
use Rattle.std.proofs.Common.{◌≡◌, ◌≤◌, ℕ, Bool, true, false, cond, nat_lt, List, [], ◌∷◌, length, find, Option, Some, None, is_none, refl, arith, sym, ◌∙◌}
use Rattle.std.specs.Option.{option_or, option_map}
use Rattle.std.proofs.lemmas.Bool.Decides.{nat_tests}
use Rattle.bg_history.specs.declared.entry.Entry.{Entry}
use Rattle.bg_history.specs.declared.entry.Outcome as outcome
use Rattle.bg_history.specs.declared.entry.Outcome.TheVariants.{ScaledDown, Removed}
use Rattle.bg_strategy.specs.declared.strategy.Strategy.{Strategy}
use Rattle.bg_history.specs.Sizes.{existing}
use Rattle.bg_history.specs.Promotion.{first_promotion}
use Rattle.bg_history.specs.Deadlines.{exists_in, old_revisions, may_scale_down, may_remove}
use Rattle.bg_history.specs.Steps.{is_settled}
use Rattle.bg_history_laws.specs.Removals.{first_of}
use Rattle.bg_history_laws.proofs.Finding.{none-passes, none-found}
use Rattle.bg_history_laws.proofs.Ended.Removing.{oldest-is_removed}

-- no step is allowed, no revision may be scaled down, and the old ones are within the limit
pub record AllDone (s : Strategy) (past : List Entry) : Type 0 where
  pub no_step : first_promotion s past ≡ None
  pub no_lowering : (q : ℕ) → may_scale_down s q past ≡ false
  pub few_old : length (old_revisions s past) ≤ s.history_limit

-- the first of three options is none only if each is
parts-none : (a : Option outcome.Outcome) (b c : Option ℕ) → is_none (option_or a (option_or (option_map ScaledDown b) (option_map Removed c))) ≡ true
    → (a ≡ None) × (b ≡ None) × (c ≡ None)
parts-none None None None h = (refl, refl, refl)
parts-none None None (Some c) h = absurd (cc)
parts-none None (Some b) c h = absurd (cc)
parts-none (Some a) b c h = absurd (cc)

-- the first of the old revisions above the limit is none only if they are within the limit
few-old : (limit : ℕ) (olds : List ℕ) → cond (nat_lt limit (length olds)) (first_of olds) None ≡ None → length olds ≤ limit
few-old limit [] h = omega arith
few-old limit (q ∷ rest) h = by-test (nat_lt limit (length (q ∷ rest))) refl h where
  by-test : (b : Bool) → nat_lt limit (length (q ∷ rest)) ≡ b → cond b (Some q) None ≡ None → length (q ∷ rest) ≤ limit
  by-test true is h = absurd (cc)
  by-test false is h = grind (arith, nat_tests)

-- if no revision that may be scaled down is found, there is none
none-due : (s : Strategy) (q : ℕ) (past : List Entry) → find (λ r. may_scale_down s r past) (existing past) ≡ None → may_scale_down s q past ≡ false
none-due s q past h = by-test (exists_in q past) refl where
  by-test : (b : Bool) → exists_in q past ≡ b → may_scale_down s q past ≡ false
  by-test true is = none-passes (λ r. may_scale_down s r past) q (existing past) h is
  by-test false is = rw is refl

-- if no outcome is allowed, this holds
pub done-from_settled : (s : Strategy) (past : List Entry) → is_settled s past ≡ true → AllDone s past
done-from_settled s past h =
    let parts = parts-none (first_promotion s past) (find (λ q. may_scale_down s q past) (existing past)) (find (λ q. may_remove s q past) (existing past)) h in
    record {
      no_step = parts.0;
      no_lowering = λ q. none-due s q past parts.1;
      few_old = few-old s.history_limit (old_revisions s past) (sym (oldest-is_removed s past) ∙ parts.2);
    }

-- within the limit, no revision is removed
pub none-removed : (s : Strategy) (past : List Entry) → length (old_revisions s past) ≤ s.history_limit → find (λ q. may_remove s q past) (existing past) ≡ None
none-removed s past few =
    let under : nat_lt s.history_limit (length (old_revisions s past)) ≡ false = grind (arith, nat_tests) in
    oldest-is_removed s past ∙ rw under refl

-- if this holds, no outcome is allowed
pub settled-from_done : (s : Strategy) (past : List Entry) → AllDone s past → is_settled s past ≡ true
settled-from_done s past done =
    let lowering : find (λ q. may_scale_down s q past) (existing past) ≡ None = none-found (λ q. may_scale_down s q past) (existing past) done.no_lowering in
    rw (done.no_step, lowering, none-removed s past done.few_old) refl
