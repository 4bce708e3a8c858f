-- The outcomes that follow an event: each is allowed, and a fact that each keeps holds after all of them.
use Rattle.std.proofs.Common.{◌≡◌, ℕ, Bool, true, false, cond, List, [], ◌∷◌, find, Option, Some, None, refl, ap, ◌∙◌}
use Rattle.std.specs.Option.{option_or, option_map}
use Rattle.std.proofs.lemmas.Option.{same_Some}
use Rattle.bg_strategy.specs.declared.strategy.Strategy.{Strategy}
use Rattle.bg_history.specs.declared.entry.Entry.{Entry}
use Rattle.bg_history.specs.declared.entry.Entry.TheVariants.{Outcome}
use Rattle.bg_history.specs.declared.entry.Outcome as outcome
use Rattle.bg_history.specs.declared.entry.Outcome.TheVariants.{Ready, Resumed, Switched, Promoted, ScaledDown, Removed}
use Rattle.bg_history.specs.Kept.{Opening}
use Rattle.bg_history.specs.AttemptBounds.{newest_of}
use Rattle.bg_history.specs.Sizes.{existing}
use Rattle.bg_history.specs.Promotion.{may_be_ready, may_resume, may_switch, may_promote, first_promotion}
use Rattle.bg_history.specs.Deadlines.{may_scale_down, may_remove}
use Rattle.bg_history.specs.Allowed.{is_allowed}
use Rattle.bg_history.specs.Steps.{first_allowed, all_allowed, with_outcomes, Follows, Step}
use Rattle.bg_history_laws.proofs.Tests.{and_both}
use Rattle.bg_history_laws.proofs.Finding.{found}

-- the first of two options, else the rest
either : {X : Type 0} (a b : Option X) (x : X) (P : Type 0) → (a ≡ Some x → P) → (b ≡ Some x → P) → option_or a b ≡ Some x → P
either None b x P left right h = right h
either (Some a) b x P left right h = left h

chosen : {X : Type 0} (b : Bool) (v x : X) (rest : Option X) (P : Type 0) → (b ≡ true → v ≡ x → P) → (rest ≡ Some x → P) → cond b (Some v) rest ≡ Some x → P
chosen true v x rest P here there h = here refl (same_Some v x h)
chosen false v x rest P here there h = there h

mapped : (make : ℕ → outcome.Outcome) (o : Option ℕ) (x : outcome.Outcome) (P : Type 0) → ((r : ℕ) → o ≡ Some r → make r ≡ x → P) → option_map make o ≡ Some x → P
mapped make None x P here h = absurd (cc)
mapped make (Some r) x P here h = here r refl (same_Some (make r) x h)

allowed_as : (s : Strategy) (o : Opening) (past : List Entry) (v x : outcome.Outcome) → v ≡ x → is_allowed s o (Outcome v) past ≡ true → is_allowed s o (Outcome x) past ≡ true
allowed_as s o past v x is h = rw (← is) h

promotion_allowed : (s : Strategy) (o : Opening) (past : List Entry) (x : outcome.Outcome) → first_promotion s past ≡ Some x → is_allowed s o (Outcome x) past ≡ true
promotion_allowed s o past x h =
    let r : ℕ = newest_of past in
    let P : Type 0 = is_allowed s o (Outcome x) past ≡ true in
    chosen (may_be_ready s r past) (Ready r) x _ P (λ may is. allowed_as s o past (Ready r) x is may)
    (chosen (may_resume s r past) (Resumed r) x _ P (λ may is. allowed_as s o past (Resumed r) x is may)
    (chosen (may_switch s r past) (Switched r) x _ P (λ may is. allowed_as s o past (Switched r) x is may)
    (chosen (may_promote s r past) (Promoted r) x _ P (λ may is. allowed_as s o past (Promoted r) x is may) (λ e. absurd (cc))))) h

-- the first allowed outcome is allowed
pub first-allowed : (s : Strategy) (o : Opening) (past : List Entry) (x : outcome.Outcome) → first_allowed s past ≡ Some x → is_allowed s o (Outcome x) past ≡ true
first-allowed s o past x h =
    let P : Type 0 = is_allowed s o (Outcome x) past ≡ true in
    either (first_promotion s past) _ x P (promotion_allowed s o past x)
    (either (option_map ScaledDown (find (λ r. may_scale_down s r past) (existing past))) _ x P
    (mapped ScaledDown _ x P (λ r is same. allowed_as s o past (ScaledDown r) x same (found (λ q. may_scale_down s q past) r (existing past) is).0))
    (mapped Removed (find (λ r. may_remove s r past) (existing past)) x P
    (λ r is same. allowed_as s o past (Removed r) x same (found (λ q. may_remove s q past) r (existing past) is).0))) h

-- so all entries are allowed after the outcomes that follow
pub follow-allowed : (s : Strategy) (o : Opening) (xs : List outcome.Outcome) (past : List Entry) → all_allowed s o past ≡ true → Follows s xs past
    → all_allowed s o (with_outcomes xs past) ≡ true
follow-allowed s o [] past a f = a
follow-allowed s o (x ∷ xs) past a f =
    and_both (is_allowed s o (Outcome x) (with_outcomes xs past)) (all_allowed s o (with_outcomes xs past)) (first-allowed s o (with_outcomes xs past) x f.1)
    (follow-allowed s o xs past a f.0)

-- a fact that each allowed outcome keeps holds after all outcomes that follow
pub follow-keeps : (s : Strategy) (o : Opening) (P : List Entry → Type 0)
    → ((x : outcome.Outcome) (p : List Entry) → all_allowed s o p ≡ true → is_allowed s o (Outcome x) p ≡ true → P p → P (Outcome x ∷ p))
    → (xs : List outcome.Outcome) (past : List Entry) → all_allowed s o past ≡ true → Follows s xs past → P past → P (with_outcomes xs past)
follow-keeps s o P keep [] past a f h = h
follow-keeps s o P keep (x ∷ xs) past a f h =
    keep x (with_outcomes xs past) (follow-allowed s o xs past a f.0) (first-allowed s o (with_outcomes xs past) x f.1) (follow-keeps s o P keep xs past a f.0 h)

-- so it holds after each step whose event makes it hold
pub step-keeps : (s : Strategy) (o : Opening) (P : List Entry → Type 0)
    → ((x : outcome.Outcome) (p : List Entry) → all_allowed s o p ≡ true → is_allowed s o (Outcome x) p ≡ true → P p → P (Outcome x ∷ p))
    → (e : Entry) (past : List Entry) (xs : List outcome.Outcome) (new : List Entry) → all_allowed s o (e ∷ past) ≡ true → Step s e past xs new → P (e ∷ past) → P new
step-keeps s o P keep e past xs new a step h = rw step.new_is (follow-keeps s o P keep xs (e ∷ past) a step.follow h)

-- all entries are allowed after the step
pub step-allowed : (s : Strategy) (o : Opening) (e : Entry) (past : List Entry) (xs : List outcome.Outcome) (new : List Entry) → all_allowed s o (e ∷ past) ≡ true
    → Step s e past xs new → all_allowed s o new ≡ true
step-allowed s o e past xs new a step = ap (all_allowed s o) step.new_is ∙ follow-allowed s o xs (e ∷ past) a step.follow
