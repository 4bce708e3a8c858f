-- The templates of a past.
use Rattle.std.proofs.Common.{◌≡◌, ◌<◌, ℕ, Bool, true, false, not, cond, ◌==◌, ◌||◌, List, [], ◌∷◌, Option, Some, None, refl, arith, inl, inr}
use Rattle.std.specs.Option.{option_or, is_some}
use Rattle.std.proofs.lemmas.Bool.Decides.{nat_tests, eqb_tells}
use Rattle.bg_history.specs.declared.entry.Entry.{Entry}
use Rattle.bg_history.specs.declared.entry.Entry.TheVariants.{Deploy, Outcome}
use Rattle.bg_history.specs.declared.entry.Outcome.TheVariants.{Removed}
use Rattle.bg_history.specs.Kept.{Opening}
use Rattle.bg_history.specs.Sizes.{existing, last_number}
use Rattle.bg_history.specs.Deadlines.{exists_in}
use Rattle.bg_history.specs.Templates.{template}
use Rattle.bg_history_laws.proofs.Listed.Members.{member-filter}
use Rattle.bg_history_laws.proofs.Lists.{member-put}

-- if there is a first option, the second one doesn't count
or-some : {A : Type 0} (t u : Option A) → is_some t ≡ true → option_or t u ≡ t
or-some None u some = absurd (grind arith)
or-some (Some t) u some = refl

-- if there is no second option, the first one counts
or-none : {A : Type 0} (t : Option A) → option_or t None ≡ t
or-none None = refl
or-none (Some t) = refl

-- there is one of the two if there is the second, or the first
or-there : {A : Type 0} (t : Option A) (b : Bool) (u : A) (within : Bool) → (within ≡ true → is_some t ≡ true) → (b || within) ≡ true → is_some (option_or t (cond b (Some u) None)) ≡ true
or-there (Some t) b u within first either = refl
or-there None true u within first either = refl
or-there None false u within first either = first either

-- each existing revision has a template
pub template-there : (o : Opening) (r : ℕ) (past : List Entry) → exists_in r past ≡ true → is_some (template o r past) ≡ true
template-there o r [] within = grind (arith, nat_tests)
template-there o r (Deploy q name ports ∷ before) within =
    or-there (template o r before) (q == r) (record { name = name; ports = ports }) (exists_in r before)
    (template-there o r before) (rw (member-put r q (existing before)) at within)
template-there o r (Outcome (Removed q) ∷ before) within =
    template-there o r before (member-filter (λ x. not (x == q)) r (existing before) within)
template-there o r (_ ∷ before) within = template-there o r before within

-- a number that wasn't given has no template
pub template-undeployed : (o : Opening) (r : ℕ) (past : List Entry) → last_number past < r → template o r past ≡ None
template-undeployed o r [] above = grind (arith, nat_tests)
template-undeployed o r (Deploy q name ports ∷ before) above =
    let other : (q == r) ≡ false = grind (arith, nat_tests) in
    rw (other, template-undeployed o r before (omega arith)) refl
template-undeployed o r (_ ∷ before) above = template-undeployed o r before above

-- a deploy changes the template of no other revision
pub template-other : (o : Opening) (q r : ℕ) (name ports : List ℕ) (past : List Entry) → (r == q) ≡ false → template o q (Deploy r name ports ∷ past) ≡ template o q past
template-other o q r name ports past other = rw other (or-none (template o q past))

-- a deploy doesn't change the template of its own revision if that has one
pub template-kept : (o : Opening) (q r : ℕ) (name ports : List ℕ) (past : List Entry) → is_some (template o r past) ≡ true → template o q (Deploy r name ports ∷ past) ≡ template o q past
template-kept o q r name ports past there = elim (eqb_tells r q) [
  | inl h ↦ or-some (template o q past) _ (rw h.1 at there)
  | inr h ↦ template-other o q r name ports past h.0
]
