-- Numbers and options by cases.
use Rattle.std.proofs.Common.{◌≡◌, ℕ, Some, None, Option, Bool, true, false, refl, sym}
use Rattle.std.specs.Prelude.{◌≢◌, ◌⊎◌, ◌==◌}
use mathlib.Core.Path.{subst}
use mathlib.Core.Logic.{inl, inr, ⊎_elim}
use Rattle.std.proofs.lemmas.Bool.Decides.{eqb_tells}

pub same_or_not : (a b : ℕ) → (a ≡ b) ⊎ (a ≢ b)
same_or_not a b = ⊎_elim (λ h. inl h.1) (λ h. inr h.1) (eqb_tells a b)

pub is_same : (a b : ℕ) → a ≡ b → (a == b) ≡ true
is_same a b e = ⊎_elim (λ h. h.0) (λ h. absurd (h.1 e)) (eqb_tells a b)

pub is_other : (a b : ℕ) → (a ≢ b) → (a == b) ≡ false
is_other a b n = ⊎_elim (λ h. absurd (n h.1)) (λ h. h.0) (eqb_tells a b)

abbrev is_true : Bool → Type 0
is_true true = Unit {0}
is_true false = ⊥

pub none_true : false ≡ true → ⊥
none_true e = subst is_true (sym e) tt

module _ {X : Type 0} where
  abbrev is_none : Option X → Type 0
  is_none None = Unit {0}
  is_none (Some y) = ⊥

  pub none_some : (y : X) → None ≡ Some y → ⊥
  none_some y e = subst is_none e tt

  pub none_or_some : (o : Option X) → (o ≡ None) ⊎ ((x : X) × (o ≡ Some x))
  none_or_some None = inl refl
  none_or_some (Some x) = inr (x, refl)
