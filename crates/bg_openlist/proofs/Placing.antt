-- Finding the list that has a node.
use Rattle.std.proofs.Common.{◌≡◌, ℕ, ◌+◌, ◌<◌, ◌≤◌, List, ◌∷◌, refl, ap, ◌∙◌, arith, Some, None, Option}
use Prim.Native.Nat.{zero, suc}
use Rattle.std.specs.Prelude.{◌≢◌, option_map}
use Rattle.core.specs.Option.{option_or}
use mathlib.Core.Logic.{⊎_elim}
use Rattle.std.proofs.lemmas.Bool.Decides.{leb_tells}
use Rattle.bg_openlist.specs.Family.{place_among, value_in}
use Rattle.bg_openlist.specs.Tables.{table}
use Rattle.bg_openlist.proofs.Cases.{same_or_not}

more : (a t : ℕ) → a ≤ t → (a ≢ t) → a < t
more a t le n = ⊎_elim (λ h. let back = h.1 in absurd (n (omega arith))) (λ h. h.1) (leb_tells t a)

module _ {X : Type 0} (f : ℕ → List (ℕ × X)) (k : ℕ) where
  on : (a n : ℕ) (o : Option X) → value_in (f a) k ≡ o → place_among (f a ∷ table f (suc a) n) a k ≡ option_or (option_map (λ x. (a, x)) o) (place_among (table f (suc a) n) (suc a) k)
  on a n o e = ap (λ v. option_or (option_map (λ x. (a, x)) v) (place_among (table f (suc a) n) (suc a) k)) e

  pub place_none : (a n : ℕ) → ((j : ℕ) → a ≤ j → j < a + n → value_in (f j) k ≡ None) → place_among (table f a n) a k ≡ None
  unfolding table
  place_none a zero h = refl
  place_none a (suc n) h = on a n None (h a (omega arith) (omega arith)) ∙ place_none (suc a) n (λ j le lt. h j (omega arith) (omega arith))

  pub place_here : (a n t : ℕ) (x : X) → a ≤ t → t < a + n → value_in (f t) k ≡ Some x → ((j : ℕ) → a ≤ j → j < a + n → (j ≢ t) → value_in (f j) k ≡ None) → place_among (table f a n) a k ≡ Some (t, x)
  unfolding table
  place_here a zero t x le lt e h = absurd (omega arith)
  place_here a (suc n) t x le lt e h =
      ⊎_elim
      (λ same. on a n (Some x) (ap (λ j. value_in (f j) k) same ∙ e) ∙ ap (λ j. Some (j, x)) same)
      (λ other. on a n None (h a (omega arith) (omega arith) other) ∙ place_here (suc a) n t x (more a t le other) (omega arith) e (λ j le' lt' n'. h j (omega arith) (omega arith) n'))
      (same_or_not a t)
