-- A list without repetition has at most n numbers below n.
use Rattle.std.proofs.Common.{ℕ, ◌<◌, ◌≤◌, List, [], ◌∷◌, ◌++◌, length, sym, ap, arith, length-append}
use Prim.Native.Nat.{zero, suc}
use Rattle.std.specs.Prelude.{◌⊎◌}
use mathlib.Core.Path.{subst}
use mathlib.Core.Logic.{inl, inr, ⊎_elim}
use Rattle.std.proofs.lemmas.Bool.Decides.{leb_tells}
use Rattle.bg_openlist.specs.Block.{IsIn}
use Rattle.bg_openlist.specs.Distinct.{Fresh, Distinct}
use Rattle.bg_openlist.proofs.Cases.{same_or_not}
use Rattle.bg_openlist.proofs.Lists.{cut_at}
use Rattle.bg_openlist.proofs.Rings.{distinct_at, distinct_cut}

abbrev pub Below : ℕ → List ℕ → Type 0
Below n [] = Unit {0}
Below n (k ∷ ks) = (k < n) × Below n ks

below_cut : (n : ℕ) (ps : List ℕ) (k : ℕ) (qs : List ℕ) → Below n (ps ++ k ∷ qs) → Below n (ps ++ qs)
below_cut n [] k qs b = b.1
below_cut n (p ∷ ps) k qs b = (b.0, below_cut n ps k qs b.1)

below_less : (n : ℕ) (ks : List ℕ) → Below (suc n) ks → Fresh n ks → Below n ks
below_less n [] b f = tt
below_less n (k ∷ ks) b f = (⊎_elim (λ e. absurd (f.0 e)) (λ ne. let lt = b.0 in let d = leb_tells n k in ⊎_elim (λ h. absurd (ne (omega arith))) (λ h. h.1) d) (same_or_not k n), below_less n ks b.1 f.1)

is_in : (n : ℕ) (ks : List ℕ) → IsIn n ks ⊎ Fresh n ks
is_in n [] = inr tt
is_in n (k ∷ ks) = ⊎_elim (λ e. inl (inl (sym e))) (λ ne. ⊎_elim (λ h. inl (inr h)) (λ f. inr (ne, f)) (is_in n ks)) (same_or_not k n)

pub fits_below : (n : ℕ) (ks : List ℕ) → Distinct ks → Below n ks → length ks ≤ n
fits_below zero [] d b = omega arith
fits_below zero (k ∷ ks) d b = let lt = b.0 in absurd (omega arith)
fits_below (suc n) ks d b =
    ⊎_elim
    (λ h.
    let c = cut_at n ks h in
    let d' = subst Distinct c.is d in
    let less = fits_below n (c.before ++ c.after) (distinct_cut c.before n c.after d') (below_less n (c.before ++ c.after) (below_cut (suc n) c.before n c.after (subst (Below (suc n)) c.is b)) (distinct_at c.before n c.after d')) in
    omega (arith, less, ap length c.is, length-append c.before (n ∷ c.after), length-append c.before c.after))
    (λ f. let less = fits_below n ks d (below_less n ks b f) in omega arith)
    (is_in n ks)
