-- The least of several numbers.
use Rattle.std.proofs.Common.{◌≡◌, ◌≤◌, ℕ, min, Bool, true, false, ◌&&◌, List, [], ◌∷◌, refl, arith, sym, ◌∙◌}
use Rattle.std.specs.List.{fold, reduce}
use Rattle.std.proofs.lemmas.Bool.Decides.{nat_tests}
use Rattle.bg_revisions.specs.declared.revision.Selectors.{Selectors}
use Rattle.bg_history.specs.Tables.{Table}
use Rattle.bg_scaledown.specs.Due.{is_due_in, IsLeastDue}
use Rattle.bg_scaledown.proofs.Counts.{member, is_false}

-- the least number is one of them
fold-min_member : (x : ℕ) (xs : List ℕ) → member (fold min x xs) (x ∷ xs) ≡ true
fold-min_member x [] = grind (arith, nat_tests)
fold-min_member x (y ∷ ys) = grind (arith, nat_tests, fold-min_member (min x y) ys)

-- the least number is at most each of them
fold-min_first : (x : ℕ) (xs : List ℕ) → fold min x xs ≤ x
fold-min_first x [] = omega arith
fold-min_first x (y ∷ ys) = omega (arith, fold-min_first (min x y) ys)

fold-min_least : (x q : ℕ) (xs : List ℕ) → member q (x ∷ xs) ≡ true → fold min x xs ≤ q
fold-min_least x q [] within = grind (arith, nat_tests)
fold-min_least x q (y ∷ ys) within = grind (arith, nat_tests, fold-min_first (min x y) ys, fold-min_least (min x y) q ys)

-- the revision is due and passes the test
abbrev pub is_candidate : Table → ℕ → Selectors → (ℕ → Bool) → ℕ → Bool
is_candidate t now x p q = is_due_in t q now x && p q

-- the least number that is due and passes the test is the least revision that is due and passes it
pub least-due : (t : Table) (now : ℕ) (x : Selectors) (p : ℕ → Bool) (numbers : List ℕ) → ((q : ℕ) → member q numbers ≡ is_candidate t now x p q) → IsLeastDue t now x p (reduce min numbers)
least-due t now x p [] same = record {
  due = tt;
  passes = tt;
  least = tt;
  none = λ q due. is_false (p q) (λ passes. let within : false ≡ is_candidate t now x p q = same q in let candidate : is_candidate t now x p q ≡ true = rw (due, passes) refl in cc);
}
least-due t now x p (y ∷ ys) same =
    let candidate : is_candidate t now x p (fold min y ys) ≡ true = sym (same (fold min y ys)) ∙ fold-min_member y ys in
    record {
      due = grind (arith);
      passes = grind (arith);
      least = λ q due passes. fold-min_least y q ys (same q ∙ rw (due, passes) refl);
      none = tt;
    }
