-- The numbers of the existing revisions.
use Rattle.std.proofs.Common.{◌≡◌, ◌<◌, ◌≤◌, ℕ, Bool, true, false, not, max, cond, ◌==◌, nat_lt, List, [], ◌∷◌, ◌++◌, filter, refl, arith, inl, inr}
use Rattle.std.proofs.lemmas.Bool.Decides.{nat_tests, eqb_tells}
use Rattle.bg_history.specs.declared.entry.Entry.{Entry}
use Rattle.bg_history.specs.declared.entry.Entry.TheVariants.{Deploy, Outcome}
use Rattle.bg_history.specs.declared.entry.Outcome.TheVariants.{Removed}
use Rattle.bg_history.specs.Sizes.{existing, put, last_number, Ascends}
use Rattle.bg_history_laws.proofs.Lists.{member, member-above}

-- a number that is in the list isn't put in again
pub put-there : (r : ℕ) (xs : List ℕ) → Ascends xs → member r xs ≡ true → put r xs ≡ xs
put-there r [] ascends within = absurd (grind arith)
put-there r (x ∷ xs) ascends within = elim (eqb_tells r x) [
  | inl h ↦ rw h.0 refl
  | inr h ↦
      let later : member r xs ≡ true = grind (arith, nat_tests) in
      let above : x < r = member-above x r xs ascends.0 later in
      let less : nat_lt r x ≡ false = grind (arith, nat_tests) in
      rw (h.0, less, put-there r xs ascends.1 later) refl
]

-- a number that is left after some were removed was in the list before
pub member-filter : (f : ℕ → Bool) (q : ℕ) (xs : List ℕ) → member q (filter f xs) ≡ true → member q xs ≡ true
member-filter f q [] within = within
member-filter f q (x ∷ xs) within = grind (arith, member-filter f q xs)

-- each number is at most this one
abbrev pub Upto : ℕ → List ℕ → Type 0
Upto high [] = Unit {0}
Upto high (x ∷ xs) = (x ≤ high) × Upto high xs

-- a greater number is also a bound
upto-more : (low high : ℕ) (xs : List ℕ) → low ≤ high → Upto low xs → Upto high xs
upto-more low high [] le h = tt
upto-more low high (x ∷ xs) le h = (omega arith, upto-more low high xs le h.1)

-- one more number, depending on whether it is kept
upto-cond : (b : Bool) (high x : ℕ) (xs : List ℕ) → x ≤ high → Upto high xs → Upto high (cond b (x ∷ xs) xs)
upto-cond true high x xs le h = (le, h)
upto-cond false high x xs le h = h

-- removing some numbers keeps the bound
upto-filter : (f : ℕ → Bool) (high : ℕ) (xs : List ℕ) → Upto high xs → Upto high (filter f xs)
upto-filter f high [] h = tt
upto-filter f high (x ∷ xs) h = upto-cond (f x) high x (filter f xs) h.0 (upto-filter f high xs h.1)

-- putting in a number within the bound keeps the bound
upto-put : (high r : ℕ) (xs : List ℕ) → r ≤ high → Upto high xs → Upto high (put r xs)
upto-put high r [] le h = (le, tt)
upto-put high r (x ∷ xs) le h = put-cases (r == x) (nat_lt r x) high r x xs le h (upto-put high r xs le h.1) where
  put-cases : (same less : Bool) (high r x : ℕ) (xs : List ℕ) → r ≤ high → Upto high (x ∷ xs) → Upto high (put r xs)
      → Upto high (cond same (x ∷ xs) (cond less (r ∷ x ∷ xs) (x ∷ put r xs)))
  put-cases true less high r x xs le h rest = h
  put-cases false true high r x xs le h rest = (le, h)
  put-cases false false high r x xs le h rest = (h.0, rest)

-- no existing revision has a number above the last
pub existing-upto : (past : List Entry) → Upto (last_number past) (existing past)
existing-upto [] = (omega arith, tt)
existing-upto (Deploy r name ports ∷ before) =
    upto-put (max r (last_number before)) r (existing before) (omega arith)
    (upto-more (last_number before) (max r (last_number before)) (existing before) (omega arith) (existing-upto before))
existing-upto (Outcome (Removed r) ∷ before) = upto-filter (λ q. not (q == r)) (last_number before) (existing before) (existing-upto before)
existing-upto (_ ∷ before) = existing-upto before

-- a number above all others is put at the end
pub put-end : (high r : ℕ) (xs : List ℕ) → high < r → Upto high xs → put r xs ≡ xs ++ r ∷ []
put-end high r [] lt h = refl
put-end high r (x ∷ xs) lt h = let le : x ≤ high = h.0 in grind (arith, nat_tests, put-end high r xs lt h.1)
