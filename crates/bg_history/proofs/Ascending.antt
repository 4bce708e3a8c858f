-- The revisions that exist ascend.
use Rattle.std.proofs.Common.{◌≡◌, ◌<◌, ◌≤◌, ℕ, Bool, true, false, not, cond, ◌==◌, nat_lt, List, [], ◌∷◌, filter, refl, arith}
use Rattle.std.proofs.lemmas.Bool.Decides.{nat_tests}
use Rattle.bg_history.specs.declared.entry.Entry.{Entry}
use Rattle.bg_history.specs.declared.entry.Entry.TheVariants.{Deploy, Outcome}
use Rattle.bg_history.specs.declared.entry.Outcome.TheVariants.{Removed}
use Rattle.bg_history.specs.Sizes.{put, existing, AllAbove, Ascends}

above-more : (low high : ℕ) (xs : List ℕ) → low ≤ high → AllAbove high xs → AllAbove low xs
above-more low high [] le h = tt
above-more low high (x ∷ xs) le h = (omega arith, above-more low high xs le h.1)

above-cond : (b : Bool) (low x : ℕ) (xs : List ℕ) → low < x → AllAbove low xs → AllAbove low (cond b (x ∷ xs) xs)
above-cond true low x xs lt h = (lt, h)
above-cond false low x xs lt h = h

above-filter : (f : ℕ → Bool) (low : ℕ) (xs : List ℕ) → AllAbove low xs → AllAbove low (filter f xs)
above-filter f low [] h = tt
above-filter f low (x ∷ xs) h = above-cond (f x) low x (filter f xs) h.0 (above-filter f low xs h.1)

ascends-cond : (b : Bool) (x : ℕ) (xs : List ℕ) → AllAbove x xs → Ascends xs → Ascends (cond b (x ∷ xs) xs)
ascends-cond true x xs above h = (above, h)
ascends-cond false x xs above h = h

ascends-filter : (f : ℕ → Bool) (xs : List ℕ) → Ascends xs → Ascends (filter f xs)
ascends-filter f [] h = tt
ascends-filter f (x ∷ xs) h = ascends-cond (f x) x (filter f xs) (above-filter f x xs h.0) (ascends-filter f xs h.1)

above-put : (low r : ℕ) (xs : List ℕ) → low < r → AllAbove low xs → AllAbove low (put r xs)
above-put low r [] lt h = (lt, tt)
above-put low r (x ∷ xs) lt h = put-cases (r == x) (nat_lt r x) low r x xs lt h (above-put low r xs lt h.1) where
  put-cases : (same less : Bool) (low r x : ℕ) (xs : List ℕ) → low < r → AllAbove low (x ∷ xs) → AllAbove low (put r xs)
      → AllAbove low (cond same (x ∷ xs) (cond less (r ∷ x ∷ xs) (x ∷ put r xs)))
  put-cases true less low r x xs lt h rest = h
  put-cases false true low r x xs lt h rest = (lt, h)
  put-cases false false low r x xs lt h rest = (h.0, rest)

ascends-put : (r : ℕ) (xs : List ℕ) → Ascends xs → Ascends (put r xs)
ascends-put r [] h = (tt, tt)
ascends-put r (x ∷ xs) h = put-cases (r == x) (nat_lt r x) refl refl h (ascends-put r xs h.1) where
  put-cases : (same less : Bool) → (r == x) ≡ same → nat_lt r x ≡ less → Ascends (x ∷ xs) → Ascends (put r xs)
      → Ascends (cond same (x ∷ xs) (cond less (r ∷ x ∷ xs) (x ∷ put r xs)))
  put-cases true less e l h rest = h
  put-cases false true e l h rest = let lt : r < x = grind (arith, nat_tests) in ((lt, above-more r x xs (omega arith) h.0), h)
  put-cases false false e l h rest = let lt : x < r = grind (arith, nat_tests) in (above-put x r xs lt h.0, rest)

pub existing-ascends : (past : List Entry) → Ascends (existing past)
existing-ascends [] = (tt, tt)
existing-ascends (Deploy r name ports ∷ before) = ascends-put r (existing before) (existing-ascends before)
existing-ascends (Outcome (Removed r) ∷ before) = ascends-filter (λ q. not (q == r)) (existing before) (existing-ascends before)
existing-ascends (_ ∷ before) = existing-ascends before
