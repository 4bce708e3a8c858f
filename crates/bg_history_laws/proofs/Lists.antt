-- Lists: members, filters, and tests of all elements.
use Rattle.std.proofs.Common.{◌≡◌, ◌<◌, ℕ, Bool, true, false, cond, ◌==◌, ◌||◌, List, [], ◌∷◌, filter, refl, arith, ap, inl, inr}
use Rattle.std.specs.List.{list_any, list_all}
use Rattle.std.proofs.lemmas.Bool.Decides.{nat_tests, eqb_tells}
use Rattle.bg_history.specs.Sizes.{put, AllAbove}
use Rattle.bg_history_laws.proofs.Tests.{and_parts, and_both}

-- the list has the number
abbrev pub member : ℕ → List ℕ → Bool
member r xs = list_any (λ q. q == r) xs

-- a member is above a bound that all elements are above
pub member-above : (low r : ℕ) (xs : List ℕ) → AllAbove low xs → member r xs ≡ true → low < r
member-above low r [] above within = absurd (grind arith)
member-above low r (x ∷ xs) above within = elim (eqb_tells x r) [
  | inl h ↦ rw h.1 at above.0
  | inr h ↦ member-above low r xs above.1 (rw h.0 at within)
]

-- a list has a number that was put into it, and each number that it had
pub member-put : (q r : ℕ) (xs : List ℕ) → member q (put r xs) ≡ ((r == q) || member q xs)
member-put q r [] = refl
member-put q r (x ∷ xs) = grind (arith, nat_tests, member-put q r xs)

-- two filters give the same in either order
pub filter-swap : {X : Type 0} (p k : X → Bool) (xs : List X) → filter p (filter k xs) ≡ filter k (filter p xs)
filter-swap p k [] = refl
filter-swap p k (x ∷ xs) = go (p x) (k x) refl refl (filter-swap p k xs) where
  go : (b c : Bool) → p x ≡ b → k x ≡ c → filter p (filter k xs) ≡ filter k (filter p xs)
      → filter p (cond c (x ∷ filter k xs) (filter k xs)) ≡ filter k (cond b (x ∷ filter p xs) (filter p xs))
  go true true hp hk h = rw (hp, hk) (ap (λ ys. x ∷ ys) h)
  go true false hp hk h = rw hk h
  go false true hp hk h = rw hp h
  go false false hp hk h = h

-- if all elements pass a test, all pass a weaker one
pub all_weaker : {X : Type 0} (p q : X → Bool) → ((x : X) → p x ≡ true → q x ≡ true) → (xs : List X) → list_all p xs ≡ true → list_all q xs ≡ true
all_weaker p q f [] h = refl
all_weaker p q f (x ∷ xs) h = let both = and_parts (p x) (list_all p xs) h in and_both (q x) (list_all q xs) (f x both.0) (all_weaker p q f xs both.1)

-- if all elements pass a test, all kept ones pass it
pub all_filter : {X : Type 0} (p k : X → Bool) (xs : List X) → list_all p xs ≡ true → list_all p (filter k xs) ≡ true
all_filter p k [] h = refl
all_filter p k (x ∷ xs) h = let both = and_parts (p x) (list_all p xs) h in go (k x) both.0 (all_filter p k xs both.1) where
  go : (b : Bool) → p x ≡ true → list_all p (filter k xs) ≡ true → list_all p (cond b (x ∷ filter k xs) (filter k xs)) ≡ true
  go true here rest = and_both (p x) (list_all p (filter k xs)) here rest
  go false here rest = rest
