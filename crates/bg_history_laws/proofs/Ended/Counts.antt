-- Counting the numbers of a list that pass a test.
use Rattle.std.proofs.Common.{◌≡◌, ◌<◌, ◌≤◌, ◌+◌, ℕ, Bool, true, false, not, cond, ◌==◌, List, [], ◌∷◌, length, filter, count_by, refl, arith}
use Rattle.std.proofs.lemmas.Bool.Decides.{nat_tests}
use Rattle.std.proofs.lemmas.List.Sums.{sum_by-cons}
use Rattle.bg_history.specs.Sizes.{AllAbove, Ascends}
use Rattle.bg_history_laws.proofs.Lists.{member}

-- one more number
count-cons : (p : ℕ → Bool) (x : ℕ) (xs : List ℕ) → count_by p (x ∷ xs) ≡ cond (p x) 1 0 + count_by p xs
count-cons p x xs = sum_by-cons (λ y. cond (p y) 1 0) x xs

-- a test that implies another one counts no more numbers
pub count-fewer : (p t : ℕ → Bool) (xs : List ℕ) → ((q : ℕ) → t q ≡ true → p q ≡ true) → count_by t xs ≤ count_by p xs
count-fewer p t [] fewer = omega arith
count-fewer p t (x ∷ xs) fewer = rw (count-cons t x xs, count-cons p x xs) (grind (arith, fewer x, count-fewer p t xs fewer))

-- it counts fewer if it is false of a number in the list for which the other one is true
pub count-less : (p t : ℕ → Bool) (r : ℕ) (xs : List ℕ) → ((q : ℕ) → t q ≡ true → p q ≡ true) → p r ≡ true → t r ≡ false → member r xs ≡ true → count_by t xs < count_by p xs
count-less p t r [] fewer was fails within = cc
count-less p t r (x ∷ xs) fewer was fails within =
    rw (count-cons t x xs, count-cons p x xs)
    (grind (arith, nat_tests, fewer x, count-fewer p t xs fewer, count-less p t r xs fewer was fails))

-- two tests that differ only at r count the same above r
count-above : (p t : ℕ → Bool) (r : ℕ) (xs : List ℕ) → ((q : ℕ) → (r == q) ≡ false → t q ≡ p q) → AllAbove r xs → count_by t xs ≡ count_by p xs
count-above p t r [] same above = refl
count-above p t r (x ∷ xs) same above =
    let other : (r == x) ≡ false = let less : r < x = above.0 in grind (arith, nat_tests) in
    rw (count-cons t x xs, count-cons p x xs, same x other, count-above p t r xs same above.1) refl

-- the counts of two tests that differ only at r differ by at most one
pub count-one_more : (p t : ℕ → Bool) (r : ℕ) (xs : List ℕ) → Ascends xs → ((q : ℕ) → (r == q) ≡ false → t q ≡ p q) → count_by t xs ≤ count_by p xs + 1
count-one_more p t r [] ascends same = omega arith
count-one_more p t r (x ∷ xs) ascends same =
    rw (count-cons t x xs, count-cons p x xs) (here-or-later (r == x) refl (count-one_more p t r xs ascends.1 same)) where
      here-or-later : (b : Bool) → (r == x) ≡ b → count_by t xs ≤ count_by p xs + 1 → cond (t x) 1 0 + count_by t xs ≤ cond (p x) 1 0 + count_by p xs + 1
      here-or-later true is later =
          let e : r ≡ x = grind (arith, nat_tests) in
          let rest : count_by t xs ≡ count_by p xs = count-above p t r xs same (rw e ascends.0) in
          grind arith
      here-or-later false is later = rw (same x is) (omega (arith, later))

-- in a part of the list, no more numbers pass
pub count-filter : (p f : ℕ → Bool) (xs : List ℕ) → count_by p (filter f xs) ≤ count_by p xs
count-filter p f [] = omega arith
count-filter p f (x ∷ xs) = rw (count-cons p x xs) (kept-or-not (f x) (count-filter p f xs)) where
  kept-or-not : (b : Bool) → count_by p (filter f xs) ≤ count_by p xs
      → count_by p (cond b (x ∷ filter f xs) (filter f xs)) ≤ cond (p x) 1 0 + count_by p xs
  kept-or-not true rest = rw (count-cons p x (filter f xs)) (omega (arith, rest))
  kept-or-not false rest = omega (arith, rest)

-- a part of a list is at most as long
pub length-part : (f : ℕ → Bool) (xs : List ℕ) → length (filter f xs) ≤ length xs
length-part f [] = omega arith
length-part f (x ∷ xs) = grind (arith, length-part f xs)

-- a list without one of its numbers is shorter
pub length-without : (r : ℕ) (xs : List ℕ) → member r xs ≡ true → length (filter (λ q. not (q == r)) xs) < length xs
length-without r [] within = cc
length-without r (x ∷ xs) within = grind (arith, nat_tests, length-part (λ q. not (q == r)) xs, length-without r xs)

-- a part has only numbers of the list
pub member-part : (f : ℕ → Bool) (r : ℕ) (xs : List ℕ) → member r (filter f xs) ≡ true → member r xs ≡ true
member-part f r [] within = within
member-part f r (x ∷ xs) within = grind (arith, nat_tests, member-part f r xs)
