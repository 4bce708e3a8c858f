-- Finding the first number of a list that passes a test.
use Rattle.std.proofs.Common.{◌≡◌, ℕ, Bool, true, false, cond, ◌==◌, ◌||◌, List, [], ◌∷◌, find, Some, None, refl, arith, ap}
use Rattle.std.proofs.lemmas.Bool.Decides.{nat_tests}
use Rattle.bg_history_laws.proofs.Lists.{member}

-- a number that is found passes the test and is in the list
pub found : (p : ℕ → Bool) (r : ℕ) (xs : List ℕ) → find p xs ≡ Some r → (p r ≡ true) × (member r xs ≡ true)
found p r [] h = cc
found p r (x ∷ xs) h = here-or-later (p x) refl h (found p r xs) where
  here-or-later : (b : Bool) → p x ≡ b → cond b (Some x) (find p xs) ≡ Some r → (find p xs ≡ Some r → (p r ≡ true) × (member r xs ≡ true))
      → (p r ≡ true) × (member r (x ∷ xs) ≡ true)
  here-or-later true is h later = let e : x ≡ r = cc in (rw (← e) is, grind (arith, nat_tests))
  here-or-later false is h later = let rest = later h in (rest.0, grind (arith, nat_tests, rest.1))

-- if none is found, no number of the list passes
pub none-passes : (p : ℕ → Bool) (r : ℕ) (xs : List ℕ) → find p xs ≡ None → member r xs ≡ true → p r ≡ false
none-passes p r [] h within = cc
none-passes p r (x ∷ xs) h within = here-or-later (p x) refl h (x == r) refl within (none-passes p r xs) where
  here-or-later : (b : Bool) → p x ≡ b → cond b (Some x) (find p xs) ≡ None → (c : Bool) → (x == r) ≡ c → c || member r xs ≡ true
      → (find p xs ≡ None → member r xs ≡ true → p r ≡ false) → p r ≡ false
  here-or-later true is h c same within later = cc
  here-or-later false is h true same within later = let e : x ≡ r = grind (arith, nat_tests) in rw (← e) is
  here-or-later false is h false same within later = later h within

-- if no number passes, none is found
pub none-found : (p : ℕ → Bool) (xs : List ℕ) → ((q : ℕ) → p q ≡ false) → find p xs ≡ None
none-found p [] fails = refl
none-found p (x ∷ xs) fails = rw (fails x) (none-found p xs fails)

-- a number of the list is found
pub found-same : (q : ℕ) (xs : List ℕ) → member q xs ≡ true → find (λ r. q == r) xs ≡ Some q
found-same q [] within = cc
found-same q (x ∷ xs) within = here-or-later (q == x) refl (found-same q xs) where
  here-or-later : (b : Bool) → (q == x) ≡ b → (member q xs ≡ true → find (λ r. q == r) xs ≡ Some q)
      → cond b (Some x) (find (λ r. q == r) xs) ≡ Some q
  here-or-later true is later = let e : x ≡ q = grind (arith, nat_tests) in ap Some e
  here-or-later false is later = later (grind (arith, nat_tests))
