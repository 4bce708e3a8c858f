-- Counting the numbers of a list that pass a test.
use Rattle.std.proofs.Common.{◌≡◌, ◌≤◌, ◌+◌, ℕ, Bool, true, false, not, ◌==◌, ◌&&◌, List, [], ◌∷◌, length, refl, arith, sym}
use Rattle.std.specs.List.{list_any}
use Rattle.std.proofs.lemmas.Bool.Decides.{nat_tests}
use Rattle.bg_history.specs.Sizes.{AllAbove, Ascends}
use Rattle.bg_scaledown.specs.Due.{one_if}

-- the number of elements that pass the test
abbrev pub count : (ℕ → Bool) → List ℕ → ℕ
count p [] = 0
count p (x ∷ xs) = one_if (p x) + count p xs

-- the list has the number
abbrev pub member : ℕ → List ℕ → Bool
member q xs = list_any (λ x. x == q) xs

-- no number occurs twice
abbrev pub Distinct : List ℕ → Type 0
Distinct [] = Unit {0}
Distinct (x ∷ xs) = (member x xs ≡ false) × Distinct xs

-- in an ascending list, each number occurs once
pub above-absent : (low q : ℕ) (xs : List ℕ) → q ≤ low → AllAbove low xs → member q xs ≡ false
above-absent low q [] le h = refl
above-absent low q (x ∷ xs) le h = grind (arith, nat_tests, h.0, above-absent low q xs le h.1)

pub ascends-distinct : (xs : List ℕ) → Ascends xs → Distinct xs
ascends-distinct [] h = tt
ascends-distinct (x ∷ xs) h = (above-absent x x xs (omega arith) h.0, ascends-distinct xs h.1)

-- the test, except for x
abbrev pub except : (ℕ → Bool) → ℕ → ℕ → Bool
except p x q = p q && not (q == x)

-- if a test is never true, no number passes it
count-none : (p : ℕ → Bool) (xs : List ℕ) → ((q : ℕ) → p q ≡ false) → count p xs ≡ 0
count-none p [] never = refl
count-none p (x ∷ xs) never = grind (arith, never x, count-none p xs never)

-- removing a number that isn't in the list or fails the test doesn't change the count
count-except_absent : (p : ℕ → Bool) (x : ℕ) (ys : List ℕ) → member x ys ≡ false → count (except p x) ys ≡ count p ys
count-except_absent p x [] out = refl
count-except_absent p x (y ∷ ys) out = grind (arith, nat_tests, count-except_absent p x ys)

count-except_false : (p : ℕ → Bool) (x : ℕ) (ys : List ℕ) → p x ≡ false → count (except p x) ys ≡ count p ys
count-except_false p x [] fails = refl
count-except_false p x (y ∷ ys) fails = grind (arith, nat_tests, count-except_false p x ys fails)

-- removing a number that is in the list removes it from the count
count-except_member : (p : ℕ → Bool) (x : ℕ) (ys : List ℕ) → Distinct ys → member x ys ≡ true → count p ys ≡ one_if (p x) + count (except p x) ys
count-except_member p x [] distinct within = cc
count-except_member p x (y ∷ ys) distinct within =
    grind (arith, nat_tests, count-except_absent p x ys, count-except_member p x ys distinct.1, distinct.0)

-- what is never true is false
pub is_false : (b : Bool) → (b ≡ true → ⊥) → b ≡ false
is_false true never = absurd (never refl)
is_false false never = refl

-- a number that still passes passed before, and differs from the removed one
kept : (p : ℕ → Bool) (x q : ℕ) → except p x q ≡ true → (p q ≡ true) × ((x == q) ≡ false)
kept p x q h = (grind (arith, nat_tests), grind (arith, nat_tests))

-- the same holds in the rest of a list that begins with x
kept_in : (p : ℕ → Bool) (x : ℕ) (xs : List ℕ) → ((q : ℕ) → p q ≡ true → member q (x ∷ xs) ≡ true) → (q : ℕ) → except p x q ≡ true → member q xs ≡ true
kept_in p x xs within q h = grind (arith, nat_tests, within q, kept p x q h)

-- one more number, depending on whether it passes
count-same_cons : (p : ℕ → Bool) (x : ℕ) (xs ys : List ℕ) (b : Bool) → p x ≡ b → Distinct ys → member x xs ≡ false
    → ((q : ℕ) → p q ≡ true → member q ys ≡ true) → count (except p x) xs ≡ count (except p x) ys → count p (x ∷ xs) ≡ count p ys
count-same_cons p x xs ys true is dy out iny rest = omega (arith, count-except_absent p x xs out, rest, count-except_member p x ys dy (iny x is))
count-same_cons p x xs ys false is dy out iny rest = rw (is, ← count-except_absent p x xs out, rest, count-except_false p x ys is) (omega arith)

-- two lists without repetition that both have all numbers that pass a test have the same count of them
pub count-same : (p : ℕ → Bool) (xs ys : List ℕ) → Distinct xs → Distinct ys
    → ((q : ℕ) → p q ≡ true → member q xs ≡ true) → ((q : ℕ) → p q ≡ true → member q ys ≡ true) → count p xs ≡ count p ys
count-same p [] ys dx dy inx iny = sym (count-none p ys (λ q. is_false (p q) (λ t. let e : false ≡ true = inx q t in cc)))
count-same p (x ∷ xs) ys dx dy inx iny =
    count-same_cons p x xs ys (p x) refl dy dx.0 iny
    (count-same (except p x) xs ys dx.1 dy (kept_in p x xs inx) (λ q h. iny q (kept p x q h).0))

-- a list has at most as many numbers that pass a test as numbers
count-all : (p : ℕ → Bool) (xs : List ℕ) → ((q : ℕ) → member q xs ≡ true → p q ≡ true) → count p xs ≡ length xs
count-all p [] all = refl
count-all p (x ∷ xs) all =
    let here : p x ≡ true = all x (grind (arith, nat_tests)) in
    let rest : count p xs ≡ length xs = count-all p xs (λ q h. all q (grind (arith, nat_tests))) in
    grind (arith)

count-most : (p : ℕ → Bool) (xs : List ℕ) → count p xs ≤ length xs
count-most p [] = omega arith
count-most p (x ∷ xs) = grind (arith, count-most p xs)

-- a list without repetition is at most as long as another one that has all its numbers
pub length-within : (xs ys : List ℕ) → Distinct xs → Distinct ys → ((q : ℕ) → member q xs ≡ true → member q ys ≡ true) → length xs ≤ length ys
length-within xs ys dx dy within =
    let inside : ℕ → Bool = λ q. member q xs in
    omega (arith, count-all inside xs (λ q h. h), count-most inside ys, count-same inside xs ys dx dy (λ q h. h) within)
