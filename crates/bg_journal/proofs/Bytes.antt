-- Lists of bytes that all pass a test, and the first byte that fails it.
use Rattle.std.proofs.Common.{◌≡◌, ℕ, ◌<◌, Bool, true, false, List, [], ◌∷◌, ◌++◌, length, get_or, refl, sym, ap, ◌∙◌}
use Rattle.std.specs.Prelude.{◌≢◌}
use Rattle.std.specs.List.{list_all}
use Rattle.std.proofs.lemmas.Bool.{and_from, and_parts, both_ways}
use Rattle.std.proofs.lemmas.List.Folds.{list_all-append}
use Rattle.std.proofs.lemmas.List.Sums.{AllPass-from_list_all}

-- what passes a test passes each weaker test
pub all_weaker : {X : Type 0} (p q : X → Bool) → ((x : X) → p x ≡ true → q x ≡ true) → (xs : List X)
    → list_all p xs ≡ true → list_all q xs ≡ true
all_weaker p q weaker [] e = refl
all_weaker p q weaker (x ∷ xs) e =
    let parts = and_parts (p x) (list_all p xs) e in
    and_from (q x) (list_all q xs) (weaker x parts.0) (all_weaker p q weaker xs parts.1)

-- a byte that fails the test is none of them
pub none_is : (p : ℕ → Bool) (c : ℕ) → p c ≡ false → (xs : List ℕ) → list_all p xs ≡ true
    → (i : ℕ) → i < length xs → get_or xs i 0 ≢ c
none_is p c fails xs e i inside =
    λ same. both_ways (p c) fails (ap p (sym same) ∙ AllPass-from_list_all p xs e i 0 inside)

head_of : ℕ → List ℕ → ℕ
head_of d [] = d
head_of d (x ∷ xs) = x

tail_of : List ℕ → List ℕ
tail_of [] = []
tail_of (x ∷ xs) = xs

pub same_head : (x y : ℕ) (xs ys : List ℕ) → x ∷ xs ≡ y ∷ ys → x ≡ y
unfolding head_of
same_head x y xs ys e = ap (head_of 0) e

pub same_tail : (x y : ℕ) (xs ys : List ℕ) → x ∷ xs ≡ y ∷ ys → xs ≡ ys
unfolding tail_of
same_tail x y xs ys e = ap tail_of e

-- where a list is cut at the first byte that fails the test, in only one way
pub cut_once : (p : ℕ → Bool) (c : ℕ) → p c ≡ false → (xs ys ls ms : List ℕ)
    → list_all p xs ≡ true → list_all p ys ≡ true → xs ++ c ∷ ls ≡ ys ++ c ∷ ms → (xs ≡ ys) × (ls ≡ ms)
cut_once p c fails [] [] ls ms ex ey e = (refl, same_tail c c ls ms e)
cut_once p c fails [] (y ∷ ys) ls ms ex ey e =
    absurd (both_ways (p c) fails (ap p (same_head c y ls (ys ++ c ∷ ms) e) ∙ (and_parts (p y) (list_all p ys) ey).0))
cut_once p c fails (x ∷ xs) [] ls ms ex ey e =
    absurd (both_ways (p c) fails (ap p (sym (same_head x c (xs ++ c ∷ ls) ms e)) ∙ (and_parts (p x) (list_all p xs) ex).0))
cut_once p c fails (x ∷ xs) (y ∷ ys) ls ms ex ey e =
    let more = cut_once p c fails xs ys ls ms (and_parts (p x) (list_all p xs) ex).1 (and_parts (p y) (list_all p ys) ey).1
    (same_tail x y (xs ++ c ∷ ls) (ys ++ c ∷ ms) e) in
    (ap (λ h. h ∷ xs) (same_head x y (xs ++ c ∷ ls) (ys ++ c ∷ ms) e) ∙ ap (λ t. y ∷ t) more.0, more.1)

-- a list with a byte that fails the test
pub not_all : (p : ℕ → Bool) (c : ℕ) → p c ≡ false → (xs ls ms : List ℕ) → list_all p ms ≡ true → ms ≡ xs ++ c ∷ ls → ⊥
not_all p c fails xs ls ms all is =
    let parts = and_parts (list_all p xs) (list_all p (c ∷ ls))
    (sym (list_all-append p xs (c ∷ ls)) ∙ ap (list_all p) (sym is) ∙ all) in
    both_ways (p c) fails (and_parts (p c) (list_all p ls) parts.1).0
