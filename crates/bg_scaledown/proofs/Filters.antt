-- Two filters, one after the other.
use Rattle.std.proofs.Common.{◌≡◌, Bool, List, [], ◌∷◌, filter, refl, arith}

-- two filters give the same in either order
pub filter-swap : {A : Type 0} (p t : A → Bool) (xs : List A) → filter p (filter t xs) ≡ filter t (filter p xs)
filter-swap p t [] = refl
filter-swap p t (x ∷ xs) = grind (arith, filter-swap p t xs)

-- the same filter drops nothing the second time
pub filter-twice : {A : Type 0} (p : A → Bool) (xs : List A) → filter p (filter p xs) ≡ filter p xs
filter-twice p [] = refl
filter-twice p (x ∷ xs) = grind (arith, filter-twice p xs)
