-- The list of the revisions, number by number.
use Rattle.std.proofs.Common.{◌≡◌, ◌≤◌, ℕ, Bool, true, false, not, cond, ◌==◌, List, [], ◌∷◌, ◌++◌, map, filter, refl}
use Rattle.bg_revisions.specs.declared.revision.Revision.{Revision}
use Rattle.bg_history_laws.proofs.Listed.Members.{Upto}

-- changing each revision changes the list
pub map-map : (f g : ℕ → Revision) (h : Revision → Revision) (xs : List ℕ) → ((q : ℕ) → f q ≡ h (g q)) → map f xs ≡ map h (map g xs)
map-map f g h [] same = refl
map-map f g h (x ∷ xs) same = rw (same x, map-map f g h xs same) refl

-- two functions that agree at each number make the same list
pub map-same : (f g : ℕ → Revision) (xs : List ℕ) → ((q : ℕ) → f q ≡ g q) → map f xs ≡ map g xs
map-same f g [] same = refl
map-same f g (x ∷ xs) same = rw (same x, map-same f g xs same) refl

-- two functions that agree up to a bound of all numbers make the same list
pub map-upto : (high : ℕ) (f g : ℕ → Revision) (xs : List ℕ) → Upto high xs → ((q : ℕ) → q ≤ high → f q ≡ g q) → map f xs ≡ map g xs
map-upto high f g [] h same = refl
map-upto high f g (x ∷ xs) h same = rw (same x h.0, map-upto high f g xs h.1 same) refl

-- one more number at the end is one more revision at the end
pub map-end : (f : ℕ → Revision) (r : ℕ) (xs : List ℕ) → map f (xs ++ r ∷ []) ≡ map f xs ++ f r ∷ []
map-end f r [] = refl
map-end f r (x ∷ xs) = rw (map-end f r xs) refl

-- leaving out a number, or not, is leaving out a revision, or not
map-cond : (f : ℕ → Revision) (b : Bool) (x : ℕ) (xs : List ℕ) → map f (cond b (x ∷ xs) xs) ≡ cond b (f x ∷ map f xs) (map f xs)
map-cond f true x xs = refl
map-cond f false x xs = refl

-- leaving out a number is leaving out its revision
pub map-filter : (f : ℕ → Revision) (r : ℕ) (xs : List ℕ) → ((q : ℕ) → (f q).number ≡ q) → map f (filter (λ q. not (q == r)) xs) ≡ filter (λ v. not (v.number == r)) (map f xs)
map-filter f r [] own = refl
map-filter f r (x ∷ xs) own =
    rw (map-cond f (not (x == r)) x (filter (λ q. not (q == r)) xs), map-filter f r xs own, own x) refl
