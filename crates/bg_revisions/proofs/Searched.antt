-- The result of a binary search for a number among revisions in ascending order.
use Rattle.std.proofs.Common.{◌≡◌, ◌≢◌, ◌<◌, ◌≤◌, ℕ, zero, suc, List, [], ◌∷◌, length, get_or, Some, None, Ok, Err, refl, sym, arith}
use Rattle.std.specs.List.Sorted.{IsBinarySearchResult, IsNonDecreasingBy}
use Rattle.std.specs.Ordering.{nat_cmp, ordering_index}
use Rattle.std.proofs.lemmas.Cmp.{ranked}
use Rattle.std.proofs.lemmas.Bool.Decides.{nat_tests}
use Rattle.bg_revisions.specs.declared.revision.Revision.{Revision}
use Rattle.bg_revisions.specs.Rosters.{numbered, AscendsWithin}

-- each number is above the bound
above : (low last i : ℕ) (vs : List Revision) (d : Revision) → AscendsWithin low last vs → i < length vs → low < (get_or vs i d).number
above low last i [] d h within = absurd (omega (arith, within))
above low last zero (v ∷ vs) d h within = h.0
above low last (suc i) (v ∷ vs) d h within = omega (arith, h.0, above v.number last i vs d h.1 (omega (arith, within)))

-- a number is at most each later one
rise : (low last i j : ℕ) (vs : List Revision) (d : Revision) → AscendsWithin low last vs → i ≤ j → j < length vs → (get_or vs i d).number ≤ (get_or vs j d).number
rise low last i j [] d h le within = absurd (omega (arith, within))
rise low last zero zero (v ∷ vs) d h le within = omega arith
rise low last zero (suc j) (v ∷ vs) d h le within = omega (arith, above v.number last j vs d h.1 (omega (arith, within)))
rise low last (suc i) zero (v ∷ vs) d h le within = absurd (omega (arith, le))
rise low last (suc i) (suc j) (v ∷ vs) d h le within = rise v.number last i j vs d h.1 (omega (arith, le)) (omega (arith, within))

-- a revision with the number is the first one with it
found_at : (low last n i : ℕ) (vs : List Revision) (d : Revision) → AscendsWithin low last vs → i < length vs → (get_or vs i d).number ≡ n → numbered n vs ≡ Some (get_or vs i d)
found_at low last n i [] d h within is = absurd (omega (arith, within))
found_at low last n zero (v ∷ vs) d h within is = grind (arith, nat_tests, is)
found_at low last n (suc i) (v ∷ vs) d h within is =
    grind (arith, nat_tests, above v.number last i vs d h.1 (omega (arith, within)), is, found_at v.number last n i vs d h.1 (omega (arith, within)) is)

-- if no revision has the number, the search finds none
found_nowhere : (n : ℕ) (vs : List Revision) (d : Revision) → ((i : ℕ) → i < length vs → (get_or vs i d).number ≢ n) → numbered n vs ≡ None
found_nowhere n [] d other = refl
found_nowhere n (v ∷ vs) d other =
    grind (arith, nat_tests, other zero (omega arith), found_nowhere n vs d (λ i within. other (suc i) (omega (arith, within))))

-- the comparisons with a number ascend along the list, as a binary search requires
comparisons_rise : (last n : ℕ) (vs : List Revision) → AscendsWithin 0 last vs → IsNonDecreasingBy (λ v. ordering_index (nat_cmp v.number n)) vs
comparisons_rise last n vs ascends i j d le within =
    let numbers_rise : (get_or vs i d).number ≤ (get_or vs j d).number = rise 0 last i j vs d ascends le within in
    grind (arith, nat_tests)

-- a search that ends at a place has found the revision
pub searched_there : (last n i : ℕ) (vs : List Revision) (d : Revision) → AscendsWithin 0 last vs → i < length vs → IsBinarySearchResult (λ v. nat_cmp v.number n) vs (Ok i) → numbered n vs ≡ Some (get_or vs i d)
searched_there last n i vs d ascends within equal = found_at 0 last n i vs d ascends within (ranked _ n _ (sym (equal d)))

-- if a search ends without a place, no revision has the number
pub searched_in_vain : (last n i : ℕ) (vs : List Revision) → AscendsWithin 0 last vs → IsBinarySearchResult (λ v. nat_cmp v.number n) vs (Err i) → numbered n vs ≡ None
searched_in_vain last n i [] ascends parted = refl
searched_in_vain last n i (v ∷ vs) ascends parted = found_nowhere n (v ∷ vs) v (λ k in_range same. grind (arith, below k in_range, beyond k in_range)) where
  below : (k : ℕ) → k < length (v ∷ vs) → k < i → (get_or (v ∷ vs) k v).number < n
  below k in_range lt = ranked _ n _ (sym ((parted (comparisons_rise last n (v ∷ vs) ascends)).0 k v (omega arith) lt))

  beyond : (k : ℕ) → k < length (v ∷ vs) → i ≤ k → n < (get_or (v ∷ vs) k v).number
  beyond k in_range le = ranked _ n _ (sym ((parted (comparisons_rise last n (v ∷ vs) ascends)).1 k v le in_range))
