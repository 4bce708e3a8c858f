-- Lemmas on the texts that are written for the elements of a list, one after the other.
use Rattle.std.proofs.Common.{◌≡◌, ℕ, ◌+◌, List, [], ◌∷◌, ◌++◌, take, flat_map, slice_get, Option, Some, sym, ap, ◌∙◌, subst}
use Rattle.std.proofs.lemmas.List.{take_more, flat_map_more}
use Rattle.std.proofs.lemmas.Option.{slice_get_within, get_or_from_slice_get}
use Rattle.std.specs.Io.KnownBytes.{Appends}
use Rattle.std.proofs.KnownBytes.{Appends-trans}

next_is : {X : Type 0} (xs : List X) (i : ℕ) (x : X) → slice_get xs i ≡ Some x → take (i + 1) xs ≡ take i xs ++ x ∷ []
next_is xs i x here =
    take_more xs i x (slice_get_within xs i x here)
    ∙ ap (λ y. take i xs ++ y ∷ []) (get_or_from_slice_get xs i x x here)

-- one more text is written, for the element at a place
pub writes_next : {X : Type 0} (f : X → List ℕ) (xs : List X) (i : ℕ) (x : X) (first now new : Option (List ℕ))
    → slice_get xs i ≡ Some x → Appends first now (flat_map f (take i xs)) → Appends now new (f x)
    → Appends first new (flat_map f (take (i + 1) xs))
writes_next f xs i x first now new here before written =
    subst (λ (l : List ℕ). Appends first new l)
    (flat_map_more f [] (take i xs) x ∙ ap (λ l. flat_map f l) (sym (next_is xs i x here)))
    (Appends-trans first now new _ _ before written)
