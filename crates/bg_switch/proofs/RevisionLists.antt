-- Lemmas on the lists of the revisions that are in use.
use Rattle.std.proofs.Common.{◌≡◌, ℕ, ◌+◌, ◌<◌, arith, inl, inr, None, List, [], ◌∷◌, ◌++◌, map, filter, take, length, slice_get, Some, sym, ap, ◌∙◌}
use Rattle.std.proofs.lemmas.List.{map-append, take_more}
use Rattle.std.proofs.lemmas.List.Elements.{filter-append}
use Rattle.std.proofs.lemmas.Option.{none-some, slice_get_within, slice_get_cases, get_or_from_slice_get}
use Rattle.bg_endpoints.specs.Lists.{RevisionPorts}
use Rattle.bg_revisions.specs.declared.revision.Revision.{Revision}
use Rattle.bg_rollout.specs.Routing.{Routing}
use Rattle.bg_switch.specs.RevisionLists.{is_in_use, ports_in_use, ports_of}

-- the elements up to a place, and the one there, are those up to the next place
next_is : (xs : List Revision) (i : ℕ) (x : Revision) → slice_get xs i ≡ Some x → take (i + 1) xs ≡ take i xs ++ x ∷ []
next_is xs i x here =
    take_more xs i x (slice_get_within xs i x here)
    ∙ ap (λ y. take i xs ++ y ∷ []) (get_or_from_slice_get xs i x x here)

-- the list of one more revision is added, if it is in use
pub adds_next : (b : Routing) (xs : List Revision) (i : ℕ) (x : Revision) (before after : List RevisionPorts)
    → slice_get xs i ≡ Some x → before ≡ ports_in_use b (take i xs) → after ≡ before ++ ports_in_use b (x ∷ [])
    → after ≡ ports_in_use b (take (i + 1) xs)
adds_next b xs i x before after here then added =
    let both : ports_in_use b (take i xs ++ x ∷ []) ≡ ports_in_use b (take i xs) ++ ports_in_use b (x ∷ []) =
    ap (map ports_of) (filter-append (is_in_use b) (take i xs) (x ∷ []))
    ∙ map-append ports_of (filter (is_in_use b) (take i xs)) (filter (is_in_use b) (x ∷ [])) in
    added ∙ (ap (λ l. l ++ ports_in_use b (x ∷ [])) then ∙ (sym both ∙ ap (ports_in_use b) (sym (next_is xs i x here))))

-- each place before the end has a revision
pub has_revision : (xs : List Revision) (i : ℕ) → i < length xs → slice_get xs i ≡ None → ⊥
has_revision xs i within none =
    elim (slice_get_cases xs i).1 [
      | inl w ↦ none-some w.0 (sym none ∙ w.2)
      | inr w ↦ omega (arith, w.0)
    ]
