-- What each call tells of the family f that its caller knows.
use Rattle.std.proofs.Common.{◌≡◌, ℕ, ◌+◌, ◌-◌, ◌<◌, ◌≤◌, false, true, List, [], ◌∷◌, length, get_or, map, slice_get, refl, sym, ap, ◌∙◌, Some, None, Option}
use Prim.Native.Nat.{zero, suc}
use Rattle.std.specs.Prelude.{◌≢◌, is_some, option_map}
use mathlib.Core.Path.{subst}
use mathlib.Core.Logic.{⊎_elim}
use Rattle.std_alloc.specs.declared.vec.Vec.{Vec}
use Rattle.bg_openlist.specs.declared.nodes.Node.{Node}
use Rattle.bg_openlist.specs.Block.{HoldsLists, family_of}
use Rattle.bg_openlist.specs.Family.{Family, IsFamily, is_linked, list_at, list_of, next_of, place_of, value_in, value_of, without_node}
use Rattle.bg_openlist.specs.Nodes.{nexts, tags, values}
use Rattle.bg_openlist.proofs.Cases.{none_or_some, none_some, none_true}
use Rattle.bg_openlist.proofs.Pairs.{without_node_none}
use Rattle.bg_openlist.proofs.Seen.{Linked, beside, beside_same, family, front_is, len_is, linked, next_is, place_is, place_past, row_past, stored_own}

module _ {X : Type 0} where
  only_list : (l : ℕ) (o : Option X) → option_map (λ p. p.0) (beside l o) ≡ option_map (λ _. l) o
  only_list l None = refl
  only_list l (Some x) = refl

  -- the block counts cells, and callers count nodes
  pub less_none : (n : ℕ) (o : Option X) → None ≡ beside n o → None ≡ beside (n - 64) o
  less_none n None e = refl
  less_none n (Some x) e = absurd (none_some (n, x) e)

  pub less_some : (n : ℕ) (o : Option X) (i : ℕ) (x : X) → beside i (Some x) ≡ beside n o → beside (i - 64) (Some x) ≡ beside (n - 64) o
  less_some n o i x e = let h = beside_same n o i x e in λ j. beside (h.0 j - 64) (sym h.1 j)

  some_before : {Y : Type 0} (o : Option Y) (h : Y → X) (x : X) → Some x ≡ option_map h o → is_some o ≡ true
  some_before None h x e = absurd (none_some x (sym e))
  some_before (Some y) h x e = refl

module _ {X Z : Type 0} {s : ℕ} {nodes : Vec (Node X) Z} {lens : List ℕ} {f : Family X} (inv : HoldsLists s nodes lens) (is : family_of nodes lens ≡ f) where
  pub family_seen : IsFamily f
  family_seen = subst IsFamily is (family inv)

  pub len_seen : (l : ℕ) → l < 64 → get_or lens l 0 ≡ length (list_at f l)
  len_seen l low = len_is inv l low ∙ ap (λ f. length (list_at f l)) is

  pub none_seen : (l : ℕ) → 64 ≤ l → [] ≡ list_at f l
  none_seen l high = sym (row_past inv l high) ∙ ap (λ f. list_at f l) is

  pub front_seen : (l : ℕ) → l < 64 → slice_get (list_at f l) 0 ≡ beside (get_or (nexts nodes.items) l 0 - 64) (get_or (values nodes.items) (get_or (nexts nodes.items) l 0) None)
  front_seen l low = ap (λ f. slice_get (list_at f l) 0) (sym is) ∙ front_is inv l low

  pub free_seen : (k : ℕ) → nodes.len - 64 ≤ k → None ≡ list_of f k
  free_seen k past = ap (option_map (λ p. p.0)) (sym (place_past inv k past)) ∙ ap (λ f. list_of f k) is

  pub list_seen : (k : ℕ) → option_map (λ _. get_or (tags nodes.items) (64 + k) 0) (get_or (values nodes.items) (64 + k) None) ≡ list_of f k
  list_seen k = sym (ap (option_map (λ p. p.0)) (place_is inv k) ∙ only_list (get_or (tags nodes.items) (64 + k) 0) (get_or (values nodes.items) (64 + k) None)) ∙ ap (λ f. list_of f k) is

  pub linked_seen : (k : ℕ) → is_linked f k ≡ true → Linked inv k
  linked_seen k e = linked inv k (ap (λ f. is_linked f k) is ∙ e)

  pub next_seen : (k l : ℕ) → Some l ≡ list_of f k → next_of f k ≡ beside (get_or (nexts nodes.items) (64 + k) 0 - 64) (get_or (values nodes.items) (get_or (nexts nodes.items) (64 + k) 0) None)
  next_seen k l e = ap (λ f. next_of f k) (sym is) ∙ next_is inv k (linked_seen k (some_before (place_of f k) (λ p. p.0) l e))

  pub not_linked : (k : ℕ) → is_linked f k ≡ false → get_or (values nodes.items) (64 + k) None ≡ None
  not_linked k e =
      ⊎_elim (λ h. h)
      (λ h. absurd (none_true (sym (ap (λ f. is_linked f k) is ∙ e) ∙ ap is_some (place_is inv k ∙ ap (beside (get_or (tags nodes.items) (64 + k) 0)) h.1))))
      (none_or_some (get_or (values nodes.items) (64 + k) None))

  pub value_seen : (k : ℕ) (w : Linked inv k) → value_of f k ≡ Some w.value
  value_seen k w = ap (λ f. value_of f k) (sym is) ∙ ap (option_map (λ p. p.1)) (place_is inv k ∙ stored_own inv w)

get_or-map_nil : {A : Type 0} (h : List A → List A) → h [] ≡ [] → (xs : List (List A)) (l : ℕ) → get_or (map h xs) l [] ≡ h (get_or xs l [])
get_or-map_nil h e [] l = sym e
get_or-map_nil h e (x ∷ xs) zero = refl
get_or-map_nil h e (x ∷ xs) (suc l) = get_or-map_nil h e xs l

module _ {X : Type 0} where
  -- the lists of other nodes are unchanged
  pub others_stay : (f : Family X) (lists : List (List (ℕ × X))) (k : ℕ) → IsFamily f → lists ≡ map (without_node k) f.lists → (l : ℕ) → (list_of f k ≢ Some l) → get_or lists l [] ≡ list_at f l
  others_stay f lists k ok e l n =
      let none : value_in (list_at f l) k ≡ None = ⊎_elim (λ h. h) (λ h. absurd (n (ap (option_map (λ p. p.0)) (ok.found l k h.0 h.1)))) (none_or_some (value_in (list_at f l) k)) in
      ap (λ t. get_or t l []) e ∙ get_or-map_nil (without_node k) refl f.lists l ∙ without_node_none k (list_at f l) none
