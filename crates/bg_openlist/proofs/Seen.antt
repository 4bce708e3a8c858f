-- What callers see of a block that holds the lists.
use Rattle.std.proofs.Common.{◌≡◌, ℕ, ◌+◌, ◌-◌, ◌<◌, ◌≤◌, true, List, [], ◌∷◌, ◌++◌, length, get_or, set, slice_get, refl, sym, ap, ◌∙◌, arith, Some, None, Option}
use Prim.Native.Nat.{zero, suc}
use Rattle.std.specs.Prelude.{◌≢◌, is_some, option_map, option_and_then}
use mathlib.Core.Path.{subst}
use mathlib.Core.Logic.{⊎_elim}
use Rattle.std.proofs.lemmas.Bool.Decides.{leb_tells}
use Rattle.std.proofs.lemmas.List.{get_or_past}
use Rattle.std_alloc.specs.declared.vec.Vec.{Vec}
use Rattle.bg_openlist.specs.declared.nodes.Node.{Node}
use Rattle.bg_openlist.specs.Block.{AreNodes, HoldsLists, family_of, pairs_of, seen_of}
use Rattle.bg_openlist.specs.Distinct.{Fresh, Distinct}
use Rattle.bg_openlist.specs.Family.{Family, IsFamily, following, is_linked, list_at, next_of, place_among, place_of, places, value_in}
use Rattle.bg_openlist.specs.Rings.{Path, walk}
use Rattle.bg_openlist.specs.Tables.{table}
use Rattle.bg_openlist.proofs.Cases.{none_or_some, none_some, none_true, same_or_not}
use Rattle.bg_openlist.proofs.Columns.{columns, length-values}
use Rattle.bg_openlist.proofs.Lists.{CutAt, cut_at, fresh_by_free, fresh_by_tag, nodes_front, nodes_back}
use Rattle.bg_openlist.proofs.Names.{all_at, distinct_seen, once}
use Rattle.bg_openlist.proofs.Pairs.{first_pair, following_here, pair_is, pairs-append, value_here, value_none}
use Rattle.bg_openlist.proofs.Placing.{place_here, place_none}
use Rattle.bg_openlist.proofs.Rings.{distinct_at, first_of, fresh_back, fresh_front, sides, starts}
use Rattle.bg_openlist.proofs.Tables.{get_or-table, length-table, table-set, table_same}

pub length-walk : (nx : List ℕ) (n a : ℕ) → length (walk nx n a) ≡ n
length-walk nx zero a = refl
length-walk nx (suc n) a = ap (λ k. suc k) (length-walk nx n (get_or nx a 0))

module _ {X : Type 0} where
  length-pairs : (tg : List ℕ) (vs : List (Option X)) (l : ℕ) (ks : List ℕ) → AreNodes tg vs l ks → length (pairs_of vs ks) ≡ length ks
  length-pairs tg vs l [] b = refl
  length-pairs tg vs l (k ∷ ks) b = ap length (first_pair tg vs l k ks b.0) ∙ ap (λ n. suc n) (length-pairs tg vs l ks b.1)

  -- a node with its value
  abbrev pub beside : ℕ → Option X → Option (ℕ × X)
  beside n o = option_map (λ x. (n, x)) o

  -- the first pair of a list is the pair of the node after its head
  first_shown : (tg : List ℕ) (vs : List (Option X)) (l : ℕ) (ks : List ℕ) → AreNodes tg vs l ks → (h : ℕ) → get_or vs h None ≡ None → slice_get (pairs_of vs ks) 0 ≡ beside (first_of ks h - 64) (get_or vs (first_of ks h) None)
  first_shown tg vs l [] b h e = sym (ap (beside (h - 64)) e)
  first_shown tg vs l (k ∷ ks) b h e = ap (λ ps. slice_get ps 0) (first_pair tg vs l k ks b.0) ∙ sym (ap (beside (k - 64)) b.0.held)

  -- a pair that was found, and its node
  pub beside_same : (n : ℕ) (o : Option X) (i : ℕ) (x : X) → beside i (Some x) ≡ beside n o → (i ≡ n) × (o ≡ Some x)
  beside_same n None i x e = absurd (none_some (i, x) (sym e))
  beside_same n (Some y) i x e = let had : ℕ × X = (i, x) in let want : ℕ × X = (n, y) in let pair : had ≡ want = cc in (ap (λ p. p.0) pair, ap (λ p. Some p.1) (sym pair))

module _ {X Z : Type 0} {s : ℕ} {nodes : Vec (Node X) Z} {lens : List ℕ} (inv : HoldsLists s nodes lens) where
  open columns nodes lens use {nx, pv, tg, vs, fam, row}

  abbrev view : Family X
  view = family_of nodes lens

  pub row_at : (l : ℕ) → l < 64 → list_at view l ≡ row l
  row_at l low = let same : 0 + l ≡ l = omega arith in get_or-table row 0 64 l [] low ∙ ap row same

  pub row_past : (l : ℕ) → 64 ≤ l → list_at view l ≡ []
  row_past l high = get_or_past (seen_of nodes.items lens) l [] (omega (arith, length-table row 0 64))

  pub len_is : (l : ℕ) → l < 64 → get_or lens l 0 ≡ length (list_at view l)
  len_is l low = sym (ap length (row_at l low) ∙ length-pairs tg vs l (fam l) (inv.lists.each l low).nodes ∙ length-walk nx (get_or lens l 0) l)

  -- the place of a linked node
  pub record Linked (k : ℕ) : Type 0 where
    pub list : ℕ
    pub value : X
    pub low : list < 64
    pub tagged : get_or tg (64 + k) 0 ≡ list
    pub held : get_or vs (64 + k) None ≡ Some value
    pub place : CutAt (64 + k) (fam list)

  pub holds : (k : ℕ) (x : X) → get_or vs (64 + k) None ≡ Some x → Linked k
  holds k x e =
      let old = inv.lists.every (64 + k) x (omega arith) e in
      record { list = get_or tg (64 + k) 0; value = x; low = old.0; tagged = refl; held = e; place = cut_at (64 + k) (fam (get_or tg (64 + k) 0)) old.1 }

  -- what the block has of a node
  abbrev pub stored : ℕ → Option (ℕ × X)
  stored k = beside (get_or tg (64 + k) 0) (get_or vs (64 + k) None)

  module _ {k : ℕ} (w : Linked k) where
    abbrev ps : List (ℕ × X)
    ps = pairs_of vs w.place.before

    abbrev qs : List (ℕ × X)
    qs = pairs_of vs w.place.after

    was : AreNodes tg vs w.list (w.place.before ++ (64 + k) ∷ w.place.after)
    was = subst (AreNodes tg vs w.list) w.place.is (inv.lists.each w.list w.low).nodes

    apart : Fresh (64 + k) (w.place.before ++ w.place.after)
    apart = distinct_at w.place.before (64 + k) w.place.after (subst Distinct w.place.is (inv.lists.each w.list w.low).once)

    pub none_before : value_in ps k ≡ None
    none_before = value_none tg vs w.list k w.place.before (nodes_front tg vs w.list w.place.before ((64 + k) ∷ w.place.after) was) (fresh_front (64 + k) w.place.before w.place.after apart)

    pub none_after : value_in qs k ≡ None
    none_after = value_none tg vs w.list k w.place.after (nodes_back tg vs w.list w.place.before (64 + k) w.place.after was) (fresh_back (64 + k) w.place.before w.place.after apart)

    pub row_is : row w.list ≡ ps ++ (k, w.value) ∷ qs
    row_is = ap (pairs_of vs) w.place.is ∙ pairs-append vs w.place.before ((64 + k) ∷ w.place.after) ∙ ap (λ t. ps ++ (t ++ qs)) (pair_is vs k w.value w.held)

    value_own : value_in (row w.list) k ≡ Some w.value
    value_own = ap (λ l. value_in l k) row_is ∙ value_here k w.value ps qs none_before

    pub stored_own : stored k ≡ Some (w.list, w.value)
    stored_own = ap (beside (get_or tg (64 + k) 0)) w.held ∙ ap (λ l. beside l (Some w.value)) w.tagged

    next_own : following (row w.list) k ≡ beside (get_or nx (64 + k) 0 - 64) (get_or vs (get_or nx (64 + k) 0) None)
    next_own =
        let n : get_or nx (64 + k) 0 ≡ first_of w.place.after w.list = (sides nx pv w.list w.place.before (64 + k) w.place.after w.list (subst (λ ks. Path nx pv w.list ks w.list) w.place.is (inv.lists.each w.list w.low).path)).1 in
        ap (λ l. following l k) row_is ∙ following_here k w.value ps qs none_before
        ∙ first_shown tg vs w.list w.place.after (nodes_back tg vs w.list w.place.before (64 + k) w.place.after was) w.list (inv.lists.heads w.list w.low)
        ∙ ap (λ j. beside (j - 64) (get_or vs j None)) (sym n)

  value_free : (l k : ℕ) → l < 64 → get_or vs (64 + k) None ≡ None → value_in (row l) k ≡ None
  value_free l k low e = value_none tg vs l k (fam l) (inv.lists.each l low).nodes (fresh_by_free tg vs l (64 + k) e (fam l) (inv.lists.each l low).nodes)

  value_other : (l k : ℕ) → l < 64 → (get_or tg (64 + k) 0 ≢ l) → value_in (row l) k ≡ None
  value_other l k low n = value_none tg vs l k (fam l) (inv.lists.each l low).nodes (fresh_by_tag tg vs l (64 + k) n (fam l) (inv.lists.each l low).nodes)

  place_stored : (k : ℕ) → place_among (seen_of nodes.items lens) 0 k ≡ stored k
  place_stored k =
      ⊎_elim
      (λ e. place_none row k 0 64 (λ j le lt. value_free j k lt e) ∙ sym (ap (beside (get_or tg (64 + k) 0)) e))
      (λ h.
      let w = holds k h.0 h.1 in let low = w.low in
      place_here row k 0 64 w.list w.value (omega arith) (omega arith) (value_own w) (λ j le lt n. value_other j k lt (λ e. n (sym e ∙ w.tagged))) ∙ sym (stored_own w))
      (none_or_some (get_or vs (64 + k) None))

  pub places_are : places view ≡ table stored 0 (nodes.len - 64)
  places_are = table_same stored (place_among (seen_of nodes.items lens) 0) 0 (nodes.len - 64) (λ j le lt. place_stored j)

  -- a node beyond the block is free
  stored_past : (k : ℕ) → nodes.len - 64 ≤ k → stored k ≡ None
  stored_past k le =
      let size = inv.size in
      ap (beside (get_or tg (64 + k) 0)) (get_or_past vs (64 + k) None (omega (arith, length-values nodes)))

  pub place_past : (k : ℕ) → nodes.len - 64 ≤ k → place_of view k ≡ None
  place_past k le = get_or_past (places view) k None (omega (arith, length-table (place_among (seen_of nodes.items lens) 0) 0 (nodes.len - 64)))

  pub place_is : (k : ℕ) → place_of view k ≡ stored k
  place_is k =
      ⊎_elim (λ h. place_past k h.1 ∙ sym (stored_past k h.1))
      (λ h. let same : 0 + k ≡ k = omega arith in ap (λ l. get_or l k None) places_are ∙ get_or-table stored 0 (nodes.len - 64) k None h.1 ∙ ap stored same)
      (leb_tells (nodes.len - 64) k)

  -- a linked node, by the test that callers know
  pub linked : (k : ℕ) → is_linked view k ≡ true → Linked k
  linked k e =
      ⊎_elim
      (λ free. absurd (none_true (sym (ap is_some (place_is k ∙ ap (beside (get_or tg (64 + k) 0)) free)) ∙ e)))
      (λ h. holds k h.0 h.1)
      (none_or_some (get_or vs (64 + k) None))

  -- the pair at the front of a list, and the one after a linked node
  pub front_is : (l : ℕ) → l < 64 → slice_get (list_at view l) 0 ≡ beside (get_or nx l 0 - 64) (get_or vs (get_or nx l 0) None)
  front_is l low =
      let h = inv.lists.each l low in
      ap (λ ps. slice_get ps 0) (row_at l low) ∙ first_shown tg vs l (fam l) h.nodes l (inv.lists.heads l low) ∙ ap (λ j. beside (j - 64) (get_or vs j None)) (sym (starts nx pv l (fam l) l h.path))

  pub next_is : (k : ℕ) (w : Linked k) → next_of view k ≡ beside (get_or nx (64 + k) 0 - 64) (get_or vs (get_or nx (64 + k) 0) None)
  next_is k w =
      ap (λ o. option_and_then (λ l. following (list_at view l) k) (option_map (λ p. p.0) o)) (place_is k ∙ stored_own w) ∙ ap (λ ps. following ps k) (row_at w.list w.low) ∙ next_own w

  found : (l k : ℕ) (x : X) → value_in (list_at view l) k ≡ Some x → place_of view k ≡ Some (l, x)
  found l k x e =
      ⊎_elim
      (λ h. absurd (none_some x (ap (λ ps. value_in ps k) (sym (row_past l h.1)) ∙ e)))
      (λ h.
      let low = h.1 in let here : value_in (row l) k ≡ Some x = ap (λ ps. value_in ps k) (sym (row_at l low)) ∙ e in
      ⊎_elim
      (λ free. absurd (none_some x (sym (value_free l k low free) ∙ here)))
      (λ t.
      let w = holds k t.0 t.1 in
      ⊎_elim
      (λ same. let x_is : Some w.value ≡ Some x = sym (value_own w) ∙ ap (λ j. value_in (row j) k) same ∙ here in place_is k ∙ stored_own w ∙ (λ i. beside (same i) (x_is i)))
      (λ other. absurd (none_some x (sym (value_other l k low (λ e'. other (sym w.tagged ∙ e'))) ∙ here)))
      (same_or_not w.list l))
      (none_or_some (get_or vs (64 + k) None)))
      (leb_tells 64 l)

  held : (l k : ℕ) (x : X) → place_of view k ≡ Some (l, x) → (l < 64) × (k < nodes.len - 64) × (value_in (list_at view l) k ≡ Some x)
  held l k x e =
      let s : beside l (Some x) ≡ stored k = sym e ∙ place_is k in
      let h = beside_same (get_or tg (64 + k) 0) (get_or vs (64 + k) None) l x s in
      let w = holds k x h.1 in
      let at : l ≡ w.list = h.0 ∙ w.tagged in let low : l < 64 = subst (λ j. j < 64) (sym at) w.low in (
        low,
        ⊎_elim (λ p. absurd (none_some (l, x) (sym (place_past k p.1) ∙ e))) (λ p. p.1) (leb_tells (nodes.len - 64) k),
        ap (λ j. value_in (list_at view j) k) at ∙ ap (λ ps. value_in ps k) (row_at w.list w.low) ∙ value_own w ∙ (sym w.held ∙ h.1),
      )

  pub family : IsFamily view
  family = record {
    size = (omega (arith, inv.size), omega (arith, inv.size));
    count = (length-table row 0 64, length-table (place_among (seen_of nodes.items lens) 0) 0 (nodes.len - 64));
    once = (once (λ j. get_or tg (64 + j) 0) row 0 64 (λ j le lt. (distinct_seen tg vs j (fam j) (inv.lists.each j lt).nodes (inv.lists.each j lt).once, all_at tg vs j (fam j) (inv.lists.each j lt).nodes))).0;
    found = found;
    held = held;
  }

-- the place of one node changes, and no other place
pub places_change : {X Z : Type 0} {s : ℕ} {nodes nodes' : Vec (Node X) Z} {lens lens' : List ℕ} (old : HoldsLists s nodes lens) (new : HoldsLists s nodes' lens') (k : ℕ) (place : Option (ℕ × X))
    → nodes'.len ≡ nodes.len → k < nodes.len - 64 → stored new k ≡ place → ((j : ℕ) → (j ≢ k) → stored new j ≡ stored old j) → places (family_of nodes' lens') ≡ set (places (family_of nodes lens)) k place
places_change {nodes = nodes} old new k place len within here others =
    let at_k : 0 + k ≡ k = omega arith in
    places_are new ∙ ap (λ n. table (stored new) 0 (n - 64)) len
    ∙ table-set (stored old) (stored new) 0 (nodes.len - 64) k place within (ap (stored new) at_k ∙ here) (λ j le lt n. others j (λ e. n (e ∙ sym at_k)))
    ∙ ap (λ l. set l k place) (sym (places_are old))
