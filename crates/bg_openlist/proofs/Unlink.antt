-- The block after a node was removed from its list.
use Rattle.std.proofs.Common.{◌≡◌, ℕ, ◌+◌, ◌-◌, ◌<◌, ◌≤◌, List, ◌∷◌, ◌++◌, length, get_or, set, map, sym, ap, ◌∙◌, arith, None, Option, length-append, length-set}
use Rattle.std.specs.Prelude.{◌≢◌}
use mathlib.Core.Path.{subst}
use mathlib.Core.Logic.{⊎_elim}
use Rattle.std.proofs.lemmas.List.{get_or-set_same, get_or-set_other, get_or_past}
use Rattle.std.proofs.lemmas.Bool.Decides.{leb_tells}
use Rattle.std_alloc.specs.declared.vec.Vec.{Vec}
use Rattle.bg_openlist.specs.declared.nodes.Node.{Node}
use Rattle.bg_openlist.specs.Block.{HoldsLists, family_of, pairs_of, seen_of}
use Rattle.bg_openlist.specs.Distinct.{Distinct}
use Rattle.bg_openlist.specs.Family.{places, without_node}
use Rattle.bg_openlist.specs.Nodes.{AllLinked, nexts, prevs, tags, values}
use Rattle.bg_openlist.specs.Rings.{walk}
use Rattle.bg_openlist.specs.Tables.{table}
use Rattle.bg_openlist.proofs.Cases.{none_some, same_or_not}
use Rattle.bg_openlist.proofs.Columns.{columns, holds_now, length-nexts, length-prevs, length-values}
use Rattle.bg_openlist.proofs.Lists as lists
use Rattle.bg_openlist.proofs.Lists.{fresh_by_tag}
use Rattle.bg_openlist.proofs.Pairs.{pairs-append, pairs_keep, value_none, without_node_here, without_node_none}
use Rattle.bg_openlist.proofs.Rings.{distinct_at, walk_is}
use Rattle.bg_openlist.proofs.Seen.{Linked, beside, length-walk, none_after, none_before, places_change, row_is}
use Rattle.bg_openlist.proofs.Tables.{map-table, table_same}

module _ {X Z : Type 0} {s : ℕ} {nodes : Vec (Node X) Z} {lens : List ℕ} {inv : HoldsLists s nodes lens} {k : ℕ} (w : Linked inv k) where
  open columns nodes lens use {nx, vs, fam}

  count : get_or lens w.list 0 ≡ length w.place.before + 1 + length w.place.after
  count = sym (length-walk nx (get_or lens w.list 0) w.list) ∙ ap length w.place.is ∙ length-append w.place.before ((64 + k) ∷ w.place.after) ∙ omega arith

  pub within : 64 + k < nodes.len
  within = ⊎_elim (λ h. absurd (none_some w.value (sym (get_or_past vs (64 + k) None (omega (arith, length-values nodes, h.1))) ∙ w.held))) (λ h. h.1) (leb_tells nodes.len (64 + k))

module _ {X Z : Type 0} where
  -- the neighbours of the linked node k are linked to each other, and the node is emptied; l is its list
  pub record Parted {s : ℕ} {nodes : Vec (Node X) Z} {lens : List ℕ} (inv : HoldsLists s nodes lens) (k l : ℕ) (nodes' : Vec (Node X) Z) : Type 0 where
    pub was : Linked inv k
    pub is_list : l ≡ was.list
    pub linked : AllLinked s nodes'
    pub len : nodes'.len ≡ nodes.len
    pub near : (get_or (prevs nodes.items) (64 + k) 0 < nodes.len) × (get_or (nexts nodes.items) (64 + k) 0 < nodes.len)
    pub next : nexts nodes'.items ≡ set (nexts nodes.items) (get_or (prevs nodes.items) (64 + k) 0) (get_or (nexts nodes.items) (64 + k) 0)
    pub prev : prevs nodes'.items ≡ set (prevs nodes.items) (get_or (nexts nodes.items) (64 + k) 0) (get_or (prevs nodes.items) (64 + k) 0)
    pub tag : tags nodes'.items ≡ tags nodes.items
    pub value : values nodes'.items ≡ set (values nodes.items) (64 + k) None

module _ {X Z : Type 0} {s : ℕ} {nodes : Vec (Node X) Z} {lens : List ℕ} {inv : HoldsLists s nodes lens} {k l : ℕ} {nodes' : Vec (Node X) Z} (parted : Parted inv k l nodes') where
  open columns nodes lens use {nx, pv, tg, vs, fam, row}
  open parted use {was as w, is_list}
  open w use {list as m}

  pub low : l < 64
  low = omega (arith, is_list, w.low)

  pub counted : 1 ≤ get_or lens l 0
  counted = omega (arith, count w, ap (λ j. get_or lens j 0) is_list)

  abbrev nx' : List ℕ
  nx' = set nx (get_or pv (64 + k) 0) (get_or nx (64 + k) 0)

  abbrev pv' : List ℕ
  pv' = set pv (get_or nx (64 + k) 0) (get_or pv (64 + k) 0)

  abbrev vs' : List (Option X)
  vs' = set vs (64 + k) None

  abbrev lens' : List ℕ
  lens' = set lens l (get_or lens l 0 - 1)

  abbrev fam' : ℕ → List ℕ
  fam' j = walk nx' (get_or lens' j 0) j

  abbrev before : get_or pv (64 + k) 0 < length nx
  before = omega (arith, parted.near.0, length-nexts nodes)

  abbrev after : get_or nx (64 + k) 0 < length pv
  after = omega (arith, parted.near.1, length-prevs nodes)

  abbrev inside : 64 + k < length vs
  inside = omega (arith, length-values nodes, within w)

  at_m : fam' m ≡ w.place.before ++ w.place.after
  at_m =
      let long = inv.count in
      let here : get_or lens' m 0 ≡ get_or lens m 0 - 1 = ap (λ j. get_or (set lens j (get_or lens j 0 - 1)) m 0) is_list ∙ get_or-set_same lens m (get_or lens m 0 - 1) 0 (omega (arith, w.low)) in
      let n : get_or lens' m 0 ≡ length (w.place.before ++ w.place.after) = here ∙ omega (arith, count w, length-append w.place.before w.place.after) in
      walk_is nx' pv' m (w.place.before ++ w.place.after) m (get_or lens' m 0) n (lists.here inv.lists w.low w.tagged w.place inside before after).path

  at_j : (j : ℕ) → j < 64 → (j ≢ m) → fam' j ≡ fam j
  at_j j lt n =
      let same : get_or lens' j 0 ≡ length (fam j) = get_or-set_other lens l j (get_or lens l 0 - 1) 0 (λ e. n (e ∙ is_list)) ∙ sym (length-walk nx (get_or lens j 0) j) in
      walk_is nx' pv' j (fam j) j (get_or lens' j 0) same (lists.there inv.lists w.low w.tagged w.place inside before after j lt n).path

  pub holds_after : HoldsLists s nodes' lens'
  holds_after =
      holds_now inv nx' pv' tg vs' lens' parted.linked parted.len parted.next parted.prev parted.tag parted.value (length-set lens l (get_or lens l 0 - 1))
      (lists.taken_out inv.lists w.low w.tagged w.place inside before after fam' at_m at_j)

  row_after : (j : ℕ) → j < 64 → pairs_of vs' (fam' j) ≡ without_node k (row j)
  row_after j lt =
      ⊎_elim
      (λ same.
      let apart = distinct_at w.place.before (64 + k) w.place.after (subst Distinct w.place.is (inv.lists.each m w.low).once) in
      ap (λ i. pairs_of vs' (fam' i)) same ∙ ap (pairs_of vs') at_m ∙ pairs_keep vs (64 + k) None (w.place.before ++ w.place.after) apart ∙ pairs-append vs w.place.before w.place.after
      ∙ sym (without_node_here k w.value (pairs_of vs w.place.before) (pairs_of vs w.place.after) (none_before inv w) (none_after inv w)) ∙ ap (without_node k) (sym (row_is inv w)) ∙ ap (λ i. without_node k (row i)) (sym same))
      (λ other.
      let fresh = fresh_by_tag tg vs j (64 + k) (λ e. other (sym e ∙ w.tagged)) (fam j) (inv.lists.each j lt).nodes in
      ap (pairs_of vs') (at_j j lt other) ∙ pairs_keep vs (64 + k) None (fam j) fresh ∙ sym (without_node_none k (row j) (value_none tg vs j k (fam j) (inv.lists.each j lt).nodes fresh)))
      (same_or_not j m)

  pub lists_after : seen_of nodes'.items lens' ≡ map (without_node k) (seen_of nodes.items lens)
  lists_after =
      (λ i. table (λ j. pairs_of (parted.value i) (walk (parted.next i) (get_or lens' j 0) j)) 0 64)
      ∙ table_same (λ j. without_node k (row j)) (λ j. pairs_of vs' (fam' j)) 0 64 (λ j le lt. row_after j lt) ∙ sym (map-table (without_node k) row 0 64)

  -- what the block has of each node
  pub places_after : places (family_of nodes' lens') ≡ set (places (family_of nodes lens)) k None
  places_after =
      places_change inv holds_after k None parted.len (omega (arith, within w))
      (ap (beside (get_or (tags nodes'.items) (64 + k) 0)) (ap (λ t. get_or t (64 + k) None) parted.value ∙ get_or-set_same vs (64 + k) None None inside))
      (λ j n. λ i. beside (get_or (parted.tag i) (64 + j) 0) ((ap (λ t. get_or t (64 + j) None) parted.value ∙ get_or-set_other vs (64 + k) (64 + j) None None (λ e. n (omega arith))) i))
