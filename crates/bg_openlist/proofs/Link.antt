-- The block after a node was appended to a list.
use Rattle.std.proofs.Common.{◌≡◌, ℕ, ◌+◌, ◌-◌, ◌<◌, ◌≤◌, List, [], ◌∷◌, ◌++◌, length, get_or, set, refl, sym, ap, ◌∙◌, arith, Some, None, Option, length-append, length-set}
use Rattle.std.specs.Prelude.{◌≢◌}
use mathlib.Core.Path.{subst}
use mathlib.Core.Logic.{inl, inr, ⊎_elim}
use Rattle.std.proofs.lemmas.List.{get_or-set_same, get_or-set_other, get_or_past}
use Rattle.std.proofs.lemmas.Bool.Decides.{leb_tells}
use Rattle.std_alloc.specs.declared.vec.Vec.{Vec}
use Rattle.bg_openlist.specs.declared.nodes.Node.{Node}
use Rattle.bg_openlist.specs.Block.{AreLists, AreNodes, HoldsLists, IsIn, IsList, IsNode, family_of, pairs_of, seen_of}
use Rattle.bg_openlist.specs.Distinct.{Fresh}
use Rattle.bg_openlist.specs.Family.{list_at, places}
use Rattle.bg_openlist.specs.Nodes.{AllLinked, nexts, prevs, tags, values}
use Rattle.bg_openlist.specs.Rings.{Path, walk}
use Rattle.bg_openlist.specs.Tables.{table}
use Rattle.bg_openlist.proofs.Cases.{none_some, same_or_not}
use Rattle.bg_openlist.proofs.Columns.{columns, holds_now, length-nexts, length-prevs, length-tags, length-values}
use Rattle.bg_openlist.proofs.Counting.{Below, fits_below}
use Rattle.bg_openlist.proofs.Lists.{Near, fresh_by_free, fresh_by_low, near_apart, near_fresh, near_last, nodes_keeps}
use Rattle.bg_openlist.proofs.Pairs.{pair_is, pairs-append, pairs_keep}
use Rattle.bg_openlist.proofs.Rings.{distinct_push, frame, last_from, last_is, push, walk_is}
use Rattle.bg_openlist.proofs.Seen.{beside, length-walk, places_change, row_at}
use Rattle.bg_openlist.proofs.Tables.{table-set}

in_left : (x : ℕ) (ks : List ℕ) (k : ℕ) → IsIn x ks → IsIn x (ks ++ k ∷ [])
in_left x [] k h = absurd h
in_left x (y ∷ ys) k h = ⊎_elim (λ e. inl e) (λ t. inr (in_left x ys k t)) h

in_last : (ks : List ℕ) (k : ℕ) → IsIn k (ks ++ k ∷ [])
in_last [] k = inl refl
in_last (y ∷ ys) k = inr (in_last ys k)

module _ {X : Type 0} where
  nodes_push : (tg : List ℕ) (vs : List (Option X)) (l : ℕ) (ks : List ℕ) (k : ℕ) → AreNodes tg vs l ks → IsNode tg vs l k → AreNodes tg vs l (ks ++ k ∷ [])
  nodes_push tg vs l [] k b n = (n, tt)
  nodes_push tg vs l (y ∷ ys) k b n = (b.0, nodes_push tg vs l ys k b.1 n)

  nodes_below : (tg : List ℕ) (vs : List (Option X)) (l : ℕ) (ks : List ℕ) → AreNodes tg vs l ks → Below (length vs) ks
  nodes_below tg vs l [] b = tt
  nodes_below tg vs l (k ∷ ks) b = (⊎_elim (λ h. absurd (none_some b.0.item (sym (get_or_past vs k None h.1) ∙ b.0.held))) (λ h. h.1) (leb_tells (length vs) k), nodes_below tg vs l ks b.1)

module _ {X Z : Type 0} where
  -- the free node i is filled, and linked to the head of list m and to the node before the head
  pub record Joined {s : ℕ} {nodes : Vec (Node X) Z} {lens : List ℕ} (inv : HoldsLists s nodes lens) (m i : ℕ) (v : X) (nodes' : Vec (Node X) Z) : Type 0 where
    pub low : m < 64
    pub within : i < nodes.len - 64
    pub free : get_or (values nodes.items) (64 + i) None ≡ None
    pub linked : AllLinked s nodes'
    pub len : nodes'.len ≡ nodes.len
    pub near : get_or (prevs nodes.items) m 0 < nodes.len
    pub next : nexts nodes'.items ≡ set (set (nexts nodes.items) (64 + i) m) (get_or (prevs nodes.items) m 0) (64 + i)
    pub prev : prevs nodes'.items ≡ set (set (prevs nodes.items) (64 + i) (get_or (prevs nodes.items) m 0)) m (64 + i)
    pub tag : tags nodes'.items ≡ set (tags nodes.items) (64 + i) m
    pub value : values nodes'.items ≡ set (values nodes.items) (64 + i) (Some v)

module _ {X Z : Type 0} {s : ℕ} {nodes : Vec (Node X) Z} {lens : List ℕ} {inv : HoldsLists s nodes lens} {m i : ℕ} {v : X} {nodes' : Vec (Node X) Z} (joined : Joined inv m i v nodes') where
  open columns nodes lens use {nx, pv, tg, vs, fam, row}
  open joined use {low, within}

  abbrev k : ℕ
  k = 64 + i

  -- a list is at most as long as the block
  pub short : get_or lens m 0 ≤ nodes.len
  short = let h = inv.lists.each m low in omega (arith, length-values nodes, length-walk nx (get_or lens m 0) m, fits_below (length vs) (fam m) h.once (nodes_below tg vs m (fam m) h.nodes))

  abbrev p : ℕ
  p = get_or pv m 0

  abbrev nx1 : List ℕ
  nx1 = set nx k m

  abbrev pv1 : List ℕ
  pv1 = set pv k p

  abbrev nx' : List ℕ
  nx' = set nx1 p k

  abbrev pv' : List ℕ
  pv' = set pv1 m k

  abbrev tg' : List ℕ
  tg' = set tg k m

  abbrev vs' : List (Option X)
  vs' = set vs k (Some v)

  abbrev lens' : List ℕ
  lens' = set lens m (get_or lens m 0 + 1)

  abbrev fam' : ℕ → List ℕ
  fam' l = walk nx' (get_or lens' l 0) l

  in_nx : k < length nx
  in_nx = omega (arith, within, length-nexts nodes)

  in_pv : k < length pv
  in_pv = omega (arith, within, length-prevs nodes)

  in_tg : k < length tg
  in_tg = omega (arith, within, length-tags nodes)

  in_vs : k < length vs
  in_vs = omega (arith, within, length-values nodes)

  last : p < length nx
  last = omega (arith, joined.near, length-nexts nodes)

  apart : (l : ℕ) → l < 64 → l ≢ k
  apart l lt e = absurd (omega arith)

  was : IsList nx pv tg vs m (fam m)
  was = inv.lists.each m low

  fresh : (l : ℕ) → l < 64 → Fresh k (fam l)
  fresh l lt = fresh_by_free tg vs l k joined.free (fam l) (inv.lists.each l lt).nodes

  p_is : p ≡ last_from m (fam m)
  p_is = last_is nx pv m (fam m) m was.path

  p_near : Near tg m p
  p_near = subst (Near tg m) (sym p_is) (near_last tg vs m m (fam m) (inl refl) was.nodes)

  others : (y : ℕ) → (y ≢ k) → (get_or tg' y 0 ≡ get_or tg y 0) × (get_or vs' y None ≡ get_or vs y None)
  others y n = (get_or-set_other tg k y m 0 n, get_or-set_other vs k y (Some v) None n)

  abbrev node : IsNode tg' vs' m k
  node = record { high = omega arith; list = get_or-set_same tg k m 0 in_tg; item = v; held = get_or-set_same vs k (Some v) None in_vs }

  here : IsList nx' pv' tg' vs' m (fam m ++ k ∷ [])
  here =
      let heads = fresh_by_low tg vs m m low (fam m) was.nodes in
      let framed = frame nx pv k m k p m (fam m) m was.path (apart m low) (fresh m low) (fresh m low) (apart m low) in
      let put = push nx1 pv1 m (fam m) k m framed (get_or-set_same nx k m 0 in_nx) (get_or-set_same pv k p 0 in_pv ∙ p_is) heads was.once heads (fresh m low) (apart m low) (apart m low)
      (omega (arith, length-set nx k m, p_is, last)) (omega (arith, length-set pv k p, in_pv, low)) in
      record {
        path = subst (λ (j : ℕ). Path (set nx1 j k) pv' m (fam m ++ k ∷ []) m) (sym p_is) put;
        once = distinct_push (fam m) k was.once (fresh m low);
        nodes = nodes_push tg' vs' m (fam m) k (nodes_keeps tg tg' vs vs' k m others (fam m) was.nodes (fresh m low)) node;
      }

  there : (l : ℕ) → l < 64 → (l ≢ m) → IsList nx' pv' tg' vs' l (fam l)
  there l lt n =
      let h = inv.lists.each l lt in
      let framed = frame nx pv k m k p l (fam l) l h.path (apart l lt) (fresh l lt) (fresh l lt) (apart l lt) in
      record {
        path = frame nx1 pv1 p k m k l (fam l) l framed (near_apart tg m l p lt n p_near) (near_fresh tg vs m l p low n p_near (fam l) h.nodes) (fresh_by_low tg vs l m low (fam l) h.nodes) n;
        once = h.once;
        nodes = nodes_keeps tg tg' vs vs' k l others (fam l) h.nodes (fresh l lt);
      }

  at_m : fam' m ≡ fam m ++ k ∷ []
  at_m =
      let long = inv.count in
      let n : get_or lens' m 0 ≡ length (fam m ++ k ∷ []) = get_or-set_same lens m (get_or lens m 0 + 1) 0 (omega arith) ∙ omega (arith, length-walk nx (get_or lens m 0) m, length-append (fam m) (k ∷ [])) in
      walk_is nx' pv' m (fam m ++ k ∷ []) m (get_or lens' m 0) n here.path

  at_l : (l : ℕ) → l < 64 → (l ≢ m) → fam' l ≡ fam l
  at_l l lt n =
      let same : get_or lens' l 0 ≡ length (fam l) = get_or-set_other lens m l (get_or lens m 0 + 1) 0 n ∙ sym (length-walk nx (get_or lens l 0) l) in
      walk_is nx' pv' l (fam l) l (get_or lens' l 0) same (there l lt n).path

  put_in : AreLists nx' pv' tg' vs' fam'
  put_in = record {
    each = λ l lt. ⊎_elim (λ e. subst (λ (j : ℕ). IsList nx' pv' tg' vs' j (fam' j)) (sym e) (subst (IsList nx' pv' tg' vs' m) (sym at_m) here)) (λ n. subst (IsList nx' pv' tg' vs' l) (sym (at_l l lt n)) (there l lt n)) (same_or_not l m);
    every = λ j y hi e. ⊎_elim
        (λ same. let t : get_or tg' j 0 ≡ m = ap (λ n. get_or tg' n 0) same ∙ get_or-set_same tg k m 0 in_tg in
        (omega arith, subst (λ (n : ℕ × ℕ). IsIn n.0 (fam' n.1)) (λ q. (sym same q, sym t q)) (subst (IsIn k) (sym at_m) (in_last (fam m) k))))
        (λ off.
        let o = others j off in
        let old = inv.lists.every j y hi (sym o.1 ∙ e) in
        let lt : get_or tg j 0 < 64 = old.0 in
        let now : IsIn j (fam' (get_or tg j 0)) = ⊎_elim (λ same. subst (IsIn j) (sym (ap fam' same ∙ at_m)) (in_left j (fam m) k (subst (IsIn j) (ap fam same) old.1))) (λ n. subst (IsIn j) (sym (at_l (get_or tg j 0) lt n)) old.1) (same_or_not (get_or tg j 0) m) in
        subst (λ (n : ℕ). (n < 64) × IsIn j (fam' n)) (sym o.0) (lt, now))
        (same_or_not j k);
    heads = λ l lt. (others l (apart l lt)).1 ∙ inv.lists.heads l lt;
  }

  pub holds_linked : HoldsLists s nodes' lens'
  holds_linked = holds_now inv nx' pv' tg' vs' lens' joined.linked joined.len joined.next joined.prev joined.tag joined.value (length-set lens m (get_or lens m 0 + 1)) put_in

  pub lists_linked : seen_of nodes'.items lens' ≡ set (seen_of nodes.items lens) m (list_at (family_of nodes lens) m ++ (i, v) ∷ [])
  lists_linked =
      let zero_m : 0 + m ≡ m = omega arith in
      let one : pairs_of vs' (k ∷ []) ≡ (i, v) ∷ [] = ap (λ ps. ps ++ []) (pair_is vs' i v node.held) in
      (λ j. table (λ l. pairs_of (joined.value j) (walk (joined.next j) (get_or lens' l 0) l)) 0 64)
      ∙ table-set row (λ l. pairs_of vs' (fam' l)) 0 64 m (row m ++ (i, v) ∷ []) low
      (ap (λ l. pairs_of vs' (fam' l)) zero_m ∙ ap (pairs_of vs') at_m ∙ pairs-append vs' (fam m) (k ∷ []) ∙ (λ j. pairs_keep vs k (Some v) (fam m) (fresh m low) j ++ one j))
      (λ j le lt n0. let n : j ≢ m = λ e. n0 (e ∙ sym zero_m) in ap (pairs_of vs') (at_l j lt n) ∙ pairs_keep vs k (Some v) (fam j) (fresh j lt))
      ∙ ap (λ t. set (seen_of nodes.items lens) m (t ++ (i, v) ∷ [])) (sym (row_at inv m low))

  -- what the block has of each node
  pub places_linked : places (family_of nodes' lens') ≡ set (places (family_of nodes lens)) i (Some (m, v))
  places_linked =
      places_change inv holds_linked i (Some (m, v)) joined.len within
      (λ j. beside ((ap (λ t. get_or t k 0) joined.tag ∙ node.list) j) ((ap (λ t. get_or t k None) joined.value ∙ node.held) j))
      (λ j n. let o = others (64 + j) (λ e. n (omega arith)) in λ q. beside ((ap (λ t. get_or t (64 + j) 0) joined.tag ∙ o.0) q) ((ap (λ t. get_or t (64 + j) None) joined.value ∙ o.1) q))
