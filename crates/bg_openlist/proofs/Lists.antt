-- The sixty-four lists after a node was removed from one.
use Rattle.std.proofs.Common.{◌≡◌, ℕ, ◌<◌, ◌≤◌, List, [], ◌∷◌, ◌++◌, length, get_or, set, refl, sym, ap, ◌∙◌, arith, None, Option}
use Rattle.std.specs.Prelude.{◌≢◌, ◌⊎◌}
use mathlib.Core.Path.{subst}
use mathlib.Core.Logic.{inl, inr, ⊎_elim}
use Rattle.std.proofs.lemmas.List.{get_or-set_same, get_or-set_other}
use Rattle.bg_openlist.specs.Block.{IsIn, IsNode, AreNodes, IsList, AreLists}
use Rattle.bg_openlist.specs.Distinct.{Fresh}
use Rattle.bg_openlist.specs.Rings.{Path}
use Rattle.bg_openlist.proofs.Cases.{none_some, same_or_not}
use Rattle.bg_openlist.proofs.Rings.{frame, sides, cut, distinct_cut, distinct_at, first_of, last_from}

-- a list, split at one of its nodes
pub record CutAt (x : ℕ) (ks : List ℕ) : Type 0 where
  pub before : List ℕ
  pub after : List ℕ
  pub is : ks ≡ before ++ x ∷ after

pub cut_at : (x : ℕ) (ks : List ℕ) → IsIn x ks → CutAt x ks
cut_at x [] h = absurd h
cut_at x (y ∷ ys) h =
    ⊎_elim (λ e. record { before = []; after = ys; is = ap (λ z. z ∷ ys) (sym e) }) (λ t. let r = cut_at x ys t in record { before = y ∷ r.before; after = r.after; is = ap (λ l. y ∷ l) r.is }) h

pub in_cut : (x : ℕ) (ps : List ℕ) (k : ℕ) (qs : List ℕ) → IsIn x (ps ++ k ∷ qs) → (x ≢ k) → IsIn x (ps ++ qs)
in_cut x [] k qs h n = ⊎_elim (λ e. absurd (n e)) (λ t. t) h
in_cut x (p ∷ ps) k qs h n = ⊎_elim (λ e. inl e) (λ t. inr (in_cut x ps k qs t n)) h

-- the neighbour of a node is the head or a node of the same list
abbrev pub Near : List ℕ → ℕ → ℕ → Type 0
Near tg m y = (y ≡ m) ⊎ ((64 ≤ y) × (get_or tg y 0 ≡ m))

pub near_apart : (tg : List ℕ) (m l y : ℕ) → l < 64 → (l ≢ m) → Near tg m y → l ≢ y
near_apart tg m l y low n near = ⊎_elim (λ e f. n (f ∙ e)) (λ h. let high = h.0 in λ f. absurd (omega arith)) near

module _ {X : Type 0} where
  -- what holds of each node but k still holds
  pub nodes_keeps : (tg tg' : List ℕ) (vs vs' : List (Option X)) (k l : ℕ) → ((y : ℕ) → (y ≢ k) → (get_or tg' y 0 ≡ get_or tg y 0) × (get_or vs' y None ≡ get_or vs y None))
      → (ks : List ℕ) → AreNodes tg vs l ks → Fresh k ks → AreNodes tg' vs' l ks
  nodes_keeps tg tg' vs vs' k l h [] b f = tt
  nodes_keeps tg tg' vs vs' k l h (y ∷ ys) b f =
      let n = b.0 in let e = h y f.0 in
      (record { high = n.high; list = e.0 ∙ n.list; item = n.item; held = e.1 ∙ n.held }, nodes_keeps tg tg' vs vs' k l h ys b.1 f.1)

  pub nodes_cut : (tg : List ℕ) (vs : List (Option X)) (l : ℕ) (ps : List ℕ) (k : ℕ) (qs : List ℕ) → AreNodes tg vs l (ps ++ k ∷ qs) → AreNodes tg vs l (ps ++ qs)
  nodes_cut tg vs l [] k qs b = b.1
  nodes_cut tg vs l (p ∷ ps) k qs b = (b.0, nodes_cut tg vs l ps k qs b.1)

  pub nodes_at : (tg : List ℕ) (vs : List (Option X)) (l : ℕ) (ps : List ℕ) (k : ℕ) (qs : List ℕ) → AreNodes tg vs l (ps ++ k ∷ qs) → IsNode tg vs l k
  nodes_at tg vs l [] k qs b = b.0
  nodes_at tg vs l (p ∷ ps) k qs b = nodes_at tg vs l ps k qs b.1

  pub nodes_front : (tg : List ℕ) (vs : List (Option X)) (l : ℕ) (ps rs : List ℕ) → AreNodes tg vs l (ps ++ rs) → AreNodes tg vs l ps
  nodes_front tg vs l [] rs b = tt
  nodes_front tg vs l (p ∷ ps) rs b = (b.0, nodes_front tg vs l ps rs b.1)

  pub nodes_back : (tg : List ℕ) (vs : List (Option X)) (l : ℕ) (ps : List ℕ) (k : ℕ) (qs : List ℕ) → AreNodes tg vs l (ps ++ k ∷ qs) → AreNodes tg vs l qs
  nodes_back tg vs l [] k qs b = b.1
  nodes_back tg vs l (p ∷ ps) k qs b = nodes_back tg vs l ps k qs b.1

  -- a free node, a node of another list, and a head are not in the list
  pub fresh_by_free : (tg : List ℕ) (vs : List (Option X)) (l y : ℕ) → get_or vs y None ≡ None → (ks : List ℕ) → AreNodes tg vs l ks → Fresh y ks
  fresh_by_free tg vs l y free [] b = tt
  fresh_by_free tg vs l y free (k ∷ ks) b = ((λ e. none_some b.0.item (sym free ∙ ap (λ j. get_or vs j None) (sym e) ∙ b.0.held)), fresh_by_free tg vs l y free ks b.1)

  pub fresh_by_tag : (tg : List ℕ) (vs : List (Option X)) (l y : ℕ) → (get_or tg y 0 ≢ l) → (ks : List ℕ) → AreNodes tg vs l ks → Fresh y ks
  fresh_by_tag tg vs l y n [] b = tt
  fresh_by_tag tg vs l y n (k ∷ ks) b = ((λ e. n (ap (λ j. get_or tg j 0) (sym e) ∙ b.0.list)), fresh_by_tag tg vs l y n ks b.1)

  pub fresh_by_low : (tg : List ℕ) (vs : List (Option X)) (l y : ℕ) → y < 64 → (ks : List ℕ) → AreNodes tg vs l ks → Fresh y ks
  fresh_by_low tg vs l y low [] b = tt
  fresh_by_low tg vs l y low (k ∷ ks) b = let high = b.0.high in ((λ e. absurd (omega arith)), fresh_by_low tg vs l y low ks b.1)

  pub near_last : (tg : List ℕ) (vs : List (Option X)) (m a : ℕ) (ks : List ℕ) → Near tg m a → AreNodes tg vs m ks → Near tg m (last_from a ks)
  near_last tg vs m a [] n b = n
  near_last tg vs m a (k ∷ ks) n b = near_last tg vs m k ks (inr (b.0.high, b.0.list)) b.1

  near_first : (tg : List ℕ) (vs : List (Option X)) (m : ℕ) (ps : List ℕ) (k : ℕ) (qs : List ℕ) → AreNodes tg vs m (ps ++ k ∷ qs) → Near tg m (first_of qs m)
  near_first tg vs m [] k [] b = inl refl
  near_first tg vs m [] k (c ∷ rs) b = inr (b.1.0.high, b.1.0.list)
  near_first tg vs m (p ∷ ps) k qs b = near_first tg vs m ps k qs b.1

  pub near_fresh : (tg : List ℕ) (vs : List (Option X)) (m l y : ℕ) → m < 64 → (l ≢ m) → Near tg m y → (ks : List ℕ) → AreNodes tg vs l ks → Fresh y ks
  near_fresh tg vs m l y low n near ks b = ⊎_elim (λ e. fresh_by_low tg vs l y (omega arith) ks b) (λ h. fresh_by_tag tg vs l y (λ e. n (sym e ∙ h.1)) ks b) near

  module _ {nx pv tg : List ℕ} {vs : List (Option X)} {fam : ℕ → List ℕ} (all : AreLists nx pv tg vs fam)
      {m k : ℕ} (low : m < 64) (tagged : get_or tg k 0 ≡ m) (place : CutAt k (fam m)) (inside : k < length vs) (before : get_or pv k 0 < length nx) (after : get_or nx k 0 < length pv) where
    abbrev p : ℕ
    p = get_or pv k 0

    abbrev q : ℕ
    q = get_or nx k 0

    abbrev nx' : List ℕ
    nx' = set nx p q

    abbrev pv' : List ℕ
    pv' = set pv q p

    abbrev vs' : List (Option X)
    vs' = set vs k None

    was : IsList nx pv tg vs m (place.before ++ k ∷ place.after)
    was = subst (IsList nx pv tg vs m) place.is (all.each m low)

    at_k : IsNode tg vs m k
    at_k = nodes_at tg vs m place.before k place.after was.nodes

    p_is : p ≡ last_from m place.before
    p_is = (sides nx pv m place.before k place.after m was.path).0

    q_is : q ≡ first_of place.after m
    q_is = (sides nx pv m place.before k place.after m was.path).1

    p_near : Near tg m p
    p_near = subst (Near tg m) (sym p_is) (near_last tg vs m m place.before (inl refl) (nodes_front tg vs m place.before (k ∷ place.after) was.nodes))

    q_near : Near tg m q
    q_near = subst (Near tg m) (sym q_is) (near_first tg vs m place.before k place.after was.nodes)

    others : (y : ℕ) → (y ≢ k) → (get_or tg y 0 ≡ get_or tg y 0) × (get_or vs' y None ≡ get_or vs y None)
    others y n = (refl, get_or-set_other vs k y None None n)

    -- the list of k, without k
    pub here : IsList nx' pv' tg vs' m (place.before ++ place.after)
    here =
        let fresh = fresh_by_low tg vs m m low (place.before ++ k ∷ place.after) was.nodes in
        let moved = cut nx pv m place.before k place.after m was.path fresh was.once fresh (subst (λ j. j < length nx) p_is before) (subst (λ j. j < length pv) q_is after) in
        record {
          path = subst (λ (j : ℕ × ℕ). Path (set nx j.0 j.1) (set pv j.1 j.0) m (place.before ++ place.after) m) (λ i. (sym p_is i, sym q_is i)) moved;
          once = distinct_cut place.before k place.after was.once;
          nodes = nodes_keeps tg tg vs vs' k m others (place.before ++ place.after) (nodes_cut tg vs m place.before k place.after was.nodes) (distinct_at place.before k place.after was.once);
        }

    -- another list
    pub there : (l : ℕ) → l < 64 → (l ≢ m) → IsList nx' pv' tg vs' l (fam l)
    there l lt n =
        let h = all.each l lt in
        record {
          path = frame nx pv p q q p l (fam l) l h.path (near_apart tg m l p lt n p_near) (near_fresh tg vs m l p low n p_near (fam l) h.nodes) (near_fresh tg vs m l q low n q_near (fam l) h.nodes) (near_apart tg m l q lt n q_near);
          once = h.once;
          nodes = nodes_keeps tg tg vs vs' k l others (fam l) h.nodes (fresh_by_tag tg vs l k (λ e. n (sym e ∙ tagged)) (fam l) h.nodes);
        }

    -- all lists
    pub taken_out : (fam' : ℕ → List ℕ) → fam' m ≡ place.before ++ place.after → ((l : ℕ) → l < 64 → (l ≢ m) → fam' l ≡ fam l) → AreLists nx' pv' tg vs' fam'
    taken_out fam' at_m at_l = record {
      each = λ l lt. ⊎_elim (λ e. subst (λ (j : ℕ). IsList nx' pv' tg vs' j (fam' j)) (sym e) (subst (IsList nx' pv' tg vs' m) (sym at_m) here)) (λ n. subst (IsList nx' pv' tg vs' l) (sym (at_l l lt n)) (there l lt n)) (same_or_not l m);
      every = λ i y hi e.
          let off : i ≢ k = λ same. none_some y (sym (get_or-set_same vs k None None inside) ∙ ap (λ j. get_or vs' j None) (sym same) ∙ e) in
          let old = all.every i y hi (sym (get_or-set_other vs k i None None off) ∙ e) in
          (old.0, ⊎_elim (λ same. subst (IsIn i) (sym (ap fam' same ∙ at_m)) (in_cut i place.before k place.after (subst (IsIn i) (ap fam same ∙ place.is) old.1) off)) (λ n. subst (IsIn i) (sym (at_l (get_or tg i 0) old.0 n)) old.1) (same_or_not (get_or tg i 0) m));
      heads = λ l lt. let high = at_k.high in get_or-set_other vs k l None None (λ e. absurd (omega arith)) ∙ all.heads l lt;
    }
