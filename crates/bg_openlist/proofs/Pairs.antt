-- A list of nodes, and what callers see of it.
use Rattle.std.proofs.Common.{◌≡◌, ℕ, ◌+◌, ◌-◌, ◌≤◌, Bool, true, false, List, [], ◌∷◌, ◌++◌, get_or, set, slice_get, refl, sym, ap, ◌∙◌, arith, Some, None, Option, append_assoc}
use Rattle.std.specs.Prelude.{◌≢◌, ◌==◌, if◌then◌else◌, not}
use Rattle.std.proofs.lemmas.List.{get_or-set_other}
use Rattle.bg_openlist.specs.Block.{IsNode, AreNodes, pair_at, pairs_of}
use Rattle.bg_openlist.specs.Distinct.{Fresh}
use Rattle.bg_openlist.specs.Family.{value_in, following, without_node}
use Rattle.bg_openlist.proofs.Cases.{is_other, is_same, none_some}

other : (y s : ℕ) → 64 ≤ y → (y ≢ 64 + s) → (y - 64 == s) ≡ false
other y s high n = is_other (y - 64) s (λ e. n (omega arith))

module _ {X : Type 0} where
  pub pairs-append : (vs : List (Option X)) (ks bs : List ℕ) → pairs_of vs (ks ++ bs) ≡ pairs_of vs ks ++ pairs_of vs bs
  pairs-append vs [] bs = refl
  pairs-append vs (a ∷ ks) bs = ap (λ l. pair_at (get_or vs a None) a ++ l) (pairs-append vs ks bs) ∙ sym (append_assoc (pair_at (get_or vs a None) a) (pairs_of vs ks) (pairs_of vs bs))

  pub pairs_keep : (vs : List (Option X)) (k : ℕ) (v : Option X) (ks : List ℕ) → Fresh k ks → pairs_of (set vs k v) ks ≡ pairs_of vs ks
  pairs_keep vs k v [] f = refl
  pairs_keep vs k v (y ∷ ys) f = (λ i. pair_at (get_or-set_other vs k y v None f.0 i) y ++ pairs_keep vs k v ys f.1 i)

  -- the pair of a node
  pub pair_is : (vs : List (Option X)) (s : ℕ) (x : X) → get_or vs (64 + s) None ≡ Some x → pair_at (get_or vs (64 + s) None) (64 + s) ≡ (s, x) ∷ []
  pair_is vs s x e = let num : (64 + s) - 64 ≡ s = omega arith in ap (λ o. pair_at o (64 + s)) e ∙ ap (λ j. (j, x) ∷ []) num

  -- a list of nodes begins with a pair for its first node
  pub first_pair : (tg : List ℕ) (vs : List (Option X)) (l y : ℕ) (ys : List ℕ) (n : IsNode tg vs l y) → pairs_of vs (y ∷ ys) ≡ (y - 64, n.item) ∷ pairs_of vs ys
  first_pair tg vs l y ys n = ap (λ o. pair_at o y ++ pairs_of vs ys) n.held

  -- a node that is not in the list has no value there
  pub value_none : (tg : List ℕ) (vs : List (Option X)) (l s : ℕ) (ks : List ℕ) → AreNodes tg vs l ks → Fresh (64 + s) ks → value_in (pairs_of vs ks) s ≡ None
  value_none tg vs l s [] b f = refl
  value_none tg vs l s (y ∷ ys) b f =
      ap (λ ps. value_in ps s) (first_pair tg vs l y ys b.0) ∙ ap (λ c. if c then Some b.0.item else value_in (pairs_of vs ys) s) (other y s b.0.high f.0) ∙ value_none tg vs l s ys b.1 f.1

  not_first : (b : Bool) (x : X) (o : Option X) → (if b then Some x else o) ≡ None → (b ≡ false) × (o ≡ None)
  not_first true x o e = absurd (none_some x (sym e))
  not_first false x o e = (refl, e)

  -- the nodes before a node don't matter
  pub value_past : (s : ℕ) (ps qs : List (ℕ × X)) → value_in ps s ≡ None → value_in (ps ++ qs) s ≡ value_in qs s
  value_past s [] qs h = refl
  value_past s (p ∷ ps) qs h = let n = not_first (p.0 == s) p.1 (value_in ps s) h in ap (λ b. if b then Some p.1 else value_in (ps ++ qs) s) n.0 ∙ value_past s ps qs n.1

  pub following_past : (s : ℕ) (ps qs : List (ℕ × X)) → value_in ps s ≡ None → following (ps ++ qs) s ≡ following qs s
  following_past s [] qs h = refl
  following_past s (p ∷ ps) qs h = let n = not_first (p.0 == s) p.1 (value_in ps s) h in ap (λ b. if b then slice_get (ps ++ qs) 0 else following (ps ++ qs) s) n.0 ∙ following_past s ps qs n.1

  pub without_node_past : (s : ℕ) (ps qs : List (ℕ × X)) → value_in ps s ≡ None → without_node s (ps ++ qs) ≡ ps ++ without_node s qs
  without_node_past s [] qs h = refl
  without_node_past s (p ∷ ps) qs h =
      let n = not_first (p.0 == s) p.1 (value_in ps s) h in
      ap (λ b. if not b then p ∷ without_node s (ps ++ qs) else without_node s (ps ++ qs)) n.0 ∙ ap (λ l. p ∷ l) (without_node_past s ps qs n.1)

  pub without_node_none : (s : ℕ) (ps : List (ℕ × X)) → value_in ps s ≡ None → without_node s ps ≡ ps
  without_node_none s [] h = refl
  without_node_none s (p ∷ ps) h =
      let n = not_first (p.0 == s) p.1 (value_in ps s) h in ap (λ b. if not b then p ∷ without_node s ps else without_node s ps) n.0 ∙ ap (λ l. p ∷ l) (without_node_none s ps n.1)

  -- a node in a list of pairs
  module _ (s : ℕ) (x : X) (ps qs : List (ℕ × X)) (none : value_in ps s ≡ None) where
    same : (s == s) ≡ true
    same = is_same s s refl

    pub value_here : value_in (ps ++ (s, x) ∷ qs) s ≡ Some x
    value_here = value_past s ps ((s, x) ∷ qs) none ∙ ap (λ b. if b then Some x else value_in qs s) same

    pub following_here : following (ps ++ (s, x) ∷ qs) s ≡ slice_get qs 0
    following_here = following_past s ps ((s, x) ∷ qs) none ∙ ap (λ b. if b then slice_get qs 0 else following qs s) same

    pub without_node_here : value_in qs s ≡ None → without_node s (ps ++ (s, x) ∷ qs) ≡ ps ++ qs
    without_node_here after = without_node_past s ps ((s, x) ∷ qs) none ∙ ap (λ l. ps ++ l) (ap (λ b. if not b then (s, x) ∷ without_node s qs else without_node s qs) same ∙ without_node_none s qs after)
