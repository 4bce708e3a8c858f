-- One more node leads to itself.
use Rattle.std.proofs.Common.{◌≡◌, ℕ, ◌+◌, ◌<◌, List, length, get_or, set, sym, arith}
use Rattle.std.specs.Prelude.{◌≢◌}
use mathlib.Core.Path.{subst}
use mathlib.Core.Logic.{⊎_elim}
use Rattle.std.proofs.lemmas.List.{get_or-set_same, get_or-set_other}
use Rattle.std.proofs.lemmas.Bool.Decides.{leb_tells}
use Rattle.std_alloc.specs.declared.vec.Vec.{Vec}
use Rattle.std_alloc.specs.Vec.{with_item}
use Rattle.bg_openlist.specs.declared.nodes.Node.{Node}
use Rattle.bg_openlist.specs.Nodes.{IsAt, IsLoop}
use Rattle.bg_openlist.proofs.Cases.{same_or_not}

below : (j k : ℕ) → j < k + 1 → (j ≢ k) → j < k
below j k l n = ⊎_elim (λ h. absurd (n (omega arith))) (λ h. h.1) (leb_tells k j)

-- a fact of the nodes below k and of the node written at k holds of the nodes below k + 1
one_more : {X : Type 0} (P : ℕ → X → Type 0) (ns : List X) (k : ℕ) (m : X) → k < length ns → P k m → ((j : ℕ) (d : X) → j < k → P j (get_or ns j d)) → (j : ℕ) (d : X) → j < k + 1 → P j (get_or (set ns k m) j d)
one_more P ns k m inside h below_k j d l =
    ⊎_elim
    (λ e. subst (λ i. P i (get_or (set ns k m) i d)) (sym e) (subst (P k) (sym (get_or-set_same ns k m d inside)) h))
    (λ n. subst (P j) (sym (get_or-set_other ns k j m d n)) (below_k j d (below j k l n)))
    (same_or_not j k)

module _ (s : ℕ) {X Z : Type 0} where
  pub loop_more : (v : Vec (Node X) Z) (k : ℕ) (m : Node X) → k < v.len → IsAt s v m.prev → IsAt s v m.next → m.prev.index ≡ k → m.next.index ≡ k → IsLoop s v k → IsLoop s (with_item v k m) (k + 1)
  loop_more v k m inside p n ep en h =
      let within : k < length v.items = omega (arith, v.ok.0) in
      record {
        at = one_more (λ j x. IsAt s v x.prev × IsAt s v x.next) v.items k m within (p, n) h.at;
        next = one_more (λ j x. x.next.index ≡ j) v.items k m within en h.next;
        prev = one_more (λ j x. x.prev.index ≡ j) v.items k m within ep h.prev;
      }
