-- What a `&` to a Vec says of its block. Assumes `Logic`.
use mathlib.Core.Path.{◌≡◌, ap, subst, ◌∙◌}
use Prim.Native.Nat.{ℕ, zero, suc, ◌+◌, ◌*◌, ◌<◌, ◌^◌}
use native.Mathlib.Nat.{add_comm, zero-mul, suc-mul}
use native.Mathlib.Omega.{arith}
use lib.ListN.{length, get_or}
use base.Logic.{ent, via, fst∗, snd∗}
use mathlib.Core.List.{List, [], ◌∷◌}
use seplogic.Ra.Ura.{Ura}
use base.Fml.{Lft, fhide}
use types.Logic.{Logic, sem}
use types.Kit.{Item, Goal, Seq, ‵, raw, ◌⊛◌, ◌$◌, drop, use1, split, fsplit, flt_l}
use contract.Monad.{fact}
use denote.RattleType.{RattleType}
use denote.Memory.{hidden_shr, shared_of}
use denote.Opens.{unhide}
use denote.RawPtr.{Ptr, InBlock, block_ptr, block_of, count_of, ◌+ₚ◌}
use denote.Slice.{elements_shared}
use denote.Steps.{heard}
use denote.Struct.Struct.{Struct}
use denote.Struct.Owning.{shape}
use denote.Struct.Lending.{in_block_says, lent_out}
use Rattle.std_alloc.proofs.VecSteps.El.{El, el_d, el_x, R, P, Vr, sz, owning}
use Rattle.std_alloc.specs.contracts.vec.Vec as Vec
use Rattle.core.specs.Mem.{type_size}

module _ (E : El) {M : Type 1} {𝓤 : Ura M} {𝓛 : Logic 𝓤} {K : Type 0} {Γ : List (Item 𝓤)} {G : Goal 𝓤 𝓛.H} where
  -- the address of the block, that its size fits, and a `&` to each element
  pub block_seen : K → (κ : Lft) (d : el_d E) (b o : ℕ)
      → (InBlock d.ptr → d.cap * sz E < 2 ^ 63 → Seq K 𝓛 (‵ (elements_shared (R E) d.items (block_of d.ptr) (count_of d.ptr) κ) ∷ Γ) G)
      → Seq K 𝓛 (‵ (hidden_shr (Vr E) κ d b o) ∷ Γ) G
  block_seen t κ d b o k =
      use1 𝓛 (‵ (hidden_shr (Struct (shape (owning E))) κ (d.ptr, (d.len, (d.cap, (d.alloc, tt)))) b o) ⊛ ‵ (fhide (Vec.the_lent (R E) (P E) E.al.g d d.ptr κ)))
      (lent_out 𝓛 (Vec.struct (R E) (P E) E.al.g) (Vec.the_codes (el_x E) (P E).Denot (R E).coded (P E).coded) (Vec.the_heap (R E) (P E) E.al.g) (Vec.the_lent (R E) (P E) E.al.g) κ d b o) $
      split t $ drop t $ unhide t $ fsplit t $ flt_l t (λ fit. fsplit t $ use1 𝓛 (raw (fact 𝓤 (InBlock d.ptr))) (in_block_says 𝓛 d.ptr) $
      heard t (InBlock d.ptr) (λ inb. fsplit t $ drop t $ k inb fit))

-- one of the elements that a `&` shows
pub element_seen : {M : Type 1} {𝓤 : Ura M} (𝓛 : Logic 𝓤) (R : RattleType) (κ : Lft) (b : ℕ) (xs : List R.Denot) (i : ℕ) (d : R.Denot) (o at : ℕ) → i < length xs → at ≡ i * type_size R + o
    → ent 𝓤 (sem 𝓛 (elements_shared R xs b o κ)) (sem 𝓛 (shared_of R (get_or xs i d) b at κ))
element_seen 𝓛 R κ b [] i d o at l e = absurd (omega arith)
element_seen {𝓤 = 𝓤} 𝓛 R κ b (x ∷ xs) zero d o at l e =
    let same : o ≡ at = omega (arith, zero-mul (type_size R)) in
    subst (λ k. ent 𝓤 (sem 𝓛 (elements_shared R (x ∷ xs) b o κ)) (sem 𝓛 (shared_of R x b k κ))) same (fst∗ 𝓤 (sem 𝓛 (shared_of R x b o κ)) (sem 𝓛 (elements_shared R xs b (o + type_size R) κ)))
element_seen {𝓤 = 𝓤} 𝓛 R κ b (x ∷ xs) (suc i) d o at l e =
    via 𝓤 (sem 𝓛 (elements_shared R xs b (o + type_size R) κ)) (snd∗ 𝓤 (sem 𝓛 (shared_of R x b o κ)) (sem 𝓛 (elements_shared R xs b (o + type_size R) κ)))
    (element_seen 𝓛 R κ b xs i d (o + type_size R) at (omega arith) (omega (arith, suc-mul i (type_size R))))

-- the cell to which a pointer leads, if its block is known
pub leads : (p q : Ptr) (b o k : ℕ) → p ≡ q +ₚ k → q ≡ block_ptr b o → p ≡ block_ptr b (k + o)
leads p q b o k e f = e ∙ ap (λ r. r +ₚ k) f ∙ ap (λ m. block_ptr b m) (add_comm o k)
