-- The ghost cells behind the tokens, and the machine value of a token. Assumes `Logic`.
use Rattle.std.proofs.Common.{◌≡◌, ℕ, zero, suc, ◌<◌, List, [], ◌∷◌, length, get_or, drop, refl, ap, arith}
use seplogic.Ra.Ura.{Ura}
use mir.Val.{Val, vstruct, vnil}
use base.Logic.{SProp, ent, sep, ex, emp}
use base.Fml.{Fml, ftrue, fsep}
use base.Shift.{Keyless}
use contract.Monad.{fact, fact_i}
use types.Logic.{Logic, sem}
use types.Kit.{Goal, Seq, Step, step, Item, prop, frame, ‵, raw, ◌⊛◌, given, some, later, ◌$◌, ◌∵◌, !, qed, by, move, fjoin, fpack, feq_i, learn, pick, use0, use1, await, updating, now, show, check, done}
use types.Tokens.{name_new}
use denote.RattleType.{RattleType, Valss}
use denote.Steps.{nothing}
use denote.Struct.Struct.{Struct, within}
use Rattle.bg_ledger.specs.Tokens.{coded_amounts, zero as nothing_yet, all_own}

abbrev pub none : Val
none = vstruct vnil

abbrev pub fieldless : RattleType
fieldless = Struct (record { name = []; args = []; types = []; fields = [] })

pub none_made : {M : Type 1} {𝓤 : Ura M} {𝓛 : Logic 𝓤} {K : Type 0} {Γ : List (Item 𝓤)} {G : Goal 𝓤 𝓛.H} → K → Step K 𝓛 (‵ (fieldless.own_val tt (none ∷ [])) ∷ Γ) G Γ G
none_made t = step (λ s.
    nothing t $ feq_i t (List Val) (none ∷ []) (none ∷ []) refl $ fjoin t $
    fpack t (Valss []) (within (record { name = []; args = []; types = []; fields = [] }) tt (none ∷ [])) tt $ s)

-- a fact of the `ensures` is told, and then the last one
module _ {M : Type 1} {𝓤 : Ura M} {𝓛 : Logic 𝓤} {K : Type 0} {Γ : List (Item 𝓤)} where
  pub tells : K → {φ : Type 0} {P : SProp 𝓤} → φ → Step K 𝓛 Γ (prop P) Γ (prop (sep 𝓤 (fact 𝓤 φ) P))
  tells t {φ} {P} x = step (λ s. use0 𝓛 (raw (fact 𝓤 φ)) (fact_i 𝓤 φ (emp 𝓤) x) $ frame t $ s)

  pub tells_last : K → {φ : Type 0} → φ → Seq K 𝓛 Γ (prop (fact 𝓤 φ))
  tells_last t {φ} x = by t (fact_i 𝓤 φ _ x)

-- a list that is not empty is its head and the rest
pub parted : (names : List ℕ) → 0 < length names → names ≡ get_or names 0 0 ∷ drop 1 names
parted [] h = absurd (omega arith)
parted (x ∷ xs) h = refl

pub all_keyless : (names : List ℕ) → Keyless (all_own names)
all_keyless [] = tt
all_keyless (x ∷ xs) = ((tt, tt), all_keyless xs)

-- so many names
abbrev pub Named : ℕ → List ℕ → Fml
Named n names = base.Fml.fex (length names ≡ n) (λ _. all_own names)

module _ {M : Type 1} {𝓤 : Ura M} (𝓛 : Logic 𝓤) where
  open 𝓛 use {H}

  -- new cells, as many as are asked for
  pub begins : (n : ℕ) → ent 𝓤 (emp 𝓤) (H.⇛ (ex 𝓤 (λ (names : List ℕ). sem 𝓛 (Named n names))))
  begins zero = qed 𝓛 [] ∵ updating ! $ nothing ! $ fpack ! (length {A = ℕ} [] ≡ zero) (λ _. ftrue) refl $ now ! $ show ! (λ (names : List ℕ). sem 𝓛 (Named zero names)) [] $ done !
  begins (suc n) = qed 𝓛 [] ∵ updating ! $
      use0 𝓛 (later (some (λ (names : List ℕ). ‵ (Named n names)))) (begins n) $ await ! tt $ pick ! (λ names. types.Kit.fpick ! (λ e.
      name_new ! tt (coded_amounts.code nothing_yet) (λ γ. fjoin ! $ fjoin ! $
      fpack ! (length (γ ∷ names) ≡ suc n) (λ _. all_own (γ ∷ names)) (ap suc e) $
      now ! $ show ! (λ (ns : List ℕ). sem 𝓛 (Named (suc n) ns)) (γ ∷ names) $ done !)))
