-- How far bytes are the version.
use Rattle.std.proofs.Common.{◌≡◌, ◌==◌, ℕ, Bool, true, false, cond, List, [], ◌∷◌, ◌++◌, refl, Some, None}
use Rattle.bg_endpoint_side.specs.Versions.{awaited, awaited_on}

-- bytes that come one after the other
pub awaited_more : (text came bytes : List ℕ) → awaited_on (awaited text came) bytes ≡ awaited text (came ++ bytes)
awaited_more [] came bytes = refl
awaited_more (first ∷ more) [] bytes = refl
awaited_more (first ∷ more) (byte ∷ came) bytes = go (awaited_more more came bytes) (first == byte) where
  go : awaited_on (awaited more came) bytes ≡ awaited more (came ++ bytes) → (b : Bool)
      → awaited_on (cond b (awaited more came) None) bytes ≡ cond b (awaited more (came ++ bytes)) None
  go others true = others
  go others false = refl

-- before a byte comes, the whole text is to come
pub awaited_none : (text : List ℕ) → awaited text [] ≡ Some text
awaited_none [] = refl
awaited_none (first ∷ more) = refl
