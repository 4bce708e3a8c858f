-- An input that is read in pieces from a stream, where the bytes to come are known.
use Rattle.std.proofs.Common.{◌≡◌, ℕ, List, ◌++◌, sym, ◌∙◌, ap, append_assoc, subst, Option, Some, None, IfSome}
use Rattle.std.specs.Io.KnownBytes.{Consumes}

-- the bytes that were seen at first, and the input, are those that are seen now, and the rest
abbrev pub Came : List ℕ → List ℕ → List ℕ → List ℕ → Type 0
Came before seen input rest = before ++ input ≡ seen ++ rest

-- a fact about every continuation of the bytes that came holds for the input
pub continued : (P : List ℕ → Type 0) (seen bytes : List ℕ) (left next : Option (List ℕ))
    → Consumes left next bytes → ((more : List ℕ) → P ((seen ++ bytes) ++ more))
    → IfSome left (λ input. P (seen ++ input))
continued P seen bytes None next k p = tt
continued P seen bytes (Some r) None k p = absurd k
continued P seen bytes (Some r) (Some q) k p =
    subst P (append_assoc seen bytes q ∙ ap (λ l. seen ++ l) (sym k)) (p q)
