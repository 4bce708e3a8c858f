-- Lemmas on flushing a buffer.
use Rattle.std.proofs.Common.{◌≡◌, ℕ, List, ◌++◌, take, drop, Option, ap, sym, subst, ◌∙◌, take-append-drop}
use Rattle.std.proofs.KnownBytes.{Keeps-trans, append_known-kept, append_known-moved}
use Rattle.std.specs.Io.KnownBytes.{Appends, Keeps, append_known}

-- the stream took the first of the buffered bytes, and the rest stays buffered
pub handed_on : (first old new : Option (List ℕ)) (held given rest : List ℕ) (count : ℕ)
    → Keeps first (append_known old held) → given ≡ held → Appends old new (take count given)
    → rest ≡ drop count held → Keeps first (append_known new rest)
handed_on first old new held given rest count kept is took left =
    let taken : Appends old new (take count held) = subst (λ l. Appends old new (take count l)) is took in
    let whole : held ≡ take count held ++ rest =
    sym (take-append-drop count held) ∙ ap (λ l. take count held ++ l) (sym left) in
    Keeps-trans first (append_known old held) (append_known new rest) kept
    (append_known-moved old new (take count held) rest held taken whole)

-- the stream took nothing
pub not_handed_on : (first old new : Option (List ℕ)) (held : List ℕ) → Keeps first (append_known old held)
    → Keeps old new → Keeps first (append_known new held)
not_handed_on first old new held kept same =
    Keeps-trans first (append_known old held) (append_known new held) kept (append_known-kept old new held same)
