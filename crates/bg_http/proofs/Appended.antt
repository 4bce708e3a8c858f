-- What two calls write, one after the other.
use Rattle.std.proofs.Common.{ℕ, List, ◌++◌, append_assoc, ap, ◌∙◌}
use Rattle.std.specs.Prelude.{Option, Some, None, Result, Ok, Err, OnOk}
use Rattle.std.specs.Io.KnownBytes.{Appends}

-- if one call appends x and the next appends y, together they append x and then y
pub appends_both : (a b c : Option (List ℕ)) (x y : List ℕ) → Appends a b x → Appends b c y → Appends a c (x ++ y)
appends_both None b c x y h k = tt
appends_both (Some xs) None c x y h k = absurd h
appends_both (Some xs) (Some ys) None x y h k = absurd k
appends_both (Some xs) (Some ys) (Some zs) x y h k = k ∙ ap (λ l. l ++ y) h ∙ append_assoc xs x y

-- the same if the second call says it only of its success
pub appends_then : {T E : Type 0} (r : Result T E) (a b c : Option (List ℕ)) (x y : List ℕ) → Appends a b x → OnOk r (Appends b c y) → OnOk r (Appends a c (x ++ y))
appends_then (Ok v) a b c x y h k = appends_both a b c x y h k
appends_then (Err e) a b c x y h k = tt
