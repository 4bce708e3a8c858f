-- What was written to a line step by step.
use Rattle.std.proofs.Common.{ℕ, ◌+◌, ◌<◌, [], ◌∷◌, ◌++◌, ◌∙◌, List, Result, Ok, Err, ap, append_assoc, flat_map, get_or, length, subst, sym, take}
use Rattle.std.proofs.lemmas.List.{flat_map_more, take_more}
use Rattle.std.specs.declared.alloc.AllocError.{AllocError}
use Rattle.json.specs.Token.{Token}
use Rattle.json.specs.Written.{Writes, Written}
use Rattle.bg_access_log.specs.Lines.{Added, Adds}

-- a token that was written was added
pub adds : (r : Result (Unit {0}) AllocError) (old new : Written) (t : Token) → Writes r old new t → Adds r old new (t ∷ [])
adds (Ok u) old new t w = record { before = w.room.0; tokens = w.ok }
adds (Err e) old new t w = tt

-- one step after the other
pub added_then : (old mid new : Written) (a b : List Token) → Added old mid a → Added mid new b → Added old new (a ++ b)
added_then old mid new a b first second =
    record {
      before = second.before ∙ first.before;
      tokens = second.tokens ∙ ap (λ (ts : List Token). ts ++ b) first.tokens ∙ append_assoc old.tokens a b;
    }

-- the same, if the second step can fail
pub adds_then : {E : Type 0} (r : Result (Unit {0}) E) (old mid new : Written) (a b : List Token)
    → Added old mid a → Adds r mid new b → Adds r old new (a ++ b)
adds_then (Ok u) old mid new a b first second = added_then old mid new a b first second
adds_then (Err e) old mid new a b first second = tt

-- one more of the elements of a list was written
pub added_next : {X : Type 0} (f : X → List Token) (xs : List X) (i : ℕ) (d : X) (old mid new : Written) → i < length xs
    → Added old mid (flat_map f (take i xs)) → Added mid new (f (get_or xs i d)) → Added old new (flat_map f (take (i + 1) xs))
added_next f xs i d old mid new within before added =
    subst (λ (ts : List Token). Added old new ts)
    (flat_map_more f [] (take i xs) (get_or xs i d) ∙ ap (flat_map f) (sym (take_more xs i d within)))
    (added_then old mid new _ _ before added)
