-- A lemma on a text that is written through a buffer and flushed.
use Rattle.std.proofs.Common.{◌≡◌, ℕ, List, [], ◌++◌, Option, Some, None, OnOk}
use Rattle.std.proofs.Common.{Result, Ok, Err, sym, ap, subst, ◌∙◌, append-nil}
use Rattle.std.specs.Io.KnownBytes.{Appends, Keeps, append_known}

-- if the buffer was empty before and is empty after, exactly the text was written to the stream
appended : (old mid new : Option (List ℕ)) (text : List ℕ) → Appends (append_known old []) mid text
    → Keeps mid (append_known new []) → Appends old new text
appended None mid new text wrote kept = tt
appended (Some x) None new text wrote kept = absurd wrote
appended (Some x) (Some y) None text wrote kept = absurd kept
appended (Some x) (Some y) (Some z) text wrote kept =
    sym (append-nil z) ∙ kept ∙ wrote ∙ ap (λ l. l ++ text) (append-nil x)

pub flushed : {T E : Type 0} (flush : Result T E) (old mid new : Option (List ℕ)) (before after text : List ℕ)
    → before ≡ [] → Appends (append_known old before) mid text → Keeps mid (append_known new after)
    → OnOk flush (after ≡ []) → OnOk flush (Appends old new text)
flushed (Err e) old mid new before after text empty wrote kept handed = tt
flushed (Ok t) old mid new before after text empty wrote kept handed =
    appended old mid new text (subst (λ l. Appends (append_known old l) mid text) empty wrote)
    (subst (λ l. Keeps mid (append_known new l)) handed kept)
