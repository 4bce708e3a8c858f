-- A new buffer holds no bytes of its reader.
use Rattle.std.proofs.Common.{◌≡◌, ℕ, List, [], if◌then◌else◌, ◌==◌, Option, None, Some, refl, ap, ◌∙◌, subst}
use Rattle.std.specs.Io.KnownBytes.{prepend_known}
use Rattle.std.specs.Io.Buffered.{reader_buffer, reader_capacity, reader_inner, reader_remaining}
use Rattle.bg_operator.specs.Reading.{Known}
use Rattle.std.specs.declared.io.buffered.BufReader.{BufReader}

none_before : (known : Option (List ℕ)) → prepend_known [] known ≡ known
none_before None = refl
none_before (Some xs) = refl

pub nothing_held : {T A : Type 0} (remaining : T → Option (List ℕ)) (made : BufReader T A) (inner : T)
    → reader_inner made ≡ inner → reader_buffer made ≡ [] → reader_capacity made ≡ 8192 → reader_remaining remaining made ≡ remaining inner
nothing_held remaining made inner is empty room =
    ap (λ n. if n == 0 then None else prepend_known (reader_buffer made) (remaining (reader_inner made))) room
    ∙ ap (λ l. prepend_known l (remaining (reader_inner made))) empty
    ∙ none_before (remaining (reader_inner made)) ∙ ap remaining is

-- the bytes that are read from the buffer are read from the reader
pub of_reader : (P : List ℕ → List ℕ → Type 0) (held known after : Option (List ℕ)) → held ≡ known → Known held after P → Known known after P
of_reader P held known after same taken = subst (λ (k : Option (List ℕ)). Known k after P) same taken
