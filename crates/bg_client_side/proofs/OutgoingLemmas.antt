-- A response after more of it was written.
use Rattle.std.proofs.Common.{◌≡◌, ℕ, ◌+◌, List, ◌++◌, length, min, take, drop, ap, sym, ◌∙◌}
use Rattle.std.proofs.Common.{drop-drop, take-add}
use Rattle.std.proofs.lemmas.List.{drop_min, take_min}
use Rattle.bg_client_side.specs.Outgoing.{Outgoing, with_written}

-- a response of which the first bytes were written
abbrev pub outgoing_at : List ℕ → ℕ → ℕ → Outgoing
outgoing_at bytes written weight = record { sent = take written bytes; rest = drop written bytes; weight = weight }

pub more_written : (bytes : List ℕ) (written count weight : ℕ)
    → outgoing_at bytes (written + min count (length (drop written bytes))) weight
    ≡ with_written (outgoing_at bytes written weight) count
more_written bytes written count weight =
    let rest = drop written bytes in
    let most = min count (length rest) in
    let sent : take (written + most) bytes ≡ take written bytes ++ take count rest =
    take-add written most bytes ∙ ap (λ t. take written bytes ++ t) (take_min count rest) in
    let left : drop (written + most) bytes ≡ drop count rest = sym (drop-drop most written bytes) ∙ drop_min count rest in
    ap (λ s. record { sent = s; rest = drop (written + most) bytes; weight = weight }) sent
    ∙ ap (λ r. record { sent = take written bytes ++ take count rest; rest = r; weight = weight }) left
