-- A text after more of it was written.
use Rattle.std.proofs.Common.{◌≡◌, ◌≤◌, ◌+◌, ◌-◌, ◌∙◌, ℕ, List, ◌++◌, [], append-nil, arith, length, min, take, drop, ap, sym}
use Rattle.std.proofs.Common.{drop-drop, take-add}
use Rattle.std.proofs.Math.Seq.{drop-append-add, take-length}
use Rattle.std.proofs.lemmas.List.{drop_min, length-drop, take_min}
use Rattle.bg_endpoint_side.specs.OutgoingTexts.{IsFirstPiece, Outgoing, with_written}

-- a text of which the first bytes were written
abbrev pub outgoing_at : List ℕ → List ℕ → ℕ → Outgoing
outgoing_at bytes uncopied written = record { sent = take written bytes; rest = drop written bytes; uncopied = uncopied }

pub more_written : (bytes uncopied : List ℕ) (written count : ℕ)
    → outgoing_at bytes uncopied (written + min count (length (drop written bytes)))
    ≡ with_written (outgoing_at bytes uncopied written) count
more_written bytes uncopied written count =
    let rest = drop written bytes in
    let most = min count (length rest) in
    let sent : take (written + most) bytes ≡ take written bytes ++ take count rest =
    take-add written most bytes ∙ ap (λ t. take written bytes ++ t) (take_min count rest) in
    let left : drop (written + most) bytes ≡ drop count rest = sym (drop-drop most written bytes) ∙ drop_min count rest in
    ap (λ s. record { sent = s; rest = drop (written + most) bytes; uncopied = uncopied }) sent
    ∙ ap (λ r. record { sent = take written bytes ++ take count rest; rest = r; uncopied = uncopied }) left

-- once the beginning of a text was written, what is left of its end is a piece of the rest
pub piece_behind : (front uncopied : List ℕ) (written : ℕ) → length front ≤ written
    → IsFirstPiece (drop written (front ++ uncopied))
    (take (length uncopied - (written - length front)) (drop (written - length front) uncopied))
piece_behind front uncopied written behind =
    let more = written - length front in
    let sum : length front + more ≡ written = omega (arith, behind) in
    let rest : drop written (front ++ uncopied) ≡ drop more uncopied =
    ap (λ n. drop n (front ++ uncopied)) (sym sum) ∙ drop-append-add front uncopied more in
    let piece : take (length uncopied - more) (drop more uncopied) ≡ drop more uncopied =
    ap (λ n. take n (drop more uncopied)) (sym (length-drop more uncopied)) ∙ take-length (drop more uncopied) in
    let same : drop written (front ++ uncopied) ≡ take (length uncopied - more) (drop more uncopied) = rest ∙ sym piece in
    record {
      after = [];
      is_first = same ∙ sym (append-nil (take (length uncopied - more) (drop more uncopied)));
      is_some = λ none. same ∙ none;
    }
