-- The bytes of one line are that line.
use Rattle.std.proofs.Common.{◌≡◌, ◌==◌, ℕ, ◌+◌, ◌-◌, ◌<◌, true, false, ◌&&◌, List, [], ◌∷◌, ◌++◌, length, take, get_or, if◌then◌else◌, append-nil, refl, sym, ap, ◌∙◌, arith}
use Rattle.std.specs.Prelude.{nat_lt}
use Rattle.std.specs.Io.BufRead.{strip_last}
use Rattle.std.proofs.Math.Seq.{take-length}
use Rattle.std.proofs.lemmas.List.{take_more}
use Rattle.std.proofs.lemmas.Bool.Decides.{nat_tests}
use Rattle.bg_operator.specs.Lines.{has_break, lines_of}
use Rattle.bg_operator.specs.OperatorLines.{IsOneLine, text_of}
use Rattle.bg_operator.proofs.FirstLine.{gives_break, gives_rest}
use Rattle.bg_operator.proofs.Pieces.{no_break_more}

ten : (byte : ℕ) → (byte == 10) ≡ true → byte ≡ 10
ten byte e = grind (arith, nat_tests)

not_ten : (byte : ℕ) → (byte == 10) ≡ false → byte ≡ 10 → ⊥
not_ten byte e f = grind (arith, nat_tests)

some_bytes : (n : ℕ) → 0 < n → nat_lt 0 n ≡ true
some_bytes n some = grind (arith, nat_tests)

-- all bytes but the last, and the last
parts : (bytes : List ℕ) → 0 < length bytes → take (length bytes - 1 + 1) bytes ≡ bytes
parts bytes some = let all : length bytes - 1 + 1 ≡ length bytes = omega arith in ap (λ n. take n bytes) all ∙ take-length bytes

pub one_line : (bytes : List ℕ) → IsOneLine bytes → lines_of bytes ≡ text_of bytes ∷ []
one_line bytes one =
    let n = length bytes - 1 in
    let front = take n bytes in
    let last = get_or bytes n 0 in
    let less : n < length bytes = let some = one.0 in omega arith in
    let is_some = some_bytes (length bytes) one.0 in
    let split : bytes ≡ front ++ last ∷ [] = sym (parts bytes one.0) ∙ take_more bytes n 0 less in
    (elim (last == 10) as (λ t. (last == 10) ≡ t
    → lines_of bytes ≡ (if nat_lt 0 (length bytes) && t then strip_last 13 (if nat_lt 0 (length bytes) && t then front else bytes) else bytes) ∷ []) [
      | true ↦ λ e.
          gives_break front bytes [] (record { all = split ∙ ap (λ byte. front ++ byte ∷ []) (ten last e); no_break = one.1 })
          ∙ ap (λ t. (if t && true then strip_last 13 (if t && true then front else bytes) else bytes) ∷ []) (sym is_some)
      | false ↦ λ e.
          gives_rest bytes bytes [] (record {
            all = sym (append-nil bytes);
            no_break = ap has_break (sym (parts bytes one.0)) ∙ no_break_more bytes n less one.1 (not_ten last e);
          }) refl one.0
          ∙ ap (λ t. (if t && false then strip_last 13 (if t && false then front else bytes) else bytes) ∷ []) (sym is_some)
    ]) refl
