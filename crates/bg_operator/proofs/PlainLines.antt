-- A line of printable bytes is a text.
use Rattle.std.proofs.Common.{◌≡◌, ℕ, ◌<◌, true, List, [], ◌∷◌, arith}
use Rattle.std.specs.Prelude.{nat_le}
use Rattle.std.specs.List.{list_all, AllByRecursion}
use Rattle.std.specs.Str.{IsUtf8}
use Rattle.std.proofs.lemmas.Bool.{and_parts, leb-true}
use Rattle.std.proofs.lemmas.List.Elements.{All-from_recursion}
use Rattle.std.proofs.lemmas.Str.{IsUtf8-from_ascii}
use Rattle.std.proofs.lemmas.Str.Ascii.{IsAscii-from_all}
use Rattle.bg_operator.specs.Commands.{is_printable}

ascii_bytes : (line : List ℕ) → list_all is_printable line ≡ true → AllByRecursion (λ b. b < 128) line
ascii_bytes [] e = tt
ascii_bytes (b ∷ line) e =
    let parts = and_parts (is_printable b) (list_all is_printable line) e in
    let bounds = and_parts (nat_le 32 b) (nat_le b 126) parts.0 in
    let small = leb-true b 126 bounds.1 in
    (omega arith, ascii_bytes line parts.1)

pub printable_is_text : (line : List ℕ) → list_all is_printable line ≡ true → IsUtf8 line
printable_is_text line e = IsUtf8-from_ascii line (IsAscii-from_all line (All-from_recursion (λ b. b < 128) line (ascii_bytes line e)))
