-- A line that is too long is read as that fault, and is not a line of HTTP.
use Rattle.std.proofs.Common.{◌≡◌, ◌<◌, ℕ, true, false, List, length, None, Some, if◌then◌else◌, Err, ap, sym, arith}
use Rattle.std.specs.Prelude.{nat_le, nat_lt, ◌&&◌, ◌||◌}
use Rattle.std.specs.List.{list_all}
use Rattle.std.proofs.lemmas.Bool.Decides.{nat_tests}
use Rattle.bg_operator.specs.declared.line_fault.LineFault.TheVariants.{NotAscii, TooLong}
use Rattle.bg_operator.specs.HttpLines.{is_field_line, is_request_line, speaks_http}
use Rattle.bg_operator.specs.Commands.{is_printable, line_reading}
use Rattle.bg_operator.proofs.LineReadings.{read_by_bytes}

is_longer : (n : ℕ) → 4096 < n → nat_lt 4096 n ≡ true
is_longer n far = grind (arith, nat_tests)

pub is_too_long : (line : List ℕ) → 4096 < length line → line_reading line ≡ Err TooLong
is_too_long line far = read_by_bytes line TooLong (ap (λ t. if t then Some TooLong else if list_all is_printable line then None else Some NotAscii) (is_longer (length line) far))

isnt_within : (n : ℕ) → 4096 < n → nat_le n 4096 ≡ false
isnt_within n far = grind (arith, nat_tests)

pub too_long_for_http : (line : List ℕ) → 4096 < length line → false ≡ speaks_http (Err TooLong) line
too_long_for_http line far = sym (ap (λ t. t && (is_field_line line || is_request_line line)) (isnt_within (length line) far))
