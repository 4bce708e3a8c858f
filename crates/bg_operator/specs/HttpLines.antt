-- Lines in the format of HTTP, which no operator writes (RFC 9112).
use Rattle.std.specs.Prelude.{ℕ, ◌+◌, ◌-◌, Bool, false, ◌&&◌, ◌||◌, List, [], ◌∷◌, length, take, drop, ◌==◌, nat_le, nat_lt, codes, bytes_eq, Result, Ok, Err}
use Rattle.std.specs.Option.{option_map_or}
use Rattle.std.specs.List.{list_all, position}
use Rattle.std.specs.Char.{is_ascii_digit}
use Rattle.http_header.specs.Token.{is_token_byte}
use Rattle.bg_operator.specs.declared.command.Command.{Command}
use Rattle.bg_operator.specs.declared.line_fault.LineFault.{LineFault}

-- one or more token characters (RFC 9110 section 5.6.2)
abbrev pub is_token : List ℕ → Bool
is_token bytes = nat_lt 0 (length bytes) && list_all is_token_byte bytes

abbrev pub is_space : ℕ → Bool
is_space byte = byte == 32

abbrev pub is_colon : ℕ → Bool
is_colon byte = byte == 58

-- A field line begins with its field name, which is a token, and a colon (RFC 9112 section 5).
abbrev pub is_field_line : List ℕ → Bool
is_field_line line = option_map_or (λ at. is_token (take at line)) (position is_colon line) false

-- a digit, a dot, a digit
abbrev pub is_version_number : List ℕ → Bool
is_version_number (major ∷ dot ∷ minor ∷ []) =
    is_ascii_digit major && dot == 46 && is_ascii_digit minor
is_version_number _ = false

-- a space and an HTTP version (RFC 9112 section 2.3)
abbrev pub is_spaced_version : List ℕ → Bool
is_spaced_version bytes =
    bytes_eq (take 6 bytes) (codes " HTTP/") && is_version_number (drop 6 bytes)

-- A request target, a space and an HTTP version. Any bytes count as a target, because a faulty target
-- also comes from an HTTP client.
abbrev pub is_target_and_version : List ℕ → Bool
is_target_and_version bytes =
    nat_lt 9 (length bytes) && is_spaced_version (drop (length bytes - 9) bytes)

-- A request line is a method, which is a token, a space, a request target, a space and an HTTP version
-- (RFC 9112 section 3).
abbrev pub is_request_line : List ℕ → Bool
is_request_line line =
    option_map_or (λ at. is_token (take at line) && is_target_and_version (drop (at + 1) line))
    (position is_space line) false

-- A line of HTTP. A line that is too long is skipped, so it is not one.
abbrev pub is_http_line : List ℕ → Bool
is_http_line line =
    nat_le (length line) 4096 && (is_field_line line || is_request_line line)

-- a line with this result gives no command, and is a line of HTTP
abbrev pub speaks_http : Result Command LineFault → List ℕ → Bool
speaks_http (Ok command) line = false
speaks_http (Err fault) line = is_http_line line
