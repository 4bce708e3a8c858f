-- Worked lines, by evaluation: lines of HTTP, and lines that differ from them as little as
-- possible.
use Rattle.std.proofs.Common.{◌≡◌, true, false, refl, [], ◌∷◌}
use Rattle.std.specs.Prelude.{codes}
use Rattle.std.specs.List.{list_all, list_any}
use Rattle.http_header.specs.Token.{is_token_byte}
use Rattle.bg_operator.specs.HttpLines.{is_http_line}

-- request lines, also one whose target has a space, the shortest one and that of the preface of HTTP/2; field lines, also
-- one without a value
lines_of_http : list_all is_http_line
    (codes "POST / HTTP/1.1" ∷ codes "GET /a b HTTP/1.1" ∷ codes "G / HTTP/1.0" ∷ codes "PRI * HTTP/2.0" ∷ codes "Host: x" ∷ codes "a:" ∷ []) ≡ true
unfolding is_token_byte
lines_of_http = refl

-- lines that an operator may send, and ordinary faulty lines
lines_of_operators : list_any is_http_line
    (codes "deploy web-v2 9201" ∷ codes "hello world" ∷ codes "tick x" ∷ codes "promote full now" ∷ [] ∷ []) ≡ false
unfolding is_token_byte
lines_of_operators = refl

-- no field name, and a space before the colon
no_field_lines : list_any is_http_line (codes ": x" ∷ codes "Host : x" ∷ []) ≡ false
unfolding is_token_byte
no_field_lines = refl

-- no request target, a space before the method, no version of HTTP, one in lower case, and a space behind it
no_request_lines : list_any is_http_line
    (codes "GET HTTP/1.1" ∷ codes " GET / HTTP/1.1" ∷ codes "GET / HTTP/11" ∷ codes "GET / http/1.1" ∷ codes "GET / HTTP/1.1 " ∷ []) ≡ false
unfolding is_token_byte
no_request_lines = refl
