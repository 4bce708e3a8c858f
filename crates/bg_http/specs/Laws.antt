-- The laws of the rules and of the writers.
use Rattle.std.specs.Prelude.{◌≡◌, ℕ, true, false, ◌&&◌, List, codes, Ok}
use Rattle.std.specs.Str.{str_eq_ignore_ascii_case}
use Rattle.bg_http.specs.Elements.{Field, has_field}
use Rattle.bg_http.specs.RequestRules.{request_framing}
use Rattle.bg_http.specs.Removed.{is_named_by_connection, is_of_connection, kept_in_request, kept_in_response}
use Rattle.bg_http.specs.declared.request.RequestHead.{RequestHead}
use Rattle.bg_http.specs.declared.request_rules.Framing.{Framing}

-- no field with the name is forwarded
abbrev pub StaysHere : List Field → List ℕ → Type 0
StaysHere fields name =
    (has_field name (kept_in_request fields) ≡ false)
    × (has_field name (kept_in_response fields) ≡ false)

-- a request that is accepted never has both Transfer-Encoding and Content-Length
abbrev pub IsFramedOnce : RequestHead → Framing → Type 0
IsFramedOnce head framing =
    request_framing head ≡ Ok framing
    → (has_field (codes "transfer-encoding") head.fields
    && has_field (codes "content-length") head.fields) ≡ false

-- a field of one connection is not forwarded, nor is another one of its name
abbrev pub StaysIfOfConnection : List Field → Field → Type 0
StaysIfOfConnection fields field = is_of_connection field ≡ true → StaysHere fields field.0

-- a field that Connection names is not forwarded, except Host
abbrev pub StaysWhereNamed : List Field → List ℕ → Type 0
StaysWhereNamed fields name =
    is_named_by_connection fields name ≡ true
    → str_eq_ignore_ascii_case name (codes "host") ≡ false → StaysHere fields name
