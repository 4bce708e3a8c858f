-- Requests whose fields were worked out by hand. Evaluation alone proves each.
use Rattle.std.proofs.Common.{◌≡◌, true, false, List, [], ◌∷◌, Some, refl}
use Rattle.std.specs.Prelude.{codes}
use Rattle.bg_http.specs.Elements.{Field}
use Rattle.bg_origin.specs.Forwardeds.{quoted}
use Rattle.bg_origin.specs.OriginFields.{host_of, kept_fields, with_missing}
use Rattle.bg_origin.specs.OriginNames.{tells_origin}
use Rattle.bg_origin.specs.RequestIds.{id_in}

-- a client that names a field of the proxy in Connection, and spells one with underscores
abbrev request_fields : List Field
request_fields =
    (codes "Host", codes "web") ∷ (codes "X-Forwarded-For", codes "10.0.0.1")
    ∷ (codes "Connection", codes "X-Request-Id, X-Trace") ∷ (codes "x_forwarded_proto", codes "https")
    ∷ (codes "X-Trace", codes "7") ∷ (codes "Accept", codes "*/*") ∷ []

kept_of_a_stranger : kept_fields false request_fields ≡ (codes "Host", codes "web") ∷ (codes "Accept", codes "*/*") ∷ []
kept_of_a_stranger = refl

kept_of_a_proxy : kept_fields true request_fields
    ≡ (codes "Host", codes "web") ∷ (codes "X-Forwarded-For", codes "10.0.0.1")
    ∷ (codes "x_forwarded_proto", codes "https") ∷ (codes "Accept", codes "*/*") ∷ []
kept_of_a_proxy = refl

host_is : host_of request_fields ≡ Some (codes "web")
host_is = refl

-- names
spelled_in_any_case : tells_origin (codes "X_FORWARDED-Host") ≡ true
spelled_in_any_case = refl

not_a_longer_name : tells_origin (codes "X-Forwarded-Hosts") ≡ false
not_a_longer_name = refl

not_a_shorter_name : tells_origin (codes "X-Forwarded") ≡ false
not_a_shorter_name = refl

-- a quotation mark and a backslash
quoted_text : quoted (codes "a\"b\\c") ≡ codes "a\\\"b\\\\c"
quoted_text = refl

-- a field is added only if there is none
there_already : with_missing (codes "X-Request-Id") (codes "2") ((codes "x-request-id", codes "1") ∷ [])
    ≡ (codes "x-request-id", codes "1") ∷ []
there_already = refl

not_there : id_in (with_missing (codes "X-Request-Id") (codes "2") []) ≡ Some (codes "2")
not_there = refl
