-- The laws of the fields that tell where a request comes from.
use Rattle.std.specs.Prelude.{◌≡◌, ℕ, Bool, false, List, [], Option, filter}
use Rattle.std.specs.declared.net.ip_addr.IpAddr.{IpAddr}
use Rattle.bg_http.specs.Elements.{Field}
use Rattle.bg_http.specs.Removed.{kept_in_request}
use Rattle.bg_origin.specs.OriginFields.{kept_fields, origin_fields}
use Rattle.bg_origin.specs.OriginNames.{tells_origin}

-- all fields are forwarded, so no Connection field of the client takes one of them away (RFC 9110 section 7.6.1)
abbrev pub AllAreForwarded : Bool → Option IpAddr → List ℕ → List Field → Type 0
AllAreForwarded trusts client id fields =
    kept_in_request (origin_fields trusts client id fields) ≡ origin_fields trusts client id fields

-- if the client is not trusted, none of its fields tells where the request comes from
abbrev pub TellsNothing : List Field → Type 0
TellsNothing fields = filter (λ field. tells_origin field.0) (kept_fields false fields) ≡ []
