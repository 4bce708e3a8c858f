-- The fields of a request that tells its endpoint where it comes from.
use Rattle.std.specs.Prelude.{ℕ, Bool, not, if◌then◌else◌, ◌&&◌, ◌||◌, List, [], ◌∷◌, ◌++◌, filter, codes, Option, Some, None}
use Rattle.std.specs.List.{find}
use Rattle.std.specs.Option.{option_map}
use Rattle.std.specs.declared.net.ip_addr.IpAddr.{IpAddr}
use Rattle.bg_http.specs.Elements.{Field, has_field, is_named}
use Rattle.bg_http.specs.Removed.{is_removed_from_request}
use Rattle.bg_origin.specs.Forwardeds.{client_text, forwarded_value}
use Rattle.bg_origin.specs.OriginNames.{tells_origin}

-- a field of the client goes on: it is forwarded, and it does not tell where the request comes from, unless the client is trusted
abbrev pub goes_on : Bool → List Field → Field → Bool
goes_on trusts fields field = not (is_removed_from_request fields field) && (trusts || not (tells_origin field.0))

abbrev pub kept_fields : Bool → List Field → List Field
kept_fields trusts fields = filter (goes_on trusts fields) fields

-- the value of the first field of this name
abbrev pub first_value : List ℕ → List Field → Option (List ℕ)
first_value name fields = option_map (λ field. field.1) (find (is_named name) fields)

abbrev pub host_of : List Field → Option (List ℕ)
host_of fields = first_value (codes "host") fields

-- a field is added at the end
abbrev pub with_field : List ℕ → List ℕ → List Field → List Field
with_field name value fields = fields ++ (name, value) ∷ []

-- it is, unless there is one of its name
abbrev pub with_missing : List ℕ → List ℕ → List Field → List Field
with_missing name value fields = if has_field name fields then fields else with_field name value fields

-- the Host that the client asked for, if it gave one
abbrev pub with_host : Option (List ℕ) → List Field → List Field
with_host None fields = fields
with_host (Some host) fields = with_missing (codes "X-Forwarded-Host") host fields

-- what this proxy adds: its client behind those that are told already, and the others unless they are told already
abbrev pub with_origin : Option (List ℕ) → Option IpAddr → List ℕ → List Field → List Field
with_origin host client id fields =
    with_missing (codes "X-Request-Id") id
    (with_field (codes "Forwarded") (forwarded_value client host)
    (with_host host
    (with_missing (codes "X-Forwarded-Proto") (codes "http")
    (with_field (codes "X-Forwarded-For") (client_text client) fields))))

-- the fields with which a request is forwarded whose client has this address and is trusted or not, and which gets this id if it
-- has none
abbrev pub origin_fields : Bool → Option IpAddr → List ℕ → List Field → List Field
origin_fields trusts client id fields = with_origin (host_of fields) client id (kept_fields trusts fields)
