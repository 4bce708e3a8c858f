-- The requests that are written to one connection of an endpoint, as they are forwarded.
use Rattle.std.specs.Prelude.{◌≡◌, ◌<◌, ◌^◌, ℕ, Bool, true, false, not, if◌then◌else◌, ◌==◌, ◌&&◌, All, List, [], ◌∷◌, ◌++◌, length, map, flat_map, codes, Option, Some, None}
use Rattle.std.specs.Fmt.{decimal}
use Rattle.bg_http.specs.Elements.{Field, has_field}
use Rattle.bg_http.specs.Removed.{kept_in_request}
use Rattle.bg_http.specs.Texts.{request_text}
use Rattle.bg_http.specs.declared.request.Request.{Request}
use Rattle.bg_http_read.specs.AnySize.{ReadsRequestOfAnySize}
use Rattle.bg_http_read.specs.Requests.{ReadsRequest}
use Rattle.bg_http_read.specs.Sequences.{ReadsAll}

-- a request that is forwarded on a connection, and whether the connection is kept after it
pub record Forwarding : Type 0 where
  pub request : Request
  pub keeps : Bool

-- the request was read from some input
abbrev pub WasRead : Forwarding → Type 0
WasRead forwarding = (input rest : List ℕ) × ReadsRequest input forwarding.request rest

abbrev pub forwarded_text : ℕ → Forwarding → List ℕ
forwarded_text port forwarding = request_text forwarding.keeps forwarding.request port

-- a Host, if a request of version 1.0 has none
abbrev pub host_fields : Request → ℕ → List Field
host_fields request port =
    if (request.minor == 0) && not (has_field (codes "host") request.fields)
    then (codes "Host", codes "127.0.0.1:" ++ decimal port) ∷ [] else []

-- the version in which the request was received
abbrev pub via_field : Request → Field
via_field request =
    if request.minor == 0 then (codes "Via", codes "1.0 bg-switch")
    else (codes "Via", codes "1.1 bg-switch")

-- the length of a body, if there is a body
abbrev pub size_fields : Option (List ℕ) → List Field
size_fields None = []
size_fields (Some body) = (codes "Content-Length", decimal (length body)) ∷ []

-- the field that says that the connection is closed, unless it is kept
abbrev pub closing_fields : Bool → List Field
closing_fields true = []
closing_fields false = (codes "Connection", codes "close") ∷ []

-- the fields of a request as it is forwarded, in order
abbrev pub forwarded_fields : Bool → Request → ℕ → List Field
forwarded_fields keeps request port =
    host_fields request port ++ (kept_in_request request.fields
    ++ (via_field request ∷ (size_fields request.body ++ closing_fields keeps)))

-- the request as it is forwarded
abbrev pub forwarded : ℕ → Forwarding → Request
forwarded port forwarding = record {
  method = forwarding.request.method;
  target = forwarding.request.target;
  minor = 1;
  fields = forwarded_fields forwarding.keeps forwarding.request port;
  body = forwarding.request.body;
}

-- what is written to a connection of an endpoint is read as the requests that were forwarded on it,
-- in order; and each list of requests that it begins with is a front of them, behind which are the
-- texts of the others
abbrev pub AreReadAsForwarded : ℕ → List Forwarding → List Request → List ℕ → Type 0
AreReadAsForwarded port forwardings others rest =
    port < 2 ^ 16 → All WasRead forwardings
    → ReadsAll ReadsRequestOfAnySize (map (forwarded port) forwardings)
    (flat_map (forwarded_text port) forwardings) []
    × (ReadsAll ReadsRequestOfAnySize others (flat_map (forwarded_text port) forwardings) rest
    → (front more : List Forwarding) × (forwardings ≡ front ++ more)
    × (others ≡ map (forwarded port) front) × (rest ≡ flat_map (forwarded_text port) more))
