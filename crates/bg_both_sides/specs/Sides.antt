-- A client's connection together with the request that it has at an endpoint.
use Rattle.std.specs.Prelude.{◌≡◌, ⊤, ℕ, Bool, true, false, List, [], Option, Some, None, if◌then◌else◌, nat_le}
use Rattle.bg_http.specs.Persistences.{keeps}
use Rattle.bg_http.specs.Texts.{request_text}
use Rattle.bg_http.specs.declared.request.Request.{Request}
use Rattle.bg_client_side.specs.Clients.{Client}
use Rattle.bg_client_side.specs.Stages.{is_inside}
use Rattle.bg_endpoint_side.specs.Dialing.{Dialing, Forwarded, may_go_elsewhere}
use Rattle.bg_endpoint_side.specs.Forwarding.{to_write}
use Rattle.bg_endpoint_side.specs.Methods.{is_idempotent}
use Rattle.bg_endpoint_side.specs.OutgoingTexts.{whole}
use Rattle.bg_endpoint_side.specs.declared.terms.Terms.{Terms}
use Rattle.bg_streams.specs.ResponseRelays.{passing_of, rest_of}
use Rattle.bg_streams.specs.ResponseStreams.{relay_of, wants_input}
use Rattle.bg_upgrade.specs.HeadTexts.{upgrade_text}
use Rattle.bg_upgrade.specs.Upgrades.{asks_for_upgrade}
use Rattle.bg_both_sides.specs.declared.endpoint_side.EndpointSide.{EndpointSide}
use Rattle.bg_both_sides.specs.declared.endpoint_side.EndpointSide.TheVariants as side

-- the client's connection, and its request at an endpoint
pub record Sides : Type 0 where
  pub client : Client
  pub endpoint : EndpointSide

-- the request that is inside
abbrev pub request_of : EndpointSide → Option Request
request_of side.NoRequest = None
request_of (side.Entered request) = Some request
request_of (side.Dialing request dialing) = Some request
request_of (side.Forwarding request forwarded) = Some request
request_of (side.Streaming request streamed) = Some request

-- the request that entered and is not on its way to an endpoint
abbrev pub as_entered : EndpointSide → Option Request
as_entered (side.Entered request) = Some request
as_entered other = None

-- what is dialled for
abbrev pub as_dialing : EndpointSide → Option Dialing
as_dialing (side.Dialing request dialing) = Some dialing
as_dialing other = None

-- a connection to an endpoint belongs to the request
abbrev pub has_connection : EndpointSide → Bool
has_connection (side.Forwarding request forwarded) = true
has_connection (side.Streaming request streamed) = true
has_connection other = false

-- the response of the request is passed on as it comes
abbrev pub is_streaming : EndpointSide → Bool
is_streaming (side.Streaming request streamed) = true
is_streaming other = false

-- another endpoint may be dialled for the request
abbrev pub goes_elsewhere : EndpointSide → ℕ → Bool
goes_elsewhere (side.Dialing request dialing) now = may_go_elsewhere dialing now
goes_elsewhere other now = false

-- the dial for the request is late
abbrev pub is_dial_late : EndpointSide → ℕ → Bool
is_dial_late (side.Dialing request dialing) now = nat_le dialing.deadlines.until now
is_dial_late other now = false

-- the request as it is forwarded on the connection that belongs to it
abbrev pub as_forwarded : EndpointSide → Option Forwarded
as_forwarded (side.Forwarding request forwarded) = Some forwarded
as_forwarded (side.Streaming request streamed) = Some streamed.forwarded
as_forwarded other = None

-- what is to be written to the endpoint now
abbrev pub to_endpoint : EndpointSide → List ℕ
to_endpoint (side.Forwarding request forwarded) = to_write forwarded
to_endpoint (side.Streaming request streamed) = to_write streamed.forwarded
to_endpoint other = []

-- what is to be written to the client now of a response that is passed on
abbrev pub to_client : EndpointSide → List ℕ
to_client (side.Streaming request streamed) = rest_of (passing_of (relay_of streamed.stream))
to_client other = []

-- bytes of the endpoint are to be read now
abbrev pub reads_endpoint : EndpointSide → Bool
reads_endpoint (side.Forwarding request forwarded) = true
reads_endpoint (side.Streaming request streamed) = wants_input streamed.stream
reads_endpoint other = false

-- the text of the request as it is forwarded under these terms
abbrev pub forwarded_text : Terms → Request → List ℕ
forwarded_text terms request =
    if terms.asks_for_upgrade then upgrade_text request else request_text (keeps terms.persistence) request terms.port

-- the text is that of the request as it is forwarded under these terms, and its response is read as the one to it
pub record IsSentAs (request read : Request) (terms : Terms) (text : List ℕ) : Type 0 where
  pub read_is : read ≡ request
  pub text_is : text ≡ forwarded_text terms request
  pub idempotent_is : terms.is_idempotent ≡ is_idempotent request.method
  pub asks_is : terms.asks_for_upgrade ≡ true → asks_for_upgrade request ≡ true

-- what is dialled for, and what is forwarded, is the request
abbrev pub IsDialed : Request → Dialing → Type 0
IsDialed request dialing = IsSentAs request dialing.request dialing.terms dialing.text

abbrev pub IsForwarded : Request → Forwarded → Type 0
IsForwarded request forwarded =
    IsSentAs request forwarded.request forwarded.state.terms (whole forwarded.text)

-- the response is read as the one to the request that is dialled for, or forwarded
abbrev pub IsReadAsItself : EndpointSide → Type 0
IsReadAsItself (side.Dialing request dialing) = request ≡ dialing.request
IsReadAsItself (side.Forwarding request forwarded) = request ≡ forwarded.request
IsReadAsItself (side.Streaming request streamed) = request ≡ streamed.forwarded.request
IsReadAsItself other = ⊤

-- the request that is dialled for as one that asks for an upgrade does ask
abbrev pub AsksAsItself : EndpointSide → Type 0
AsksAsItself (side.Dialing request dialing) =
    dialing.terms.asks_for_upgrade ≡ true → asks_for_upgrade request ≡ true
AsksAsItself other = ⊤

-- exactly if the client's connection has a request inside, it is there; and it is sent as it is
abbrev pub IsSound : Client → EndpointSide → Type 0
IsSound client side.NoRequest = is_inside client.stage ≡ false
IsSound client (side.Entered request) = is_inside client.stage ≡ true
IsSound client (side.Dialing request dialing) = (is_inside client.stage ≡ true) × IsDialed request dialing
IsSound client (side.Forwarding request forwarded) = (is_inside client.stage ≡ true) × IsForwarded request forwarded
IsSound client (side.Streaming request streamed) =
    (is_inside client.stage ≡ true) × IsForwarded request streamed.forwarded
