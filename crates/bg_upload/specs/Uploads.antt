-- A large request and its response, while both are passed on.
use Rattle.std.specs.Prelude.{◌≡◌, ℕ, ◌+◌, ◌==◌, Bool, true, false, ◌&&◌, ◌||◌, not, if◌then◌else◌, min, nat_le, nat_lt, List, [], ◌++◌, drop, length, Result, IsOk}
use Rattle.bg_endpoint_side.specs.Outcomes.{told}
use Rattle.bg_endpoint_side.specs.declared.outcome.ForwardFault.TheVariants as forward
use Rattle.bg_endpoint_side.specs.declared.outcome.Health.{Health}
use Rattle.bg_http.specs.Codings.{is_empty}
use Rattle.bg_http.specs.declared.request.Request.{Request}
use Rattle.bg_http.specs.declared.request_fault.RequestFault.TheVariants as request_fault
use Rattle.bg_http.specs.declared.request_rules.Framing.{Framing}
use Rattle.bg_http_read.specs.Requests.{continue_text}
use Rattle.bg_http.specs.declared.persistence.Persistence.TheVariants as persistence
use Rattle.bg_relay.specs.declared.relay_fault.RelayFault.{RelayFault}
use Rattle.bg_streams.specs.ResponseRelays.{passing_of, rest_of, terms_of, whole_rest as response_rest}
use Rattle.bg_streams.specs.ResponseStreams.{EndsInput as ResponseEnds, Receives as ResponseReceives, StandsFor, Takes as ResponseTakes, is_begun as response_is_begun, relay_of}
use Rattle.bg_streams.specs.declared.stream_fault.StreamFault.{StreamFault}
use Rattle.bg_streams.specs.declared.stream_terms.StreamTerms.{StreamTerms}
use Rattle.bg_upload.specs.Faults.{as_upload, of_body, of_response as response_fault}
use Rattle.bg_upload.specs.OutgoingRequests.{Begins, EndsInput, PassesWaiting, Receives, rest_of as request_rest, wants_input, with_written}
use Rattle.bg_upload.specs.declared.upload.Upload.{Upload}
use Rattle.bg_upload.specs.declared.upload_fault.UploadFault.{UploadFault}
use Rattle.bg_upload.specs.declared.upload_fault.UploadFault.TheVariants as fault
use Rattle.bg_upload.specs.declared.upload_terms.UploadTerms.{UploadTerms}

-- what is left of `100 Continue` after so many bytes
abbrev pub rest_of_continue : ℕ → List ℕ
rest_of_continue sent = drop sent continue_text

-- what is to be written to the client next, and all that is left to be written to it
abbrev pub to_client : Upload → List ℕ
to_client u =
    if is_empty (rest_of_continue u.interim_sent) then rest_of (passing_of (relay_of u.response))
    else rest_of_continue u.interim_sent

abbrev pub whole_rest : Upload → List ℕ
whole_rest u = rest_of_continue u.interim_sent ++ response_rest (passing_of (relay_of u.response))

-- what is to be written to the endpoint next
abbrev pub to_endpoint : Upload → List ℕ
to_endpoint u = if u.is_unread then [] else request_rest u.request

-- bytes of the client are to be read
abbrev pub reads_client : Upload → Bool
reads_client u = not u.is_unread && wants_input u.request

-- the client took a part of what it cannot take back: a byte of the response, or not all of `100 Continue`
abbrev pub is_part : ℕ → Bool
is_part left = nat_lt 0 left && nat_lt left (length continue_text)

abbrev pub is_begun : Upload → Bool
is_begun u = response_is_begun u.response || is_part (length (rest_of_continue u.interim_sent))

-- no byte may pass until then
abbrev pub silent_until : ℕ → ℕ → ℕ
silent_until millis now = min (now + millis) 18446744073709551615

-- so many bytes passed
abbrev pub renewed : ℕ → ℕ → Upload → Upload
renewed count now u = if nat_lt 0 count then record u { until = silent_until u.silence_millis now } else u

abbrev pub is_late : ℕ → Upload → Bool
is_late now u = nat_le u.until now

-- what the bytes that came tell of the endpoint
abbrev pub health : Upload → Health
health u = told u.has_come

-- whom it waits for: the client, to take or to send bytes, or the endpoint
abbrev pub late_fault : Upload → UploadFault
late_fault u =
    if not (is_empty (to_client u)) then fault.Forward forward.ClientGone
    else (if reads_client u && is_empty (to_endpoint u) then fault.Request request_fault.ReadFailed
    else fault.Forward forward.ResponseTimeout)

-- the endpoint reads no more of the request
abbrev pub unread : Upload → Upload
unread u = record u { is_unread = true }

-- how its response is passed on
abbrev pub response_terms : Request → UploadTerms → StreamTerms
response_terms request terms = record {
  reads_chunks = not (request.minor == 0);
  persistence = persistence.Close;
  window = terms.window;
  most_body = terms.most_response;
}

-- a large request that got a connection now
pub record IsBegun (request : Request) (named : Framing) (terms : UploadTerms) (now : ℕ) (u : Upload) : Type 0 where
  pub request_is : Begins request named terms.port terms.window terms.most_body u.request
  pub response_is : StandsFor u.response request [] []
  pub none_taken : response_is_begun u.response ≡ false
  pub response_terms_are : terms_of (relay_of u.response) ≡ response_terms request terms
  pub interim_is : rest_of_continue u.interim_sent ≡ (if terms.owes_continue then continue_text else [])
  pub is_read : u.is_unread ≡ false
  pub none_came : u.has_come ≡ false
  pub silence_is : u.silence_millis ≡ terms.silence_millis
  pub until_is : u.until ≡ silent_until terms.silence_millis now

-- what a call made of the request, and of the upload, whose other parts are these
pub record OfRequest {T : Type 0}
    (given : Result T RelayFault) (result : Result T UploadFault) (others new : Upload) : Type 0 where
  pub result_is : result ≡ as_upload of_body given
  pub others_are : new ≡ record others { request = new.request }

-- what a call made of the response
pub record OfResponse {T : Type 0}
    (given : Result T StreamFault) (result : Result T UploadFault) (others new : Upload) : Type 0 where
  pub result_is : result ≡ as_upload response_fault given
  pub others_are : new ≡ record others { response = new.response }

-- these bytes of the body came
abbrev pub ClientSends : {T : Type 0} → List ℕ → ℕ → Result T UploadFault → Upload → Upload → Type 0
ClientSends {T} bytes now result old new =
    (given : Result T RelayFault) × Receives bytes given old.request new.request
    × OfRequest given result (renewed (length bytes) now old) new

-- the client ended its input
abbrev pub ClientEnds : {T : Type 0} → Result T UploadFault → Upload → Upload → Type 0
ClientEnds {T} result old new =
    (given : Result T RelayFault) × EndsInput given old.request new.request × OfRequest given result old new

-- the endpoint took so many bytes
abbrev pub EndpointTakes : {T : Type 0} → ℕ → ℕ → Result T UploadFault → Upload → Upload → Type 0
EndpointTakes {T} count now result old new =
    (given : Result T RelayFault) × PassesWaiting given (with_written count old.request) new.request
    × OfRequest given result (renewed count now old) new

-- bytes came from the endpoint
abbrev pub EndpointSends : {T : Type 0} → List ℕ → ℕ → Result T UploadFault → Upload → Upload → Type 0
EndpointSends {T} bytes now result old new =
    (given : Result T StreamFault) × ResponseReceives old.response new.response bytes given
    × OfResponse given result (record (renewed (length bytes) now old) { has_come = old.has_come || not (is_empty bytes) }) new

-- the endpoint ended its connection
abbrev pub EndpointEnds : {T : Type 0} → Result T UploadFault → Upload → Upload → Type 0
EndpointEnds {T} result old new =
    (given : Result T StreamFault) × ResponseEnds old.response new.response given × OfResponse given result old new

-- the client took so many bytes: of `100 Continue`, or of the response
abbrev pub TakesIf : {T : Type 0} → Bool → ℕ → ℕ → Result T UploadFault → Upload → Upload → Type 0
TakesIf {T} true count now result old new =
    (given : Result T StreamFault) × ResponseTakes old.response new.response count given
    × OfResponse given result (renewed count now old) new
TakesIf false count now result old new =
    IsOk result
    × (new ≡ record (renewed count now old) {
      interim_sent = old.interim_sent + min count (length (rest_of_continue old.interim_sent));
    })

abbrev pub ClientTakes : {T : Type 0} → ℕ → ℕ → Result T UploadFault → Upload → Upload → Type 0
ClientTakes count now result old new = TakesIf (is_empty (rest_of_continue old.interim_sent)) count now result old new
