-- A request that is forwarded on a connection, and whose response is passed on as it comes.
use Rattle.std.specs.Prelude.{◌≡◌, ℕ, Bool, false, ◌&&◌, ◌||◌, not, [], nat_le, Option, None, Some}
use Rattle.bg_http.specs.Codings.{is_empty}
use Rattle.bg_http.specs.declared.response.Response.{Response}
use Rattle.bg_streams.specs.ResponseRelays.{passing_of, response_of, terms_of}
use Rattle.bg_streams.specs.ResponseStreams.{StandsFor, is_begun, is_drained, relay_of, wants_input}
use Rattle.bg_streams.specs.declared.response_stream.ResponseStream.{ResponseStream}
use Rattle.bg_streams.specs.declared.stream_terms.StreamTerms.{StreamTerms}
use Rattle.bg_endpoint_side.specs.Dialing.{Dialing, Forwarded, begins_on}
use Rattle.bg_endpoint_side.specs.Forwarding.{may_stay, renew_if, to_write}

-- the request, with all bytes that came on the connection since it began there, and its response as it is passed on
pub record Streamed : Type 0 where
  pub forwarded : Forwarded
  pub stream : ResponseStream

-- a connection is there for the request: nothing of its response came
pub record BeginsStreaming (is_kept : Bool) (dialing : Dialing) (terms : StreamTerms) (now : ℕ) (s : Streamed) : Type 0 where
  pub forwarded_is : s.forwarded ≡ begins_on is_kept dialing now
  pub stands : StandsFor s.stream dialing.request [] []
  pub begun : is_begun s.stream ≡ false
  pub terms_are : terms_of (relay_of s.stream) ≡ terms

-- it is so on a connection that it takes: one that is sent again takes a new one
abbrev pub IsStreamedOn : Bool → Dialing → StreamTerms → ℕ → Streamed → Type 0
IsStreamedOn is_kept dialing terms now s =
    ((is_kept && dialing.is_again) ≡ false) × BeginsStreaming is_kept dialing terms now s

-- the endpoint has to do something: to send bytes, or to take bytes of the request
abbrev pub is_awaited : Streamed → Bool
is_awaited s = wants_input s.stream || not (is_empty (to_write s.forwarded))

-- nothing was awaited of the endpoint, and something is now: it has the whole time for that
abbrev pub awaited_from : Streamed → ResponseStream → ℕ → Forwarded
awaited_from s stream now =
    renew_if (not (is_awaited s) && is_awaited (record s { stream = stream })) s.forwarded now

-- its timeout has passed while something is awaited
abbrev pub is_late : Streamed → ℕ → Bool
is_late s now = nat_le s.forwarded.state.deadlines.until now && is_awaited s

-- the connection may be kept after this response
abbrev pub stays : Forwarded → Option Response → Bool
stays f None = false
stays f (Some response) = may_stay f response f.came

-- the connection goes back once the response is drained, if it may be kept
abbrev pub goes_back : Streamed → Bool
goes_back s = is_drained s.stream && stays s.forwarded (response_of (passing_of (relay_of s.stream)))
