-- The laws of the endpoints' side.
use Rattle.std.specs.Prelude.{◌≡◌, ◌⊎◌, ℕ, Bool, true, false, List, [], ◌∷◌, ◌++◌, Ok, Some}
use Rattle.bg_http.specs.Persistences.{keeps}
use Rattle.bg_http.specs.Removed.{says_close}
use Rattle.bg_http.specs.ResponseRules.{asks_for_head}
use Rattle.bg_http.specs.declared.request.Request.{Request}
use Rattle.bg_http.specs.declared.response.Response.{Response}
use Rattle.bg_http_read.specs.ResponseStates.{IsReadThen}
use Rattle.bg_http_read.specs.Responses.{ReadsResponseThen}
use Rattle.bg_http_read.specs.Sequences.{AreResponsesOf}
use Rattle.bg_streams.specs.Laws.{IsDrainedAnswer}
use Rattle.bg_streams.specs.ResponseRelays.{is_drained as response_is_drained, passing_of, terms_of}
use Rattle.bg_streams.specs.ResponseStreams.{StandsFor, relay_of, waiting_of}
use Rattle.bg_streams.specs.declared.passing.Passing.{Passing}
use Rattle.bg_endpoint_side.specs.Dialing.{Dialing, Forwarded, begins_on}
use Rattle.bg_endpoint_side.specs.Forwarding.{again, goes_back, may_repeat, unread, with_bytes, with_end, wrote}
use Rattle.bg_endpoint_side.specs.OutgoingTexts.{whole}
use Rattle.bg_endpoint_side.specs.Streaming.{Streamed, goes_back as streamed_goes_back}
use Rattle.bg_endpoint_side.specs.Versions.{begins_with_version}

-- what was written of the text and what is left of it are the text, whatever happens on the connection
pub record TextStays (f : Forwarded) (bytes : List ℕ) (count now : ℕ) : Type 0 where
  pub after_write : whole (wrote f count now).text ≡ whole f.text
  pub after_bytes : (with_bytes f bytes now).text ≡ f.text
  pub unread_is : (unread f now).text ≡ f.text
  pub ending_is : (with_end f).text ≡ f.text
  pub again_is : (again f now).text ≡ whole f.text

-- a connection begins with nothing written of the text, and with no byte that came
pub record TextBegins (is_kept : Bool) (d : Dialing) (now : ℕ) : Type 0 where
  pub sent_is : (begins_on is_kept d now).text.sent ≡ []
  pub rest_is : (begins_on is_kept d now).text.rest ≡ d.text
  pub came_is : (begins_on is_kept d now).came ≡ []

-- the whole text was written, nothing is left of the bytes that came behind the response, and neither side ends the
-- connection
pub record IsDrained (f : Forwarded) (came left : List ℕ) (response : Response) : Type 0 where
  pub sent : f.text.rest ≡ []
  pub drained : left ≡ []
  pub keeps_is : keeps f.state.terms.persistence ≡ true
  pub no_end : f.state.is_ending ≡ false
  pub of_version : begins_with_version came ≡ true
  pub no_close : says_close response.fields ≡ false

abbrev pub GoesBackDrained : Forwarded → List ℕ → List ℕ → Response → Type 0
GoesBackDrained f came left response =
    goes_back f came left (Ok response) ≡ true → IsDrained f came left response

-- a connection on which the bytes before are the responses to these requests has, with this response, one more
abbrev pub Continues
    : List Request → List Response → List ℕ → Forwarded → List ℕ → List ℕ → Response → Type 0
Continues requests responses before f came left response =
    AreResponsesOf requests responses before [] → IsReadThen f.request response came left
    → goes_back f came left (Ok response) ≡ true
    → AreResponsesOf (requests ++ f.request ∷ []) (responses ++ response ∷ []) (before ++ came) []

-- the connection of a response that is passed on carried that response and nothing behind it, the whole text was written, and
-- neither side ends the connection
pub record CarriedOneResponse (s : Streamed) (passed : List ℕ) : Type 0 where
  pub passing : Passing
  pub passing_is : passing_of (relay_of s.stream) ≡ Some passing
  pub drained : IsDrained s.forwarded s.forwarded.came (waiting_of s.stream) passing.response
  pub whole : response_is_drained (Some passing) [] ≡ true
  pub answer : IsDrainedAnswer (terms_of (relay_of s.stream)) passing s.forwarded.request s.forwarded.came passed

abbrev pub StreamGoesBackDrained : Streamed → List ℕ → Type 0
StreamGoesBackDrained s passed =
    StandsFor s.stream s.forwarded.request s.forwarded.came passed → streamed_goes_back s ≡ true
    → CarriedOneResponse s passed

-- a request is sent again only after a connection that was kept, on which no byte came, and only if it is idempotent or
-- nothing of it was written; the request that is sent again is marked
pub record RepeatsSafely (f : Forwarded) (now : ℕ) : Type 0 where
  pub kept : f.state.is_kept ≡ true
  pub none_came : f.came ≡ []
  pub safe : (f.state.terms.is_idempotent ≡ true) ⊎ (f.text.sent ≡ [])
  pub marked : (again f now).is_again ≡ true

abbrev pub RepeatsOnlySafely : Forwarded → ℕ → Type 0
RepeatsOnlySafely f now = may_repeat f ≡ true → RepeatsSafely f now

-- a request on a new connection is not sent again
abbrev pub StaysOnNew : Forwarded → Type 0
StaysOnNew f = f.state.is_kept ≡ false → may_repeat f ≡ false

-- of two requests of which both have the method HEAD, or none has, the responses are read alike
abbrev pub ReadsAlike : Request → Request → List ℕ → Response → List ℕ → Type 0
ReadsAlike one other input response rest =
    asks_for_head one ≡ asks_for_head other → ReadsResponseThen one input response rest
    → ReadsResponseThen other input response rest
