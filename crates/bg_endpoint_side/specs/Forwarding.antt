-- What events make of a request that is forwarded on a connection.
use Rattle.std.specs.Prelude.{◌≡◌, ℕ, Bool, true, false, ◌&&◌, ◌||◌, not, if◌then◌else◌, List, [], ◌++◌, nat_le, nat_lt, Result, Ok, Err}
use Rattle.bg_http.specs.Codings.{is_empty}
use Rattle.bg_http.specs.Persistences.{keeps}
use Rattle.bg_http.specs.Removed.{says_close}
use Rattle.bg_http.specs.declared.request.Request.{Request}
use Rattle.bg_http.specs.declared.response.Response.{Response}
use Rattle.bg_http.specs.declared.response_fault.ResponseFault.{ResponseFault}
use Rattle.bg_http_read.specs.ResponseStates.{IsReadThen, IsRefused, NeedsMore}
use Rattle.bg_http_read.specs.Responses.{ReadsResponse, ResponseFails}
use Rattle.bg_endpoint_side.specs.Deadlines.{renewed}
use Rattle.bg_endpoint_side.specs.Dialing.{Dialing, Forwarded}
use Rattle.bg_endpoint_side.specs.Outcomes.{health_of, refused}
use Rattle.bg_endpoint_side.specs.OutgoingTexts.{whole, with_written}
use Rattle.bg_endpoint_side.specs.Versions.{begins_with_version}
use Rattle.bg_endpoint_side.specs.declared.forwarded_request.Step.{Step}
use Rattle.bg_endpoint_side.specs.declared.forwarded_request.Step.TheVariants as step
use Rattle.bg_endpoint_side.specs.declared.outcome.ForwardFault.{ForwardFault}
use Rattle.bg_endpoint_side.specs.declared.outcome.ForwardFault.TheVariants as fault
use Rattle.bg_endpoint_side.specs.declared.outcome.Health.{Health}
use Rattle.bg_endpoint_side.specs.declared.outcome.Health.TheVariants as health
use Rattle.bg_endpoint_side.specs.declared.outcome.Outcome.{Outcome}

-- what is to be written now: nothing, if the endpoint reads no more of the request
abbrev pub to_write : Forwarded → List ℕ
to_write f = if f.state.is_unread then [] else f.text.rest

-- the whole text was written
abbrev pub is_sent : Forwarded → Bool
is_sent f = is_empty f.text.rest

-- the time in which something must happen: a byte is taken while some are to be written, and one comes afterwards
abbrev pub patience : Forwarded → ℕ
patience f = if is_empty (to_write f) then f.state.deadlines.idle else 30000

-- something happened now
abbrev pub renew : Forwarded → ℕ → Forwarded
renew f now = record f { state = record f.state { deadlines = renewed f.state.deadlines (patience f) now } }

-- the same only if it did
abbrev pub renew_if : Bool → Forwarded → ℕ → Forwarded
renew_if true f now = renew f now
renew_if false f now = f

-- so many bytes more of the text were written
abbrev pub wrote : Forwarded → ℕ → ℕ → Forwarded
wrote f count now = renew_if (nat_lt 0 count) (record f { text = with_written f.text count }) now

-- the endpoint reads no more of the request
abbrev pub unread : Forwarded → ℕ → Forwarded
unread f now = renew (record f { state = record f.state { is_unread = true } }) now

-- the endpoint has announced the end of the connection
abbrev pub with_end : Forwarded → Forwarded
with_end f = record f { state = record f.state { is_ending = true } }

-- these bytes came
abbrev pub with_bytes : Forwarded → List ℕ → ℕ → Forwarded
with_bytes f bytes now = renew_if (not (is_empty bytes)) (record f { came = f.came ++ bytes }) now

-- the request may be sent again after the connection was closed: the connection was kept, no byte of a response came, and
-- the method is idempotent, or nothing of the request was written (RFC 9110 section 9.2.2, RFC 9112 section 9.3.1)
abbrev pub may_repeat : Forwarded → Bool
may_repeat f =
    f.state.is_kept && is_empty f.came && (f.state.terms.is_idempotent || is_empty f.text.sent)

-- it is sent again, from the first byte of its text on, and on a new connection
abbrev pub again : Forwarded → ℕ → Dialing
again f now = record {
  request = f.request;
  text = whole f.text;
  terms = f.state.terms;
  deadlines = renewed f.state.deadlines 5000 now;
  is_again = true;
}

-- the connection may be kept after this response, whose bytes came on it: the whole text was written, and none of the two
-- sides ends the connection
abbrev pub may_stay : Forwarded → Response → List ℕ → Bool
may_stay f response came =
    is_sent f && keeps f.state.terms.persistence && not f.state.is_ending && begins_with_version came
    && not (says_close response.fields)

-- the answer is what the bytes that came are read as, whatever follows: the response, behind which `left` is left, or a
-- fault of them
abbrev pub AnswersNow : Request → List ℕ → List ℕ → Result Response ForwardFault → Type 0
AnswersNow request came left (Ok response) = IsReadThen request response came left
AnswersNow request came left (Err named) =
    (why : ResponseFault) × (named ≡ fault.Response why) × IsRefused request why came

-- the connection goes back only with a response behind which nothing is left, and only if it may be kept
abbrev pub goes_back : Forwarded → List ℕ → List ℕ → Result Response ForwardFault → Bool
goes_back f came left (Ok response) = is_empty left && may_stay f response came
goes_back f came left (Err named) = false

-- the request is over with these bytes
pub record IsDecided (f : Forwarded) (came : List ℕ) (outcome : Outcome) : Type 0 where
  pub left : List ℕ
  pub answers : AnswersNow f.request came left outcome.answer
  pub goes_back_is : outcome.goes_back ≡ goes_back f came left outcome.answer
  pub health_is : outcome.health ≡ health_of came

-- bytes came: the response needs more, or the request is over
abbrev pub Receives : Forwarded → List ℕ → ℕ → Step → Type 0
Receives f bytes now (step.GoesOn next) =
    (next ≡ with_bytes f bytes now) × NeedsMore f.request (f.came ++ bytes)
Receives f bytes now (step.Again next) = ⊥
Receives f bytes now (step.Over outcome) = IsDecided f (f.came ++ bytes) outcome

-- the answer is what the bytes that came are read as, if they are all
abbrev pub AnswersAtEnd : Request → List ℕ → Result Response ForwardFault → Type 0
AnswersAtEnd request came (Ok response) = ReadsResponse request response came
AnswersAtEnd request came (Err named) =
    (why : ResponseFault) × (named ≡ fault.Response why) × ResponseFails request came why

-- the request is over with the end of the input; if its endpoint reads no more of it, the connection has failed
pub data IsEnded (f : Forwarded) (outcome : Outcome) : Type 0 where
  cut : f.state.is_unread ≡ true → outcome ≡ refused fault.ConnectFailed (health_of f.came) → IsEnded f outcome
  read : f.state.is_unread ≡ false → AnswersAtEnd f.request f.came outcome.answer → outcome.goes_back ≡ false
      → outcome.health ≡ health_of f.came → IsEnded f outcome

-- the input ended: the request is sent again, or it is over
abbrev pub Ends : Forwarded → ℕ → Step → Type 0
Ends f now (step.GoesOn next) = ⊥
Ends f now (step.Again next) = (may_repeat f ≡ true) × (next ≡ again f now)
Ends f now (step.Over outcome) = (may_repeat f ≡ false) × IsEnded f outcome

-- the connection failed: the request is sent again, or it is over
abbrev pub failed : Forwarded → ℕ → Step
failed f now =
    if may_repeat f then step.Again (again f now)
    else step.Over (refused fault.ConnectFailed (health_of f.came))

-- the request is sent again
abbrev pub is_again : Step → Bool
is_again (step.GoesOn next) = false
is_again (step.Again next) = true
is_again (step.Over outcome) = false

-- what a timeout tells of the endpoint: it fails if it was silent for too long, or if it has sent no byte at all
abbrev pub late_health : Forwarded → ℕ → Health
late_health f now =
    if (nat_lt now f.state.deadlines.last && is_empty (to_write f)) || is_empty f.came
    then health.Fails else health.Answers

-- a moment: the request is late, or it goes on
abbrev pub looked : Forwarded → ℕ → Step
looked f now =
    if nat_le f.state.deadlines.until now then step.Over (refused fault.ResponseTimeout (late_health f now))
    else step.GoesOn f
