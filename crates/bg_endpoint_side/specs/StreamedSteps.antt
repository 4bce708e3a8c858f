-- What events make of a request whose response is passed on as it comes.
use Rattle.std.specs.Prelude.{◌≡◌, ℕ, Bool, true, false, if◌then◌else◌, List, Some, Result, Ok, Err}
use Rattle.std.specs.Option.{option_map}
use Rattle.bg_http.specs.Persistences.{keeps}
use Rattle.bg_http.specs.declared.response_fault.ResponseFault.TheVariants as response
use Rattle.bg_streams.specs.Faults.{response_fault}
use Rattle.bg_streams.specs.ResponseRelays.{is_whole, keeps_of, passing_of, response_of, terms_of, whole_rest}
use Rattle.bg_streams.specs.ResponseStreams.{EndsInput, Receives, Takes, is_begun, relay_of}
use Rattle.bg_streams.specs.declared.stream_fault.StreamFault.{StreamFault}
use Rattle.bg_streams.specs.declared.stream_fault.StreamFault.TheVariants as stream
use Rattle.bg_endpoint_side.specs.Forwarding.{again, late_health, may_repeat, with_bytes}
use Rattle.bg_endpoint_side.specs.Outcomes.{health_of, of_giving_up}
use Rattle.bg_endpoint_side.specs.Streaming.{Streamed, awaited_from, goes_back, is_late}
use Rattle.bg_endpoint_side.specs.declared.outcome.ForwardFault.{ForwardFault}
use Rattle.bg_endpoint_side.specs.declared.outcome.ForwardFault.TheVariants as fault
use Rattle.bg_endpoint_side.specs.declared.outcome.GivingUp.{GivingUp}
use Rattle.bg_endpoint_side.specs.declared.outcome.Health.{Health}
use Rattle.bg_endpoint_side.specs.declared.streamed_step.StreamedAnswer.{StreamedAnswer}
use Rattle.bg_endpoint_side.specs.declared.streamed_step.StreamedStep.{StreamedStep}
use Rattle.bg_endpoint_side.specs.declared.streamed_step.StreamedStep.TheVariants as step

-- there is no end of a response: the client is refused if it took nothing of one, and otherwise its response is cut off
abbrev pub broken : Bool → ForwardFault → Health → StreamedStep
broken is_begun why told = if is_begun then step.Cut why told else step.Refused why told

-- what happened broke the request off
abbrev pub broken_by : Streamed → ForwardFault → StreamedStep
broken_by s why = broken (is_begun s.stream) why (health_of s.forwarded.came)

-- its response has this fault
abbrev pub faulty : StreamFault → Health → StreamedStep
faulty (stream.Refused named) told = step.Refused (fault.Response (response_fault (stream.Refused named))) told
faulty (stream.Cut named) told = step.Cut (fault.Response (response_fault (stream.Cut named))) told

-- the response is whole: its code, what its head says of the client's connection, what is left of it for the client, and what becomes
-- of the endpoint's connection
pub record IsAnswerOf (s : Streamed) (answer : StreamedAnswer) : Type 0 where
  pub code_is : option_map (λ r. r.code) (response_of (passing_of (relay_of s.stream))) ≡ Some answer.code
  pub persistence_is : keeps_of (terms_of (relay_of s.stream)) (passing_of (relay_of s.stream)) ≡ Some (keeps answer.persistence)
  pub rest_is : answer.rest.items ≡ whole_rest (passing_of (relay_of s.stream))
  pub goes_back_is : answer.goes_back ≡ goes_back s
  pub health_is : answer.health ≡ health_of s.forwarded.came

-- the response has no fault: it is whole or goes on. If there is no memory for what is left of a whole one, it is broken off
abbrev pub GoesOnBy : Bool → Streamed → StreamedStep → Type 0
GoesOnBy false s next = next ≡ step.GoesOn s
GoesOnBy true s (step.GoesOn next) = ⊥
GoesOnBy true s (step.Again next) = ⊥
GoesOnBy true s (step.Whole answer) = IsAnswerOf s answer
GoesOnBy true s (step.Refused why told) = step.Refused why told ≡ broken_by s (fault.Response response.OutOfMemory)
GoesOnBy true s (step.Cut why told) = step.Cut why told ≡ broken_by s (fault.Response response.OutOfMemory)

-- what becomes of a request whose response gave this result
abbrev pub Becomes : Streamed → Result (Unit {0}) StreamFault → StreamedStep → Type 0
Becomes s (Ok x) next = GoesOnBy (is_whole (passing_of (relay_of s.stream))) s next
Becomes s (Err named) next = next ≡ faulty named (health_of s.forwarded.came)

-- bytes came
pub record ReceivesStreamed (s : Streamed) (bytes : List ℕ) (now : ℕ) (next : StreamedStep) : Type 0 where
  pub after : Streamed
  pub result : Result (Unit {0}) StreamFault
  pub forwarded_is : after.forwarded ≡ with_bytes s.forwarded bytes now
  pub stream_is : Receives s.stream after.stream bytes result
  pub becomes : Becomes after result next

-- the client took so many bytes of what is to be written
pub record TakesStreamed (s : Streamed) (count now : ℕ) (next : StreamedStep) : Type 0 where
  pub after : Streamed
  pub result : Result (Unit {0}) StreamFault
  pub forwarded_is : after.forwarded ≡ awaited_from s after.stream now
  pub stream_is : Takes s.stream after.stream count result
  pub becomes : Becomes after result next

-- the input ended, and the request is not sent again
pub record EndsStream (s : Streamed) (next : StreamedStep) : Type 0 where
  pub after : Streamed
  pub result : Result (Unit {0}) StreamFault
  pub forwarded_is : after.forwarded ≡ s.forwarded
  pub stream_is : EndsInput s.stream after.stream result
  pub becomes : Becomes after result next

-- if its endpoint reads no more of the request, the connection has failed
abbrev pub EndsUnread : Bool → Streamed → StreamedStep → Type 0
EndsUnread true s next = next ≡ broken_by s fault.ConnectFailed
EndsUnread false s next = EndsStream s next

-- the input ended: the request is sent again, or its response ends
abbrev pub EndsIf : Bool → Streamed → ℕ → StreamedStep → Type 0
EndsIf true s now next = next ≡ step.Again (again s.forwarded now)
EndsIf false s now next = EndsUnread s.forwarded.state.is_unread s next

abbrev pub EndsStreamed : Streamed → ℕ → StreamedStep → Type 0
EndsStreamed s now next = EndsIf (may_repeat s.forwarded) s now next

-- the connection failed: the request is sent again, or it is broken off
abbrev pub failed_streamed : Streamed → ℕ → StreamedStep
failed_streamed s now =
    if may_repeat s.forwarded then step.Again (again s.forwarded now) else broken_by s fault.ConnectFailed

-- a moment: the request is late, and broken off, or it goes on
abbrev pub looked_streamed : Streamed → ℕ → StreamedStep
looked_streamed s now =
    if is_late s now then broken (is_begun s.stream) fault.ResponseTimeout (late_health s.forwarded now)
    else step.GoesOn s

-- the request is given up
abbrev pub given_up_streamed : Streamed → GivingUp → StreamedStep
given_up_streamed s why = broken_by s (of_giving_up why)

-- the request is sent again
abbrev pub is_again : StreamedStep → Bool
is_again (step.GoesOn next) = false
is_again (step.Again next) = true
is_again (step.Whole answer) = false
is_again (step.Refused why told) = false
is_again (step.Cut why told) = false
