-- The response of an endpoint that is passed on, and what stands for what was read and written.
use Rattle.std.specs.Prelude.{◌≡◌, ◌≢◌, ◌⊎◌, ℕ, ◌<◌, ◌≤◌, Bool, true, false, ◌&&◌, IsFalse, List, [], ◌++◌, drop, length, take, Option, None, Some, is_none, ⊤}
use Rattle.bg_http.specs.Codings.{is_empty}
use Rattle.bg_http.specs.Persistences.{keeps}
use Rattle.bg_http.specs.declared.request.Request.{Request}
use Rattle.bg_http.specs.declared.response.Response.{Response}
use Rattle.bg_http.specs.declared.response.ResponseHead.{ResponseHead}
use Rattle.bg_http.specs.declared.response_fault.ResponseFault.{ResponseFault}
use Rattle.bg_http.specs.declared.response_fault.ResponseFault.TheVariants as response
use Rattle.bg_http.specs.declared.response_rules.ResponseFraming.{ResponseFraming}
use Rattle.bg_http_read.specs.Bodies.{can_end as ends_at, is_whole as whole_at}
use Rattle.bg_http_read.specs.BodyFaults.{cut, malformed}
use Rattle.bg_http_read.specs.Heads.{HeadIsCut, response_heads}
use Rattle.bg_http_read.specs.ResponseHeads.{AreHeads, HasTaken, HeadsState}
use Rattle.bg_http_read.specs.Responses.{AfterInterim, FinalHeadThenWithin}
use Rattle.bg_http_read.specs.ResponseStates.{HeadsAreRefused}
use Rattle.bg_relay.specs.Framings.{most_to_come}
use Rattle.bg_relay.specs.Laws.{FailsBody}
use Rattle.bg_relay.specs.Relays.{IsFaultAt, WaitsFor as BodyWaitsFor, wants_input as body_wants_input}
use Rattle.bg_relay.specs.declared.framing.Framing.{Framing}
use Rattle.bg_relay.specs.declared.relay_fault.RelayFault.{RelayFault}
use Rattle.bg_streams.specs.Framings.{incoming, keeps_after, outgoing, tells_end}
use Rattle.bg_streams.specs.HeadTexts.{IsStreamed}
use Rattle.bg_streams.specs.Passings.{Delivers, cut_of as passing_cut, memory_of as passing_memory, rest_of as passing_rest, whole_rest as passing_whole}
use Rattle.bg_streams.specs.declared.passing.Passing.{Passing}
use Rattle.bg_streams.specs.declared.response_relay.ResponseRelay.{ResponseRelay}
use Rattle.bg_streams.specs.declared.stream_fault.StreamFault.{StreamFault}
use Rattle.bg_streams.specs.declared.stream_fault.StreamFault.TheVariants as stream
use Rattle.bg_streams.specs.declared.stream_terms.StreamTerms.{StreamTerms}

-- ---- what a relay says

-- what is known of the client, and the limits
abbrev pub terms_of : ResponseRelay → StreamTerms
terms_of relay = relay.terms

-- the response, once its head came and unless the client is refused
abbrev pub passing_of : ResponseRelay → Option Passing
passing_of relay = relay.passing

-- the fault of a body, bytes of which were written
abbrev pub cut_by : Option RelayFault → Option StreamFault
cut_by None = None
cut_by (Some fault) = Some (stream.Cut fault)

abbrev pub fault_in : Option ResponseFault → Option Passing → Option StreamFault
fault_in (Some fault) passing = Some (stream.Refused fault)
fault_in None None = None
fault_in None (Some passing) = cut_by passing.relay.fault

-- the fault that ended it
abbrev pub fault_of : ResponseRelay → Option StreamFault
fault_of relay = fault_in relay.refusal relay.passing

-- the response without a byte of its body, once its head came
abbrev pub response_of : Option Passing → Option Response
response_of None = None
response_of (Some passing) = Some passing.response

abbrev pub framing_of : Option Passing → Option ResponseFraming
framing_of None = None
framing_of (Some passing) = Some passing.framing

-- the head that is written keeps the connection of the client, once the head of the response came: never before a body that goes to
-- the end of that connection
abbrev pub keeps_of : StreamTerms → Option Passing → Option Bool
keeps_of terms None = None
keeps_of terms (Some passing) =
    Some (keeps_after (outgoing terms.reads_chunks passing.framing) (keeps terms.persistence))

-- all of the response was taken
abbrev pub is_whole : Option Passing → Bool
is_whole None = false
is_whole (Some passing) = whole_at passing.relay.stage

-- the response is whole by its own framing, and nothing is left behind it
abbrev pub is_drained : Option Passing → List ℕ → Bool
is_drained None left = false
is_drained (Some passing) left = is_empty left && tells_end passing.framing && whole_at passing.relay.stage

abbrev pub takes_more : Option Passing → Bool
takes_more None = true
takes_more (Some passing) = body_wants_input passing.relay

-- more of the input is to be fed
abbrev pub wants_input : ResponseRelay → Bool
wants_input relay = is_none relay.refusal && takes_more relay.passing

-- what is to be written next
abbrev pub rest_of : Option Passing → List ℕ
rest_of None = []
rest_of (Some passing) = passing_rest passing

-- all that is left to be written of what was taken
abbrev pub whole_rest : Option Passing → List ℕ
whole_rest None = []
whole_rest (Some passing) = passing_whole passing

-- the response may end at the end of the input
abbrev pub can_end : Option Passing → Bool
can_end None = false
can_end (Some passing) = ends_at passing.relay.stage

-- the fault of an input that ends too early, and of an allocation at its end
abbrev pub cut_of : Option Passing → StreamFault
cut_of None = stream.Refused response.Closed
cut_of (Some passing) = passing_cut passing

abbrev pub memory_of : Option Passing → StreamFault
memory_of None = stream.Refused response.OutOfMemory
memory_of (Some passing) = passing_memory passing

-- ---- what stands for what was read and written

-- the input is the heads of the response to the request, and then bytes of its body; the text of its head was written, and then what
-- stands for these bytes
pub record Answers (terms : StreamTerms) (passing : Passing) (request : Request) (input written : List ℕ) : Type 0 where
  pub head : ResponseHead
  pub heads : List ℕ
  pub came : List ℕ
  pub input_is : input ≡ heads ++ came
  pub are_heads : AreHeads terms.most_body request heads head passing.framing
  pub said : IsStreamed passing.framing head passing.response
  pub incoming_is : passing.relay.incoming ≡ incoming passing.framing
  pub outgoing_is : passing.relay.outgoing ≡ outgoing terms.reads_chunks passing.framing
  pub window_is : passing.relay.window ≡ terms.window
  pub most_is : passing.relay.most ≡ most_to_come (incoming passing.framing) terms.most_body
  pub delivers : Delivers passing (keeps terms.persistence) came written

-- before the head of the response is whole, only interim responses were taken, and nothing was written
abbrev pub StandsWith : StreamTerms → HeadsState → Option Passing → Request → List ℕ → List ℕ → Type 0
StandsWith terms heads None request input written =
    (heads.most ≡ terms.most_body) × HasTaken heads request input × (written ≡ [])
StandsWith terms heads (Some passing) request input written = Answers terms passing request input written

-- the relay stands for this input of the response to the request, and for this output that was written
abbrev pub StandsFor : ResponseRelay → Request → List ℕ → List ℕ → Type 0
StandsFor relay request input written = StandsWith relay.terms relay.heads relay.passing request input written

-- if a relay stands for an input, then afterwards it stands for that input and these bytes, and for the same that was written
abbrev pub PassesOn : ResponseRelay → ResponseRelay → List ℕ → Type 0
PassesOn old new taken =
    (request : Request) (input written : List ℕ) → StandsFor old request input written
    → StandsFor new request (input ++ taken) written

-- the bytes were not taken because a head needs more bytes, or as those of a body
abbrev pub WaitsFor : Option Passing → List ℕ → Type 0
WaitsFor None bytes = HeadIsCut response_heads bytes
WaitsFor (Some passing) bytes = BodyWaitsFor passing.relay bytes

-- ---- faults

-- what the fault says of the bytes of a body, within a limit
abbrev pub BodyFailsBy : ℕ → ResponseFault → Framing → List ℕ → Type 0
BodyFailsBy most response.Bad named came = FailsBody malformed named came
BodyFailsBy most response.Closed named came = FailsBody cut named came
BodyFailsBy most response.TooLarge named came = most_to_come named most < length came
BodyFailsBy most response.OutOfMemory named came = ⊤
BodyFailsBy most other named came = ⊥

-- the input is the heads of a response, judged within a limit, and then bytes of a body that has this fault
abbrev pub IsRefusedAtBody : ℕ → Request → List ℕ → ResponseFault → Type 0
IsRefusedAtBody most request input fault =
    AfterInterim request input (FinalHeadThenWithin most request (λ named came. BodyFailsBy most fault (incoming named) came))

-- the response is refused for its heads, judged within a limit, whatever follows, or for its body
abbrev pub IsRefusedFor : ℕ → Request → List ℕ → ResponseFault → Type 0
IsRefusedFor most request input fault = HeadsAreRefused most request fault input ⊎ IsRefusedAtBody most request input fault

-- the client is refused for these bytes: nothing was written
abbrev pub Refuses : ResponseRelay → List ℕ → ResponseFault → Type 0
Refuses old bytes fault =
    (request : Request) (input written : List ℕ) → StandsFor old request input written
    → IsRefusedFor old.terms.most_body request (input ++ bytes) fault × (written ≡ [])

abbrev pub IsFaultOf : RelayFault → Option Passing → List ℕ → Type 0
IsFaultOf fault None bytes = ⊥
IsFaultOf fault (Some passing) bytes =
    IsFalse (whole_at passing.relay.stage) × IsFaultAt fault passing.relay.stage passing.relay.left bytes

-- a byte was written
abbrev pub HasBegun : ResponseRelay → Type 0
HasBegun relay = (request : Request) (input written : List ℕ) → StandsFor relay request input written → written ≢ []

-- a byte was written before, the first of the bytes were taken, and those behind them have this fault
pub record IsCutBehind (old new : ResponseRelay) (bytes : List ℕ) (fault : RelayFault) : Type 0 where
  pub begun : HasBegun old
  pub taken : ℕ
  pub fits : taken ≤ length bytes
  pub stands : PassesOn old new (take taken bytes)
  pub is_fault : IsFaultOf fault new.passing (drop taken bytes)
  pub kept : fault_of new ≡ Some (stream.Cut fault)

-- what a fault of feeding says
abbrev pub FailsBy : ResponseRelay → ResponseRelay → List ℕ → StreamFault → Type 0
FailsBy old new bytes (stream.Refused fault) = Refuses old bytes fault
FailsBy old new bytes (stream.Cut fault) = IsCutBehind old new bytes fault

-- after a refusal nothing is to be written
abbrev pub WritesNoMore : ResponseRelay → StreamFault → Type 0
WritesNoMore relay (stream.Refused fault) = relay.passing ≡ None
WritesNoMore relay (stream.Cut fault) = ⊤

abbrev pub EndsBy : ResponseRelay → ResponseRelay → List ℕ → StreamFault → Type 0
EndsBy old new bytes named = FailsBy old new bytes named × WritesNoMore new named

-- the fault is a refusal for these bytes
abbrev pub IsRefusal : ResponseRelay → List ℕ → StreamFault → Type 0
IsRefusal old bytes (stream.Refused fault) = Refuses old bytes fault
IsRefusal old bytes (stream.Cut fault) = ⊥

-- the fault is noted: after a refusal nothing of the response is left
abbrev pub noted : ResponseRelay → StreamFault → ResponseRelay
noted relay (stream.Refused fault) = record relay { passing = None; refusal = Some fault }
noted relay (stream.Cut fault) = relay

-- a cut is the fault of the relay
abbrev pub IsKept : ResponseRelay → StreamFault → Type 0
IsKept relay (stream.Refused fault) = ⊤
IsKept relay (stream.Cut fault) = fault_of relay ≡ Some (stream.Cut fault)
