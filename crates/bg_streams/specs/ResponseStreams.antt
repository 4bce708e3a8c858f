-- The response of an endpoint that is passed on with the bytes that wait, and what stands for what came and what the client took.
use Rattle.std.specs.Prelude.{◌≡◌, ◌≢◌, ◌⊎◌, ℕ, ◌<◌, ◌≤◌, ◌+◌, Bool, true, false, ◌&&◌, ◌||◌, not, IsFalse, IsTrue, List, [], ◌++◌, length, take, None, Option, Some, Err, IfErr, OnOk, Result, ⊤}
use Rattle.bg_http.specs.Codings.{is_empty}
use Rattle.bg_http.specs.declared.request.Request.{Request}
use Rattle.bg_http_read.specs.Bodies.{is_whole as whole_at}
use Rattle.bg_relay.specs.declared.relay_fault.RelayFault.{RelayFault}
use Rattle.bg_relay.specs.declared.relay_fault.RelayFault.TheVariants as relay_fault
use Rattle.bg_streams.specs.Faults.{body_fault}
use Rattle.bg_streams.specs.Framings.{tells_end}
use Rattle.bg_streams.specs.Laws.{IsDrainedAnswer, Law}
use Rattle.bg_streams.specs.ResponseRelays.{IsFaultOf, IsRefusedFor, StandsFor as RelayStandsFor, WaitsFor, can_end, cut_of, fault_of, is_drained as relay_is_drained, is_whole, memory_of, passing_of, rest_of, terms_of, wants_input as relay_wants_input}
use Rattle.bg_streams.specs.declared.passing.Passing.{Passing}
use Rattle.bg_streams.specs.declared.response_relay.ResponseRelay.{ResponseRelay}
use Rattle.bg_streams.specs.declared.response_stream.ResponseStream.{ResponseStream}
use Rattle.bg_streams.specs.declared.stream_fault.StreamFault.{StreamFault}
use Rattle.bg_streams.specs.declared.stream_fault.StreamFault.TheVariants as stream_fault

-- ---- what a stream says

-- the relay, which was fed the bytes that do not wait
abbrev pub relay_of : ResponseStream → ResponseRelay
relay_of stream = stream.relay

-- the bytes that came and wait
abbrev pub waiting_of : ResponseStream → List ℕ
waiting_of stream = stream.waiting.items

-- the client took a byte
abbrev pub is_begun : ResponseStream → Bool
is_begun stream = stream.is_begun

abbrev pub wants_input : ResponseStream → Bool
wants_input stream = relay_wants_input stream.relay

-- the response is whole by its own framing, and nothing came behind it
abbrev pub is_drained : ResponseStream → Bool
is_drained stream = relay_is_drained (passing_of stream.relay) (waiting_of stream)

-- bytes of a body that goes to the end of the input wait
abbrev pub loses : Option Passing → List ℕ → Bool
loses None bytes = false
loses (Some passing) bytes = not (tells_end passing.framing) && not (whole_at passing.relay.stage) && not (is_empty bytes)

-- an end of the input would lose bytes that wait
abbrev pub loses_bytes : ResponseStream → Bool
loses_bytes stream = loses (passing_of stream.relay) (waiting_of stream)

-- ---- what stands for what came and what the client took

-- these bytes came of the response to the request, and the client took these: the relay was fed those that do not wait. It is noted
-- whether the client took a byte
pub record Holds (stream : ResponseStream) (request : Request) (came passed : List ℕ) : Type 0 where
  pub input : List ℕ
  pub came_is : came ≡ input ++ stream.waiting.items
  pub stands : RelayStandsFor stream.relay request input passed
  pub is_open : fault_of stream.relay ≡ None
  pub begins : stream.is_begun ≡ false → passed ≡ []
  pub begun : passed ≡ [] → stream.is_begun ≡ false

-- nothing waits, or what waits was not taken
abbrev pub Waits : ResponseStream → Type 0
Waits stream = (waiting_of stream ≡ []) ⊎ WaitsFor (passing_of stream.relay) (waiting_of stream)

abbrev pub StandsFor : ResponseStream → Request → List ℕ → List ℕ → Type 0
StandsFor stream request came passed = Holds stream request came passed × Waits stream

-- ---- faults

-- what the fault of a body says of these bytes of it
abbrev pub IsCutBy : RelayFault → Option Passing → List ℕ → Type 0
IsCutBy relay_fault.Malformed passing bytes = IsFaultOf relay_fault.Malformed passing bytes
IsCutBy relay_fault.Cut passing bytes = ⊥
IsCutBy relay_fault.TooLarge passing bytes = IsFaultOf relay_fault.TooLarge passing bytes
IsCutBy relay_fault.OutOfMemory passing bytes = ⊤

-- the client took a byte, the relay stands for the first of the bytes that came, and those behind them have this fault
pub record IsCutBehind (relay : ResponseRelay) (request : Request) (came passed : List ℕ) (fault : RelayFault) : Type 0 where
  pub begun : passed ≢ []
  pub input : List ℕ
  pub behind : List ℕ
  pub came_is : came ≡ input ++ behind
  pub stands : RelayStandsFor relay request input passed
  pub is_fault : IsCutBy fault (passing_of relay) behind

-- what a fault says once these bytes came and the client took these: it is refused for these bytes, and took none; or the response
-- is cut off
abbrev pub FailsFor : ResponseStream → Request → List ℕ → List ℕ → StreamFault → Type 0
FailsFor stream request came passed (stream_fault.Refused fault) =
    IsRefusedFor (terms_of stream.relay).most_body request came fault × (passed ≡ [])
FailsFor stream request came passed (stream_fault.Cut fault) = IsCutBehind stream.relay request came passed fault

-- a refusal comes only if the client took nothing, and a cut only if it took a byte
abbrev pub FitsPassed : List ℕ → StreamFault → Type 0
FitsPassed passed (stream_fault.Refused fault) = passed ≡ []
FitsPassed passed (stream_fault.Cut fault) = passed ≢ []

-- ---- calls

-- these bytes more came, and the client took these more: the stream stands for all of them, or it has failed
pub record GoesOn {T : Type 0} (old new : ResponseStream) (bytes taken : List ℕ) (result : Result T StreamFault) : Type 0 where
  pub stands : (request : Request) (came passed : List ℕ) → StandsFor old request came passed
      → OnOk result (StandsFor new request (came ++ bytes) (passed ++ taken))
  pub fails : (request : Request) (came passed : List ℕ) → StandsFor old request came passed
      → IfErr result (FailsFor new request (came ++ bytes) (passed ++ taken))
  pub few : OnOk result (length (waiting_of new) ≤ length (waiting_of old) + length bytes)
  pub begun : new.is_begun ≡ (old.is_begun || not (is_empty taken))
  pub terms : terms_of new.relay ≡ terms_of old.relay

abbrev pub Receives : {T : Type 0} → ResponseStream → ResponseStream → List ℕ → Result T StreamFault → Type 0
Receives old new bytes result = GoesOn old new bytes [] result

-- the client took so many bytes of what is to be written, at most all of them
abbrev pub Takes : {T : Type 0} → ResponseStream → ResponseStream → ℕ → Result T StreamFault → Type 0
Takes old new count result = GoesOn old new [] (take count (rest_of (passing_of old.relay))) result

-- the input ended: the response is whole, or it has failed
pub record EndsInput {T : Type 0} (old new : ResponseStream) (result : Result T StreamFault) : Type 0 where
  pub stands : (request : Request) (came passed : List ℕ) → StandsFor old request came passed
      → OnOk result (StandsFor new request came passed)
  pub whole : OnOk result (IsTrue (is_whole (passing_of new.relay)))
  pub lost : IsTrue (loses_bytes old) → result ≡ Err (body_fault old.is_begun relay_fault.Cut)
  pub cut : (request : Request) (came passed : List ℕ) → StandsFor old request came passed → IsFalse (loses_bytes old)
      → IsFalse (can_end (passing_of old.relay)) → result ≡ Err (cut_of (passing_of old.relay))
  pub memory : (request : Request) (came passed : List ℕ) → StandsFor old request came passed → IsFalse (loses_bytes old)
      → IsTrue (can_end (passing_of old.relay)) → IfErr result (λ fault. fault ≡ memory_of (passing_of old.relay))
  pub refused : (request : Request) (came passed : List ℕ) → StandsFor old request came passed
      → IfErr result (FitsPassed passed)
  pub waits : waiting_of new ≡ waiting_of old
  pub begun : new.is_begun ≡ old.is_begun
  pub terms : terms_of new.relay ≡ terms_of old.relay

-- ---- laws

-- what is said of a response whose head came is so for each stream, and for the bytes that came and do not wait
abbrev pub AlwaysOnStreams : Law → Type 0
AlwaysOnStreams Says =
    (stream : ResponseStream) (passing : Passing) (request : Request) (came passed : List ℕ)
    → StandsFor stream request came passed → passing_of stream.relay ≡ Some passing
    → (input : List ℕ) × (came ≡ input ++ waiting_of stream) × Says stream.relay.terms passing request input passed

-- fewer bytes wait than a head may have, while there is room for more of the input
abbrev pub WaitsShortly : ResponseStream → Request → List ℕ → List ℕ → Type 0
WaitsShortly stream request came passed =
    StandsFor stream request came passed → wants_input stream ≡ true → length (waiting_of stream) < 16384

-- a connection that is drained carried the response that came, and nothing behind it
abbrev pub DrainsWhole : ResponseStream → Passing → Request → List ℕ → List ℕ → Type 0
DrainsWhole stream passing request came passed =
    StandsFor stream request came passed → passing_of stream.relay ≡ Some passing → is_drained stream ≡ true
    → (relay_is_drained (Some passing) [] ≡ true) × IsDrainedAnswer stream.relay.terms passing request came passed
