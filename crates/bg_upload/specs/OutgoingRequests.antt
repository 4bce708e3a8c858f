-- A request that is written to its endpoint as it comes.
use Rattle.std.specs.Prelude.{◌≡◌, ℕ, Bool, true, false, ◌&&◌, if◌then◌else◌, is_none, nat_lt, not, List, [], ◌++◌, drop, length, take, Option, None, Some, Result, Ok, Err, IfSome, IsFalse, IsTrue, IsErr, OnOk, IfErr, ⊤}
use Rattle.bg_http.specs.Codings.{is_empty}
use Rattle.bg_http.specs.Texts.{framed_head_text}
use Rattle.bg_http.specs.declared.request.Request.{Request}
use Rattle.bg_http.specs.declared.request_rules.Framing.{Framing as NamedFraming}
use Rattle.bg_http.specs.declared.request_rules.Framing.TheVariants as named_framing
use Rattle.bg_http_read.specs.Bodies.{is_whole as whole_at}
use Rattle.bg_http_read.specs.declared.body.BodyStage.{BodyStage}
use Rattle.bg_relay.specs.Framings.{incoming_of, most_to_come, outgoing_of}
use Rattle.bg_relay.specs.Relays.{IsFaultAt, KeepsSides, RelayState, StandsFor, WaitsFor, wants_input as relay_wants_input, with_written as relay_with_written}
use Rattle.bg_relay.specs.declared.framing.Framing.{Framing}
use Rattle.bg_relay.specs.declared.framing.Framing.TheVariants as framing
use Rattle.bg_relay.specs.declared.framing.Sides.{Sides}
use Rattle.bg_relay.specs.declared.framing.Sides.TheVariants as sides
use Rattle.bg_relay.specs.declared.relay_fault.RelayFault.{RelayFault}
use Rattle.bg_relay.specs.declared.relay_fault.RelayFault.TheVariants as relay_fault

-- the text of the head, what is left of it to be written, the relay of the body, what came of the body and was not taken, why the
-- body does not come to its end, all bytes of the body that came, and all bytes that were written
pub record OutgoingState : Type 0 where
  pub head : List ℕ
  pub left : List ℕ
  pub relay : RelayState
  pub waiting : List ℕ
  pub fault : Option RelayFault
  pub came : List ℕ
  pub written : List ℕ

abbrev pub state_of : List ℕ → ℕ → RelayState → List ℕ → Option RelayFault → List ℕ → List ℕ → OutgoingState
state_of head sent relay waiting fault came written = record {
  head = head;
  left = drop sent head;
  relay = relay;
  waiting = waiting;
  fault = fault;
  came = came;
  written = written;
}

-- what a fault says of a body whose relay is at this stage and takes so many bytes more, and of the bytes behind
abbrev pub IsFailure : RelayFault → BodyStage → ℕ → List ℕ → Type 0
IsFailure relay_fault.Malformed stage left behind = IsFalse (whole_at stage) × IsFaultAt relay_fault.Malformed stage left behind
IsFailure relay_fault.Cut stage left behind = IsFalse (whole_at stage)
IsFailure relay_fault.TooLarge stage left behind = IsFalse (whole_at stage) × IsFaultAt relay_fault.TooLarge stage left behind
IsFailure relay_fault.OutOfMemory stage left behind = ⊤

-- a body in this framing ends by itself, and not with its connection
abbrev pub tells_end : Framing → Bool
tells_end (framing.Length size) = true
tells_end framing.Chunks = true
tells_end framing.ToTheEnd = false

-- the relay stands for the first of the bytes that came, and those behind them wait, or have the fault. What was written, and what is
-- left of the head, is the head and then what stands for the bytes that the relay took
pub record IsSound (o : OutgoingState) : Type 0 where
  pub input : List ℕ
  pub behind : List ℕ
  pub output : List ℕ
  pub came_is : o.came ≡ input ++ behind
  pub text_is : o.written ++ o.left ≡ o.head ++ output
  pub stands : StandsFor o.relay input output
  pub waits : o.fault ≡ None → (behind ≡ o.waiting) × (o.relay.fault ≡ None)
  pub fails : IfSome o.fault (λ fault. IsFailure fault o.relay.stage o.relay.left behind)
  pub incoming_ends : tells_end o.relay.incoming ≡ true
  pub outgoing_ends : tells_end o.relay.outgoing ≡ true

-- the framings of the body as it comes and as it is written
abbrev pub sides_of : NamedFraming → Sides
sides_of named_framing.NoBody = sides.Length 0
sides_of named_framing.Chunks = sides.IntoChunks framing.Chunks
sides_of (named_framing.Length size) = sides.Length size

-- a request of which no byte of the body came and nothing was written
pub record Begins (request : Request) (named : NamedFraming) (port window most : ℕ) (o : OutgoingState) : Type 0 where
  pub head_is : o.head ≡ framed_head_text false named request port
  pub left_is : o.left ≡ o.head
  pub incoming_is : o.relay.incoming ≡ incoming_of (sides_of named)
  pub outgoing_is : o.relay.outgoing ≡ outgoing_of (sides_of named)
  pub window_is : o.relay.window ≡ window
  pub most_is : o.relay.most ≡ most_to_come (incoming_of (sides_of named)) most
  pub none_waits : o.waiting ≡ []
  pub no_fault : o.fault ≡ None
  pub none_came : o.came ≡ []
  pub none_written : o.written ≡ []

-- what is to be written next
abbrev pub rest_of : OutgoingState → List ℕ
rest_of o = if is_empty o.left then o.relay.rest else o.left

-- more bytes of the body are to be read
abbrev pub wants_input : OutgoingState → Bool
wants_input o = is_none o.fault && relay_wants_input o.relay

-- the whole body was taken
abbrev pub is_whole : OutgoingState → Bool
is_whole o = whole_at o.relay.stage

-- more bytes of the body came than may
abbrev pub is_too_large : OutgoingState → Bool
is_too_large o = not (is_whole o) && nat_lt o.relay.most (length o.came)

-- so many bytes more were written, at most all that were to be written
abbrev pub with_body_written : ℕ → OutgoingState → OutgoingState
with_body_written count o = record o {
  relay = relay_with_written o.relay count;
  written = o.written ++ take count o.relay.rest;
}

abbrev pub with_head_written : ℕ → OutgoingState → OutgoingState
with_head_written count o = record o { left = drop count o.left; written = o.written ++ take count o.left }

abbrev pub with_written : ℕ → OutgoingState → OutgoingState
with_written count o = if is_empty o.left then with_body_written count o else with_head_written count o

-- nothing was written, and the framings, and the window, stay
pub record KeepsWritten (old new : OutgoingState) : Type 0 where
  pub head_is : new.head ≡ old.head
  pub left_is : new.left ≡ old.left
  pub written_is : new.written ≡ old.written
  pub sides : KeepsSides old.relay new.relay

-- the result says whether there is a fault
abbrev pub fault_in : {T : Type 0} → Result T RelayFault → Option RelayFault
fault_in (Ok given) = None
fault_in (Err fault) = Some fault

-- what waits was passed on as far as there was room, or was refused
pub record PassesOn {T : Type 0} (result : Result T RelayFault) (old new : OutgoingState) : Type 0 where
  pub keeps : KeepsWritten old new
  pub came_is : new.came ≡ old.came
  pub fault_is : new.fault ≡ fault_in result
  pub waits : OnOk result (WaitsFor new.relay new.waiting)
  pub limit : IsTrue (is_too_large old) → IsErr result
  pub not_cut : IfErr result (λ fault. ¬ (fault ≡ relay_fault.Cut))

-- these bytes came and wait
pub record Keeps {T : Type 0} (bytes : List ℕ) (result : Result T RelayFault) (old new : OutgoingState) : Type 0 where
  pub keeps : KeepsWritten old new
  pub came_is : new.came ≡ old.came ++ bytes
  pub relay_is : new.relay ≡ old.relay
  pub fault_is : new.fault ≡ fault_in result
  pub waits : OnOk result (new.waiting ≡ old.waiting ++ bytes)
  pub memory : IfErr result (λ fault. fault ≡ relay_fault.OutOfMemory)

-- nothing changes after a fault, which is given again
abbrev pub UnlessFaulty : {T : Type 0} → Result T RelayFault → OutgoingState → OutgoingState → Type 0 → Type 0
UnlessFaulty result old new P =
    (old.fault ≡ None → P) × IfSome old.fault (λ fault. (fault_in result ≡ Some fault) × (new ≡ old))

abbrev pub PassesWaiting : {T : Type 0} → Result T RelayFault → OutgoingState → OutgoingState → Type 0
PassesWaiting result old new = UnlessFaulty result old new (PassesOn result old new)

-- these bytes more came, and then what waits was passed on
abbrev pub with_bytes : List ℕ → OutgoingState → OutgoingState
with_bytes bytes o = record o { came = o.came ++ bytes }

abbrev pub Receives : {T : Type 0} → List ℕ → Result T RelayFault → OutgoingState → OutgoingState → Type 0
Receives bytes result old new = UnlessFaulty result old new (PassesOn result (with_bytes bytes old) new)

-- the input ended: the body is whole, or it is cut off
abbrev pub EndsIf : {T : Type 0} → Bool → Result T RelayFault → OutgoingState → OutgoingState → Type 0
EndsIf true result old new = (fault_in result ≡ None) × (new ≡ old)
EndsIf false result old new =
    (fault_in result ≡ Some relay_fault.Cut) × (new ≡ record old { fault = Some relay_fault.Cut })

abbrev pub EndsInput : {T : Type 0} → Result T RelayFault → OutgoingState → OutgoingState → Type 0
EndsInput result old new = UnlessFaulty result old new (EndsIf (is_whole old) result old new)
