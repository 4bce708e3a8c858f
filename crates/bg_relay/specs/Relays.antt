-- A relay, and what stands for what was read and written.
use Rattle.std.specs.Prelude.{◌≡◌, ℕ, ◌<◌, ◌≤◌, ◌+◌, Bool, ◌&&◌, not, nat_lt, List, ◌++◌, drop, length, take, Option, Some, is_none, if◌then◌else◌, IsFalse, ⊤}
use Rattle.bg_http_read.specs.Bodies.{is_whole}
use Rattle.bg_http_read.specs.BodyFaults.{malformed}
use Rattle.bg_http_read.specs.declared.body.BodyStage.{BodyStage}
use Rattle.bg_http_read.specs.declared.body.BodyStage.TheVariants as stage
use Rattle.bg_relay.specs.Places.{FailsHere, StandsAt}
use Rattle.bg_relay.specs.Steps.{Waits}
use Rattle.bg_relay.specs.declared.framing.Framing.{Framing}
use Rattle.bg_relay.specs.declared.framing.Framing.TheVariants as framing
use Rattle.bg_relay.specs.declared.relay_fault.RelayFault.{RelayFault}
use Rattle.bg_relay.specs.declared.relay_fault.RelayFault.TheVariants as fault

-- the framing of the input and of the output, the number of bytes below which the output is filled up, the most bytes that may be
-- taken of the input and how many more of them may be, the part of the body that comes next in the input, the fault that ended it,
-- and what is to be written
pub record RelayState : Type 0 where
  pub incoming : Framing
  pub outgoing : Framing
  pub window : ℕ
  pub most : ℕ
  pub left : ℕ
  pub stage : BodyStage
  pub fault : Option RelayFault
  pub rest : List ℕ

-- the stage of the output: chunks are complete in it, and its end comes with the end of the body
abbrev pub stage_of_output : Framing → BodyStage → BodyStage
stage_of_output (framing.Length size) incoming = incoming
stage_of_output framing.Chunks incoming = if is_whole incoming then stage.Whole else stage.Line
stage_of_output framing.ToTheEnd incoming = if is_whole incoming then stage.Whole else stage.ToTheEnd

-- after this input, and this output with what is to be written, both sides stand in one body, after the same bytes of it; and the
-- bytes of the input are counted
pub record Passes (relay : RelayState) (input output body : List ℕ) : Type 0 where
  pub counts : relay.left + length input ≡ relay.most
  pub comes : StandsAt relay.incoming relay.stage input body
  pub goes : StandsAt relay.outgoing (stage_of_output relay.outgoing relay.stage) output body

-- the relay stands for this input, and for this output that was written
abbrev pub StandsFor : RelayState → List ℕ → List ℕ → Type 0
StandsFor relay input written = (body : List ℕ) × Passes relay input (written ++ relay.rest) body

-- so many bytes more were written
abbrev pub with_written : RelayState → ℕ → RelayState
with_written relay count = record relay { rest = drop count relay.rest }

-- both sides, the window and the limit are the same
pub record KeepsSides (old new : RelayState) : Type 0 where
  pub incoming : new.incoming ≡ old.incoming
  pub outgoing : new.outgoing ≡ old.outgoing
  pub window : new.window ≡ old.window
  pub most : new.most ≡ old.most

-- if a relay stands for an input, then afterwards it stands for that input and these bytes, and for the same that was written
abbrev pub PassesOn : RelayState → RelayState → List ℕ → Type 0
PassesOn old new taken =
    (input written : List ℕ) → StandsFor old input written → StandsFor new (input ++ taken) written

-- the bytes were not taken because the body is whole, or the output has no room, or more bytes are needed
abbrev pub WaitsFor : RelayState → List ℕ → Type 0
WaitsFor relay bytes =
    IsFalse (is_whole relay.stage) → length relay.rest < relay.window → Waits relay.stage bytes

-- more bytes came than may be taken still
abbrev pub is_too_large : RelayState → List ℕ → Bool
is_too_large relay bytes = not (is_whole relay.stage) && nat_lt relay.left (length bytes)

-- what a fault of feeding says of the bytes that come at this stage, of which so many may be taken
abbrev pub IsFaultAt : RelayFault → BodyStage → ℕ → List ℕ → Type 0
IsFaultAt fault.Malformed stage left bytes = FailsHere malformed stage bytes
IsFaultAt fault.Cut stage left bytes = ⊥
IsFaultAt fault.TooLarge stage left bytes = left < length bytes
IsFaultAt fault.OutOfMemory stage left bytes = ⊤

-- the first of the bytes were taken, and those behind them have this fault: the body is not whole
pub record IsRefusedBehind (old new : RelayState) (bytes : List ℕ) (named : RelayFault) : Type 0 where
  pub taken : ℕ
  pub fits : taken ≤ length bytes
  pub stands : PassesOn old new (take taken bytes)
  pub goes_on : IsFalse (is_whole new.stage)
  pub is_fault : IsFaultAt named new.stage new.left (drop taken bytes)

-- the same, and the fault has ended the relay
abbrev pub BreaksOff : RelayState → RelayState → List ℕ → RelayFault → Type 0
BreaksOff old new bytes named = IsRefusedBehind old new bytes named × (new.fault ≡ Some named)

-- more of the input is to be fed
abbrev pub wants_input : RelayState → Bool
wants_input relay = is_none relay.fault && not (is_whole relay.stage) && nat_lt (length relay.rest) relay.window

-- the relay with a fault that ended it
abbrev pub ended_by : RelayFault → RelayState → RelayState
ended_by named relay = record relay { fault = Some named }
