-- The laws of a relay.
use Rattle.std.specs.Prelude.{◌≡◌, ℕ, ◌<◌, ◌≤◌, true, false, List, [], ◌++◌, length, ⊤}
use Rattle.bg_http_read.specs.Bodies.{is_whole}
use Rattle.bg_http_read.specs.BodyFaults.{Failure}
use Rattle.bg_http_read.specs.BodyFramings.{FramedFails}
use Rattle.bg_http_read.specs.declared.body.BodyStage.{BodyStage}
use Rattle.bg_relay.specs.declared.framing.Framing.{Framing}
use Rattle.bg_relay.specs.declared.framing.Framing.TheVariants as framing
use Rattle.bg_relay.specs.Framings.{ReadsBody, within}
use Rattle.bg_relay.specs.Places.{FailsHere}
use Rattle.bg_relay.specs.Relays.{Passes, RelayState, StandsFor}
use Rattle.bg_relay.specs.Steps.{Waits}

-- what the framing with an end of its own says; one that goes to the end of the connection has none
abbrev pub IfItEnds : Framing → Type 0 → Type 0
IfItEnds (framing.Length size) P = P
IfItEnds framing.Chunks P = P
IfItEnds framing.ToTheEnd P = ⊤

-- the input is this body, and a reader of it reads no other one, and leaves nothing. If the framing has an end of its own, the
-- body ends there, whatever follows
pub record IsBody (named : Framing) (input body : List ℕ) : Type 0 where
  pub reads : ReadsBody named input body []
  pub only : (other left : List ℕ) → ReadsBody named input other left → (other ≡ body) × (left ≡ [])
  pub ends : (more : List ℕ) → IfItEnds named (ReadsBody named (input ++ more) body more)

-- a relay whose body is whole has read a body and nothing else, and its output is that body and nothing else
abbrev pub PassesWhole : RelayState → List ℕ → List ℕ → Type 0
PassesWhole relay input written =
    StandsFor relay input written → is_whole relay.stage ≡ true
    → (body : List ℕ) × IsBody relay.incoming input body × IsBody relay.outgoing (written ++ relay.rest) body

-- the one begins the other
abbrev pub IsFrontOf : List ℕ → List ℕ → Type 0
IsFrontOf front whole = (rest : List ℕ) × (whole ≡ front ++ rest)

-- the bytes that were passed on begin each body that the input, and the output, may become
abbrev pub BeginsBodies : RelayState → List ℕ → List ℕ → List ℕ → List ℕ → List ℕ → List ℕ → Type 0
BeginsBodies relay input output body more whole left =
    Passes relay input output body
    → (ReadsBody relay.incoming (input ++ more) whole left → IsFrontOf body whole)
    × (ReadsBody relay.outgoing (output ++ more) whole left → IsFrontOf body whole)

-- no body begins the input, if the framing has an end of its own
abbrev pub IsNoBody : Framing → List ℕ → Type 0
IsNoBody named input = IfItEnds named ((body rest : List ℕ) → ¬ (ReadsBody named input body rest))

-- before the body is whole, neither the input nor the output begins with a body
abbrev pub HoldsNoBody : RelayState → List ℕ → List ℕ → Type 0
HoldsNoBody relay input written =
    StandsFor relay input written → is_whole relay.stage ≡ false
    → IsNoBody relay.incoming input × IsNoBody relay.outgoing (written ++ relay.rest)

-- the output is in no chunks
abbrev pub HasNoChunks : Framing → Type 0
HasNoChunks (framing.Length size) = ⊤
HasNoChunks framing.Chunks = ⊥
HasNoChunks framing.ToTheEnd = ⊤

-- two relays of one input in one framing have passed on the same bytes of the body; without chunks, their outputs are the same
abbrev pub PassesAlike : RelayState → RelayState → List ℕ → List ℕ → List ℕ → Type 0
PassesAlike one other input first second =
    one.incoming ≡ other.incoming → StandsFor one input first → StandsFor other input second
    → ((body : List ℕ) × Passes one input (first ++ one.rest) body × Passes other input (second ++ other.rest) body)
    × (HasNoChunks one.outgoing → HasNoChunks other.outgoing → first ++ one.rest ≡ second ++ other.rest)

-- the input, read in the framing, fails with this failure, however large a body may be
abbrev pub FailsBody : Failure → Framing → List ℕ → Type 0
FailsBody failure named input = (most : ℕ) × FramedFails failure (within most named) input

-- the bytes that are refused at a stage, or that wait, make the whole input one that is malformed or cut off
abbrev pub FailsWhole : RelayState → List ℕ → List ℕ → List ℕ → Failure → Type 0
FailsWhole relay input written bytes failure =
    StandsFor relay input written → FailsHere failure relay.stage bytes → FailsBody failure relay.incoming (input ++ bytes)

-- no more bytes were taken than may be
abbrev pub KeepsLimit : RelayState → List ℕ → List ℕ → Type 0
KeepsLimit relay input written = StandsFor relay input written → length input ≤ relay.most

-- fewer bytes wait than trailers may have
abbrev pub WaitsShortly : BodyStage → List ℕ → Type 0
WaitsShortly stage bytes = Waits stage bytes → length bytes < 16384
