-- Where an input stands in a body.
use Rattle.std.specs.Prelude.{◌≡◌, ℕ, ◌<◌, ◌+◌, List, [], ◌++◌, length}
use Rattle.bg_http_read.specs.BodyFaults.{Failure, LineFails, LineEndFails, TrailersFail}
use Rattle.bg_http_read.specs.Chunks.{Leads, ReadsChunks, ReadsLine, joined}
use Rattle.bg_http_read.specs.declared.body.BodyStage.{BodyStage}
use Rattle.bg_http_read.specs.declared.body.BodyStage.TheVariants as stage
use Rattle.bg_relay.specs.declared.framing.Framing.{Framing}
use Rattle.bg_relay.specs.declared.framing.Framing.TheVariants as framing

-- the stage before the first byte of a body
abbrev pub first_stage : Framing → BodyStage
first_stage (framing.Length size) = stage.Length size
first_stage framing.Chunks = stage.Line
first_stage framing.ToTheEnd = stage.ToTheEnd

-- the input is complete chunks and then bytes of which `Last` says that they begin the next chunk, with these bytes of its data;
-- the body is the data of them all
pub record ChunksThen (Last : List ℕ → List ℕ → Type 0) (input body : List ℕ) : Type 0 where
  pub chunks : List (List ℕ)
  pub begun : List ℕ
  pub leads : Leads (λ last. Last last begun) chunks input
  pub body_is : body ≡ joined chunks ++ begun

-- nothing of the next chunk
abbrev pub NothingOf : List ℕ → List ℕ → Type 0
NothingOf last begun = (last ≡ []) × (begun ≡ [])

-- its line, and all bytes of its data but so many
pub record DataOf (left : ℕ) (last begun : List ℕ) : Type 0 where
  pub size : ℕ
  pub line : ReadsLine last size begun
  pub some : 0 < size
  pub size_is : length begun + left ≡ size

-- the line of size 0
abbrev pub EndOf : List ℕ → List ℕ → Type 0
EndOf last begun = ReadsLine last 0 [] × (begun ≡ [])

-- the input begins a body in this framing, and ends before this stage of it; these are the bytes of the body
abbrev pub StandsAt : Framing → BodyStage → List ℕ → List ℕ → Type 0
StandsAt (framing.Length size) (stage.Length left) input body =
    (body ≡ input) × (length body + left ≡ size)
StandsAt framing.Chunks stage.Line input body = ChunksThen NothingOf input body
StandsAt framing.Chunks (stage.Data left) input body = ChunksThen (DataOf left) input body
StandsAt framing.Chunks stage.Trailers input body = ChunksThen EndOf input body
StandsAt framing.Chunks stage.Whole input body = ReadsChunks input body []
StandsAt framing.ToTheEnd stage.ToTheEnd input body = body ≡ input
StandsAt framing.ToTheEnd stage.Whole input body = body ≡ input
StandsAt named other input body = ⊥

-- what comes at this stage has no part of a body's framing that could be read: it is malformed, or more bytes are needed
abbrev pub FailsHere : Failure → BodyStage → List ℕ → Type 0
FailsHere failure stage.Line input = LineFails failure input
FailsHere failure (stage.Data left) input = (left ≡ 0) × LineEndFails failure input
FailsHere failure stage.Trailers input = TrailersFail failure input
FailsHere failure other input = ⊥
