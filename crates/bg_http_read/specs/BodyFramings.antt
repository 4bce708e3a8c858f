-- How the body of a message of any kind ends, and the message as its bytes are fed.
use Rattle.std.specs.Prelude.{◌≡◌, ℕ, ◌≤◌, List, [], ◌++◌, length}
use Rattle.bg_http_read.specs.Bodies.{Follows}
use Rattle.bg_http_read.specs.BodyFaults.{Failure, ChunksFail, LengthFails, EndFails}
use Rattle.bg_http_read.specs.Chunks.{ReadsChunks}
use Rattle.bg_http_read.specs.declared.body.Body.{Body}
use Rattle.bg_http_read.specs.declared.body.BodyFraming.{BodyFraming}
use Rattle.bg_http_read.specs.declared.body.BodyFraming.TheVariants as framing
use Rattle.bg_http_read.specs.declared.body.BodyStage.{BodyStage}
use Rattle.bg_http_read.specs.declared.body.BodyStage.TheVariants as stage
use Rattle.bg_http_read.specs.declared.message_body.MessageBody.{MessageBody}

-- the input is the body that the framing names, and then `rest`
abbrev pub FramedReads : BodyFraming → List ℕ → List ℕ → List ℕ → Type 0
FramedReads framing.Empty input body rest = (body ≡ []) × (input ≡ rest)
FramedReads (framing.Chunks most) input body rest =
    ReadsChunks input body rest × (length body ≤ most)
FramedReads (framing.Length size) input body rest =
    (length body ≡ size) × (input ≡ body ++ rest)
FramedReads (framing.ToTheEnd most) input body rest =
    (rest ≡ []) × (body ≡ input) × (length body ≤ most)

-- how the body that the framing names fails
abbrev pub FramedFails : Failure → BodyFraming → List ℕ → Type 0
FramedFails failure framing.Empty input = ⊥
FramedFails failure (framing.Chunks most) input = ChunksFail failure most 0 input
FramedFails failure (framing.Length size) input = LengthFails failure size input
FramedFails failure (framing.ToTheEnd most) input = EndFails failure most input

-- the first stage of a body
abbrev pub first_stage : BodyFraming → BodyStage
first_stage framing.Empty = stage.Length 0
first_stage (framing.Chunks most) = stage.Line
first_stage (framing.Length size) = stage.Length size
first_stage (framing.ToTheEnd most) = stage.ToTheEnd

-- the maximum number of bytes of a body
abbrev pub most_of : BodyFraming → ℕ
most_of framing.Empty = 0
most_of (framing.Chunks most) = most
most_of (framing.Length size) = size
most_of (framing.ToTheEnd most) = most

-- the state before the first byte of the body that the framing names
pub record StartsBody (named : BodyFraming) (body : Body) : Type 0 where
  pub stage_is : body.stage ≡ first_stage named
  pub none : body.bytes.items ≡ []
  pub limit_is : body.limit ≡ most_of named

-- how the head of a kind of message is found in the bytes, with the bytes after it, and how its body
-- ends
pub record Finding (Head Framing : Type 0) : Type 1 where
  pub Found : List ℕ → Head → Framing → List ℕ → Type 0
  pub ends : Framing → BodyFraming

-- the head was found in the bytes, and reading the body from the bytes after the head is reading
-- its rest from the bytes that wait
pub record FedBody
    {Head Framing : Type 0} (kind : Finding Head Framing) (message : MessageBody Head Framing)
    (waits seen : List ℕ) : Type 0 where
  pub after : List ℕ
  pub found : kind.Found seen message.head message.framing after
  pub start : Body
  pub starts : StartsBody (kind.ends message.framing) start
  pub follows : Follows start after message.body waits
  pub limit : message.body.limit ≡ start.limit
