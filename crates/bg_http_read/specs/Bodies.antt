-- The input that a body's parser has still to read.
use Rattle.std.specs.Prelude.{◌≡◌, ◌⊎◌, ℕ, ◌≤◌, ◌+◌, ◌-◌, Bool, true, false, ◌==◌, IsFalse, List, [], ◌++◌, length, drop, ⊤}
use Rattle.httparse.specs.Ascii.{crlf_bytes}
use Rattle.bg_http_read.specs.BodyFaults.{Failure, malformed, large, cut, ChunksFail, LengthFails, LineEndFails, TrailersFail, EndFails}
use Rattle.bg_http_read.specs.Chunks.{ReadsChunks, ReadsTrailers}
use Rattle.bg_http_read.specs.declared.body.BodyStage.{BodyStage}
use Rattle.bg_http_read.specs.declared.body.BodyStage.TheVariants as stage
use Rattle.bg_http_read.specs.declared.body.Body.{Body}
use Rattle.bg_http_read.specs.declared.message_fault.MessageFault.{MessageFault}
use Rattle.bg_http_read.specs.declared.message_fault.MessageFault.TheVariants as fault

-- the input is `size` bytes, which are the rest of the body, and then `rest`
pub record ReadsLength (size : ℕ) (done input body rest : List ℕ) : Type 0 where
  pub bytes : List ℕ
  pub size_is : length bytes ≡ size
  pub input_is : input ≡ bytes ++ rest
  pub body_is : body ≡ done ++ bytes

-- the input is chunks, their end and trailers, which are the rest of the body, and then `rest`
pub record ReadsMoreChunks (done input body rest : List ℕ) : Type 0 where
  pub bytes : List ℕ
  pub chunks : ReadsChunks input bytes rest
  pub body_is : body ≡ done ++ bytes

-- the input begins with `size` bytes of a chunk and a line end; chunks follow
pub record ReadsData (size : ℕ) (done input body rest : List ℕ) : Type 0 where
  pub bytes : List ℕ
  pub after : List ℕ
  pub size_is : length bytes ≡ size
  pub input_is : input ≡ bytes ++ (crlf_bytes ++ after)
  pub chunks : ReadsMoreChunks (done ++ bytes) after body rest

-- at a stage, after the bytes `done`, the input is the rest of the body `body` and the bytes after
-- it
abbrev pub ReadsOn : BodyStage → List ℕ → List ℕ → List ℕ → List ℕ → Type 0
ReadsOn (stage.Length left) done input body rest = ReadsLength left done input body rest
ReadsOn stage.Line done input body rest = ReadsMoreChunks done input body rest
ReadsOn (stage.Data left) done input body rest = ReadsData left done input body rest
ReadsOn stage.Trailers done input body rest = ReadsTrailers input rest × (body ≡ done)
ReadsOn stage.ToTheEnd done input body rest = (rest ≡ []) × (body ≡ done ++ input)
ReadsOn stage.Whole done input body rest = (input ≡ rest) × (body ≡ done)

-- the input begins with `size` bytes of a chunk and a line end, and then the chunks fail
pub record FailsAfterData (failure : Failure) (limit sum size : ℕ) (input : List ℕ) : Type 0 where
  pub bytes : List ℕ
  pub after : List ℕ
  pub size_is : length bytes ≡ size
  pub input_is : input ≡ bytes ++ (crlf_bytes ++ after)
  pub fails : ChunksFail failure limit (sum + size) after

-- at a stage, after this many bytes, the input fails with this failure
abbrev pub FailsOn : Failure → ℕ → BodyStage → ℕ → List ℕ → Type 0
FailsOn failure limit (stage.Length left) sum input = LengthFails failure left input
FailsOn failure limit stage.Line sum input = ChunksFail failure limit sum input
FailsOn failure limit (stage.Data left) sum input =
    LineEndFails failure (drop left input) ⊎ FailsAfterData failure limit sum left input
FailsOn failure limit stage.Trailers sum input = TrailersFail failure input
FailsOn failure limit stage.ToTheEnd sum input = EndFails failure (limit - sum) input
FailsOn failure limit stage.Whole sum input = ⊥

-- the body is complete
abbrev pub is_whole : BodyStage → Bool
is_whole (stage.Length left) = left == 0
is_whole stage.Line = false
is_whole (stage.Data left) = false
is_whole stage.Trailers = false
is_whole stage.ToTheEnd = false
is_whole stage.Whole = true

-- the body may end at the end of the input
abbrev pub can_end : BodyStage → Bool
can_end (stage.Length left) = left == 0
can_end stage.Line = false
can_end (stage.Data left) = false
can_end stage.Trailers = false
can_end stage.ToTheEnd = true
can_end stage.Whole = true

-- the number of bytes that are known to come
abbrev pub announced : BodyStage → ℕ
announced (stage.Length left) = left
announced stage.Line = 0
announced (stage.Data left) = left
announced stage.Trailers = 0
announced stage.ToTheEnd = 0
announced stage.Whole = 0

-- the bytes so far and those that are known to come do not exceed the limit
abbrev pub KeepsLimit : Body → Type 0
KeepsLimit parser = length parser.bytes.items + announced parser.stage ≤ parser.limit

-- the state that decides how a body is read has not changed
pub record Unchanged (old new : Body) : Type 0 where
  pub limit : new.limit ≡ old.limit
  pub stage : new.stage ≡ old.stage
  pub bytes : new.bytes.items ≡ old.bytes.items

-- for a limit, two stages with the bytes before them, and bytes: the first bytes were taken, and
-- for every continuation, reading all bytes at the first stage is reading the others at the second
-- stage. If none were taken, more are needed. The second stage goes to the end of the input only if
-- the first does
pub record TakesOn
    (limit : ℕ) (before : BodyStage) (done : List ℕ) (next : BodyStage) (now bytes : List ℕ) (count : ℕ)
    : Type 0 where
  pub fits : count ≤ length bytes
  pub read : (more body rest : List ℕ) → ReadsOn next now (drop count bytes ++ more) body rest
      → ReadsOn before done (bytes ++ more) body rest
  pub fails : (failure : Failure) (more : List ℕ)
      → FailsOn failure limit next (length now) (drop count bytes ++ more)
      → FailsOn failure limit before (length done) (bytes ++ more)
  pub wants : count ≡ 0 → IsFalse (can_end next) → FailsOn cut limit before (length done) bytes
  pub empty : count ≡ 0 → next ≡ stage.ToTheEnd → bytes ≡ []
  pub ends : next ≡ stage.ToTheEnd → before ≡ stage.ToTheEnd

-- the parser took the first bytes
abbrev pub Takes : Body → Body → List ℕ → ℕ → Type 0
Takes old new bytes count =
    (new.limit ≡ old.limit)
    × TakesOn old.limit old.stage old.bytes.items new.stage new.bytes.items bytes count

-- the input that the parser has still to read
abbrev pub Reads : Body → List ℕ → List ℕ → List ℕ → Type 0
Reads parser input body rest = ReadsOn parser.stage parser.bytes.items input body rest

-- how the parser's input fails
abbrev pub Fails : Body → Failure → List ℕ → Type 0
Fails parser failure input =
    FailsOn failure parser.limit parser.stage (length parser.bytes.items) input

-- for every continuation, a parser reads the first bytes as the other parser reads the second
-- bytes, and fails in the same way
pub record Follows (one : Body) (first : List ℕ) (other : Body) (second : List ℕ) : Type 0 where
  pub read : (more body rest : List ℕ) → Reads other (second ++ more) body rest
      → Reads one (first ++ more) body rest
  pub fails : (failure : Failure) (more : List ℕ) → Fails other failure (second ++ more)
      → Fails one failure (first ++ more)
  pub ends : other.stage ≡ stage.ToTheEnd → one.stage ≡ stage.ToTheEnd

-- what a fault says about every continuation of bytes
abbrev pub RefusesOn : ℕ → BodyStage → List ℕ → List ℕ → MessageFault → Type 0
RefusesOn limit before done bytes fault.Bad =
    (more : List ℕ) → FailsOn malformed limit before (length done) (bytes ++ more)
RefusesOn limit before done bytes fault.HeadTooLarge = ⊥
RefusesOn limit before done bytes fault.TooLarge =
    (more : List ℕ) → FailsOn large limit before (length done) (bytes ++ more)
RefusesOn limit before done bytes fault.OutOfMemory = ⊤

abbrev pub Refuses : Body → List ℕ → MessageFault → Type 0
Refuses old bytes fault = RefusesOn old.limit old.stage old.bytes.items bytes fault
