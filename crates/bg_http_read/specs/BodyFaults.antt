-- The failures of the text of a body: the first faulty place decides, and each place fails in one
-- way.
use Rattle.std.specs.Prelude.{◌≡◌, ◌⊎◌, ℕ, ◌<◌, ◌≤◌, ◌+◌, List, ◌++◌, length, take, drop}
use Rattle.httparse.specs.Ascii.{crlf_bytes}
use Rattle.httparse.specs.Grammar.{HasNoChunkLine, NeverHasChunkLine, MayBecomeChunkLine, HasNoSection, MayBecomeSection}
use Rattle.httparse.specs.Spans.{SectionOverflows}
use Rattle.bg_http_read.specs.Chunks.{ReadsLine, Leads, joined}
use Rattle.bg_http_read.specs.declared.chunk_lines.TheConstants.{MOST_LINE}
use Rattle.bg_http_read.specs.declared.trailers.TheConstants.{MOST_TRAILERS, MOST_TRAILER_FIELDS}

-- a body is malformed, larger than its limit, or cut off by the end of the input
pub data Failure : Type 0 where
  malformed large cut : Failure

-- there is no line of a chunk: the first `MOST_LINE` bytes cannot become one, or there are fewer
-- bytes, and they are the beginning of one
abbrev pub LineFails : Failure → List ℕ → Type 0
LineFails malformed input =
    NeverHasChunkLine (take MOST_LINE input)
    ⊎ ((MOST_LINE ≤ length input) × HasNoChunkLine (take MOST_LINE input))
LineFails large input = ⊥
LineFails cut input =
    (length input < MOST_LINE) × HasNoChunkLine input × MayBecomeChunkLine input

-- there is no CR LF after a chunk's data: there are other bytes, or a part of it is missing
abbrev pub LineEndFails : Failure → List ℕ → Type 0
LineEndFails malformed input = (more after : List ℕ) → ¬ (input ++ more ≡ crlf_bytes ++ after)
LineEndFails large input = ⊥
LineEndFails cut input =
    (missing : List ℕ) × (0 < length missing) × (input ++ missing ≡ crlf_bytes)

-- there are no trailers: the first `MOST_TRAILERS` bytes cannot become trailers of at most
-- `MOST_TRAILER_FIELDS` fields, or there are fewer bytes, and they are the beginning of trailers
abbrev pub TrailersFail : Failure → List ℕ → Type 0
TrailersFail malformed input =
    SectionOverflows MOST_TRAILER_FIELDS (take MOST_TRAILERS input)
    ⊎ ((MOST_TRAILERS ≤ length input) × HasNoSection (take MOST_TRAILERS input))
TrailersFail large input = ⊥
TrailersFail cut input =
    (length input < MOST_TRAILERS) × HasNoSection input × MayBecomeSection input

-- after this many bytes of the body, the input fails at the next chunk: it has no line; or its line
-- brings the body above the limit; or the bytes after its data do not end it; or its size is 0 and
-- there are no trailers
pub data FailsAt (failure : Failure) (limit sum : ℕ) (input : List ℕ) : Type 0 where
  at_line : LineFails failure input → FailsAt failure limit sum input
  at_size : (size : ℕ) (after : List ℕ) → ReadsLine input size after → failure ≡ large
      → limit < sum + size → FailsAt failure limit sum input
  after_data : (size : ℕ) (after : List ℕ) → ReadsLine input size after → 0 < size
      → sum + size ≤ limit → LineEndFails failure (drop size after)
      → FailsAt failure limit sum input
  at_trailers : (after : List ℕ) → ReadsLine input 0 after → TrailersFail failure after
      → FailsAt failure limit sum input

-- after this many bytes of the body, the input begins with complete chunks within the limit, and
-- fails at the next chunk
pub record ChunksFail (failure : Failure) (limit sum : ℕ) (input : List ℕ) : Type 0 where
  pub chunks : List (List ℕ)
  pub fits : sum + length (joined chunks) ≤ limit
  pub leads : Leads (FailsAt failure limit (sum + length (joined chunks))) chunks input

-- a body of this many bytes fails if the input ends before its end
abbrev pub LengthFails : Failure → ℕ → List ℕ → Type 0
LengthFails malformed size input = ⊥
LengthFails large size input = ⊥
LengthFails cut size input = length input < size

-- a body that goes to the end of the input fails if it is above the limit
abbrev pub EndFails : Failure → ℕ → List ℕ → Type 0
EndFails malformed limit input = ⊥
EndFails large limit input = limit < length input
EndFails cut limit input = ⊥
