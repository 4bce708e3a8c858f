-- A chunked body (RFC 9112 section 7.1): chunks, a line of size 0, and trailers.
use Rattle.std.specs.Prelude.{◌≡◌, ℕ, ◌<◌, ◌≤◌, List, [], ◌∷◌, ◌++◌, length}
use Rattle.httparse.specs.Ascii.{crlf_bytes}
use Rattle.httparse.specs.Grammar.{ChunkLine, IsChunkLine, print_chunk_line, chunk_size, Field, LineEnd, ReadsSection, print_section}
use Rattle.bg_http_read.specs.declared.chunk_lines.TheConstants.{MOST_LINE}
use Rattle.bg_http_read.specs.declared.trailers.TheConstants.{MOST_TRAILERS, MOST_TRAILER_FIELDS}

-- a chunk's line of at most `MOST_LINE` bytes that announces `size` bytes
pub record IsLineOf (size : ℕ) (line : ChunkLine) : Type 0 where
  pub valid : IsChunkLine line
  pub short : length (print_chunk_line line) ≤ MOST_LINE
  pub size_is : size ≡ chunk_size line

-- the input is such a line and then `after`
pub record ReadsLine (input : List ℕ) (size : ℕ) (after : List ℕ) : Type 0 where
  pub line : ChunkLine
  pub is : IsLineOf size line
  pub input_is : input ≡ print_chunk_line line ++ after

-- the input is a chunk with these bytes, at least one, and then `rest`
pub record ReadsChunk (input bytes rest : List ℕ) : Type 0 where
  pub after : List ℕ
  pub line : ReadsLine input (length bytes) after
  pub some : 0 < length bytes
  pub bytes_are : after ≡ bytes ++ (crlf_bytes ++ rest)

-- the input is trailers, which are read like a head's fields, of at most
-- `MOST_TRAILERS` bytes and `MOST_TRAILER_FIELDS` fields, and then `rest`
pub record ReadsTrailers (input rest : List ℕ) : Type 0 where
  pub fields : List Field
  pub last : LineEnd
  pub reads : ReadsSection input fields last rest
  pub size : length (print_section fields last) ≤ MOST_TRAILERS
  pub count : length fields ≤ MOST_TRAILER_FIELDS

-- the input begins with chunks of these bytes, and `End` holds for the bytes after them
abbrev pub Leads : (List ℕ → Type 0) → List (List ℕ) → List ℕ → Type 0
Leads End [] input = End input
Leads End (bytes ∷ more) input =
    (rest : List ℕ) × ReadsChunk input bytes rest × Leads End more rest

-- the input is the line of size 0 and trailers, and then `rest`
pub record ReadsEnd (rest input : List ℕ) : Type 0 where
  pub after : List ℕ
  pub line : ReadsLine input 0 after
  pub trailers : ReadsTrailers after rest

-- the bytes of the chunks, one after the other
abbrev pub joined : List (List ℕ) → List ℕ
joined [] = []
joined (bytes ∷ more) = bytes ++ joined more

-- the input is the text of a chunked body, and then `rest`
pub record ReadsChunks (input body rest : List ℕ) : Type 0 where
  pub chunks : List (List ℕ)
  pub leads : Leads (ReadsEnd rest) chunks input
  pub body_is : body ≡ joined chunks
