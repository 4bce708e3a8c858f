-- A piece of a body as it is written.
use Rattle.std.specs.Prelude.{◌≡◌, ℕ, ◌<◌, ◌≤◌, ◌+◌, ◌^◌, Bool, true, false, List, [], ◌∷◌, ◌++◌, length}
use Rattle.std.specs.Char.{is_ascii_hexdigit}
use Rattle.std.specs.Str.Parse.{digits_value}
use Rattle.httparse.specs.Grammar.{AllPass}
use Rattle.bg_http_read.specs.Chunks.{Leads, ReadsEnd, joined}
use Rattle.bg_relay.specs.declared.framing.Framing.{Framing}
use Rattle.bg_relay.specs.declared.framing.Framing.TheVariants as framing

-- these bytes were appended
abbrev pub Appends : (List ℕ → Type 0) → List ℕ → List ℕ → Type 0
Appends Is old new = (more : List ℕ) × Is more × (new ≡ old ++ more)

-- any bytes were appended
abbrev pub Grows : List ℕ → List ℕ → Type 0
Grows old new = (more : List ℕ) × (new ≡ old ++ more)

-- hexadecimal digits of a size, and no more of them than it needs
pub record IsSize (size : ℕ) (digits : List ℕ) : Type 0 where
  pub some : 0 < length digits
  pub digits_are : AllPass is_ascii_hexdigit digits
  pub value_is : digits_value 16 digits ≡ size
  pub short : (most : ℕ) → 0 < most → size < 16 ^ most → length digits ≤ most

-- after the chunks of a piece: the last chunk if the piece is the last one, and nothing otherwise
abbrev pub EndsPiece : Bool → List ℕ → Type 0
EndsPiece true end = ReadsEnd [] end
EndsPiece false end = end ≡ []

-- complete chunks with these bytes, and the end of the body if the piece is the last one
pub record IsPieceInChunks (is_last : Bool) (bytes piece : List ℕ) : Type 0 where
  pub chunks : List (List ℕ)
  pub leads : Leads (EndsPiece is_last) chunks piece
  pub bytes_are : bytes ≡ joined chunks

-- these bytes of a body in the framing, and the end of the body if they are its last ones
abbrev pub IsPieceIn : Framing → Bool → List ℕ → List ℕ → Type 0
IsPieceIn (framing.Length size) is_last bytes piece = piece ≡ bytes
IsPieceIn framing.Chunks is_last bytes piece = IsPieceInChunks is_last bytes piece
IsPieceIn framing.ToTheEnd is_last bytes piece = piece ≡ bytes

-- the most bytes of framing that the data of a piece takes, and that the end of the body takes
abbrev pub around : List ℕ → ℕ
around [] = 0
around (byte ∷ bytes) = 20

abbrev pub behind : Bool → ℕ
behind true = 5
behind false = 0

-- the same, with at most so many bytes of framing
abbrev pub IsPiece : Framing → Bool → List ℕ → List ℕ → Type 0
IsPiece named is_last bytes piece =
    IsPieceIn named is_last bytes piece × (length piece ≤ length bytes + (around bytes + behind is_last))
