-- The bytes that a stream gives, and those of them that wait.
use Rattle.std.specs.Prelude.{◌≡◌, ℕ, ◌≤◌, List, [], ◌++◌, Option, Some, None, ⊤, drop, length, take}
use Rattle.std.specs.Io.KnownBytes.{Consumes, IsAtEnd}
use Rattle.bg_http_read.specs.declared.arrival.Arrival.{Arrival}
use Rattle.bg_http_read.specs.declared.arrival.Arrival.TheVariants as arrival
use Rattle.bg_http_read.specs.declared.arrival.Straight.{Straight}
use Rattle.bg_http_read.specs.declared.arrival.Straight.TheVariants as straight
use Rattle.bg_http_read.specs.declared.intake.Intake.{Intake}

-- the bytes that were read and not yet taken
abbrev pub waiting : Intake → List ℕ
waiting intake = drop intake.taken intake.bytes.items

-- if the bytes that were to come are known, those that are still to come are known too, and this
-- relation holds between them
abbrev pub Leaves : (List ℕ → List ℕ → Type 0) → Option (List ℕ) → Option (List ℕ) → Type 0
Leaves P None after = ⊤
Leaves P (Some input) None = ⊥
Leaves P (Some input) (Some rest) = P input rest

-- a read directly into a body gave these of the bytes that were to come: none if the read was not
-- made or failed, and none at the end of the input
abbrev pub CameStraight : Straight → List ℕ → Option (List ℕ) → Option (List ℕ) → Type 0
CameStraight straight.Unread came before after = (came ≡ []) × Consumes before after came
CameStraight straight.Failed came before after = came ≡ []
CameStraight (straight.Came count) came before after =
    (length came ≡ count) × Consumes before after came × (count ≡ 0 → IsAtEnd after)

-- the bytes that came by such a read are appended to those that were seen
abbrev pub SeesStraight
    : Straight → List ℕ → List ℕ → Option (List ℕ) → Option (List ℕ) → Type 0
SeesStraight read old new before after =
    (came : List ℕ) × (new ≡ old ++ came) × CameStraight read came before after

-- these of the bytes that were to come came, and after them those of the piece, or the end of the
-- input
abbrev pub Arrives
    : Arrival → List ℕ → List ℕ → Option (List ℕ) → Option (List ℕ) → Type 0
Arrives arrival.End came piece before after = Consumes before after came × IsAtEnd after
Arrives (arrival.Piece count) came piece before after =
    (count ≤ length piece) × Consumes before after (came ++ take count piece)
