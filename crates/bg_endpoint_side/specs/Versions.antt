-- The version with which a response begins.
use Rattle.std.specs.Prelude.{◌≡◌, ℕ, Bool, true, false, ◌==◌, if◌then◌else◌, List, [], ◌∷◌, codes, Option, Some, None}
use Rattle.std.specs.Option.{option_copied}
use Rattle.bg_endpoint_side.specs.declared.version.VersionMatch.{VersionMatch}

-- what is still to come of a text after these bytes; none if they are not its next ones
abbrev pub awaited : List ℕ → List ℕ → Option (List ℕ)
awaited [] bytes = Some []
awaited (first ∷ more) [] = Some (first ∷ more)
awaited (first ∷ more) (byte ∷ bytes) = if first == byte then awaited more bytes else None

-- the same, if other bytes may have come before
abbrev pub awaited_on : Option (List ℕ) → List ℕ → Option (List ℕ)
awaited_on None bytes = None
awaited_on (Some left) bytes = awaited left bytes

-- nothing is to come of the text
abbrev pub is_whole : Option (List ℕ) → Bool
is_whole None = false
is_whole (Some []) = true
is_whole (Some (first ∷ more)) = false

-- the bytes begin with the version by which a connection is kept, unless a message says that it is closed (RFC 9112
-- section 9.3)
abbrev pub begins_with_version : List ℕ → Bool
begins_with_version came = is_whole (awaited (codes "HTTP/1.1") came)

-- this is what is still to come of the version after these bytes
abbrev pub IsMatch : VersionMatch → List ℕ → Type 0
IsMatch version came = option_copied version.left ≡ awaited (codes "HTTP/1.1") came
