-- The names of the fields that tell an endpoint where a request comes from.
use Rattle.std.specs.Prelude.{ℕ, Bool, if◌then◌else◌, ◌==◌, ◌||◌, List, map, codes}
use Rattle.std.specs.Str.{str_eq_ignore_ascii_case}

-- a byte of a name, with a dash for an underscore
abbrev pub dashed_byte : ℕ → ℕ
dashed_byte byte = if byte == 95 then 45 else byte

-- a name with a dash for each underscore: servers that give fields as variables of CGI read both names as one
abbrev pub dashed : List ℕ → List ℕ
dashed name = map dashed_byte name

-- the name is this one, in any case of its letters, and with dashes or underscores
abbrev pub is_spelled : List ℕ → List ℕ → Bool
is_spelled name other = str_eq_ignore_ascii_case (dashed name) other

-- a field of this name tells where a request comes from
abbrev pub tells_origin : List ℕ → Bool
tells_origin name =
    is_spelled name (codes "x-forwarded-for") || is_spelled name (codes "x-forwarded-proto")
    || is_spelled name (codes "x-forwarded-host") || is_spelled name (codes "forwarded")
    || is_spelled name (codes "x-request-id")
