-- The ids of requests.
use Rattle.std.specs.Prelude.{ℕ, ◌-◌, ◌^◌, false, List, [], ◌++◌, codes, Option}
use Rattle.std.specs.Fmt.{digits, format_spec, padded_integral}
use Rattle.bg_http.specs.Elements.{Field}
use Rattle.bg_origin.specs.OriginFields.{first_value}

-- a number as `{:016x}` writes it: in lower-case hexadecimal digits, with zeros before them up to 16
abbrev pub hexadecimal : ℕ → List ℕ
hexadecimal number = padded_integral (format_spec 32 0 4 16 (2 ^ 64 - 1)) false [] (digits 16 false number)

-- the id of the request of a number in a run of the program
abbrev pub id_text : ℕ → ℕ → List ℕ
id_text run number = hexadecimal run ++ hexadecimal number

-- the id that a request is told by: the value of its first X-Request-Id
abbrev pub id_in : List Field → Option (List ℕ)
id_in fields = first_value (codes "x-request-id") fields
