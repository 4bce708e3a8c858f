-- The field names that the rules know.
use Rattle.std.specs.Prelude.{◌≡◌, ℕ, false, List, codes, Option, Some, None}
use Rattle.std.specs.Str.{str_eq_ignore_ascii_case, str_to_ascii_lowercase}
use Rattle.bg_http.specs.declared.names.RuledName.{RuledName}
use Rattle.bg_http.specs.declared.names.RuledName.TheVariants as ruled

-- the name in lower case
abbrev pub spelled : RuledName → List ℕ
spelled ruled.Accept = codes "accept"
spelled ruled.Connection = codes "connection"
spelled ruled.ContentLength = codes "content-length"
spelled ruled.Expect = codes "expect"
spelled ruled.Host = codes "host"
spelled ruled.Te = codes "te"
spelled ruled.Trailer = codes "trailer"
spelled ruled.TransferEncoding = codes "transfer-encoding"
spelled ruled.Upgrade = codes "upgrade"

-- the text is the name in any case of its letters, or none of them
abbrev pub IsRuledAs : List ℕ → Option RuledName → Type 0
IsRuledAs text None = (name : RuledName) → str_eq_ignore_ascii_case text (spelled name) ≡ false
IsRuledAs text (Some name) = str_to_ascii_lowercase text ≡ spelled name
