-- The codings that Transfer-Encoding fields name (RFC 9112 section 6.1).
use Rattle.std.specs.Prelude.{ℕ, Bool, true, false, not, List, [], ◌∷◌, filter, codes}
use Rattle.std.specs.Str.{str_eq_ignore_ascii_case}
use Rattle.bg_http.specs.Elements.{Field, elements_named}

-- an empty element
abbrev pub is_empty : List ℕ → Bool
is_empty [] = true
is_empty (byte ∷ more) = false

-- the elements of all Transfer-Encoding fields in order, without the empty ones
abbrev pub codings : List Field → List (List ℕ)
codings fields =
    filter (λ element. not (is_empty element)) (elements_named (codes "transfer-encoding") fields)

-- the coding is `chunked`, in any case of its letters
abbrev pub is_chunked : List ℕ → Bool
is_chunked coding = str_eq_ignore_ascii_case coding (codes "chunked")

-- there is a last coding, and it is `chunked`
abbrev pub ends_in_chunked : List (List ℕ) → Bool
ends_in_chunked [] = false
ends_in_chunked (coding ∷ []) = is_chunked coding
ends_in_chunked (coding ∷ next ∷ more) = ends_in_chunked (next ∷ more)
