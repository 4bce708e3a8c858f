-- The state of the code while it goes over fields. Callers of the crate see `elements_left` only.
use Rattle.std.specs.Prelude.{◌≡◌, ℕ, ◌+◌, min, false, if◌then◌else◌, List, [], ◌∷◌, ◌++◌, Option, Some, None}
use Rattle.std.specs.Borrow.{Bor}
use Rattle.bg_http.specs.Elements.{elements, elements_named}
use Rattle.bg_http.specs.Lengths.{Length, absent, is, wrong}
use Rattle.bg_http.specs.Codings.{is_chunked, is_empty}
use Rattle.bg_http.specs.Names.{spelled}
use Rattle.bg_http.specs.declared.elements.Elements.{Elements}
use Rattle.bg_http.specs.declared.lengths.OneLength.{OneLength}
use Rattle.bg_http.specs.declared.lengths.OneLength.TheVariants as held
use Rattle.bg_http.specs.declared.codings.Codings.{Codings}

-- the elements of a value, if there is one
abbrev pub elements_if : Option (Bor (List ℕ)) → List (List ℕ)
elements_if None = []
elements_if (Some value) = elements value.now

-- an element, and a value that follows it
abbrev pub FirstElement : List ℕ → Bor (List ℕ) × Option (Bor (List ℕ)) → Type 0
FirstElement value (element, rest) = elements value ≡ element.now ∷ elements_if rest

-- the remaining elements
abbrev pub elements_left : Elements → List (List ℕ)
elements_left e = elements_if e.value ++ elements_named (spelled e.name) e.fields

-- the result of reading the Content-Length fields, as the code holds it
abbrev pub length_held : OneLength → Length
length_held held.Absent = absent
length_held (held.Is digits) = is digits.now
length_held held.Wrong = wrong

-- the elements that the code has seen so far: their number, up to two, and whether the last is
-- `chunked`
abbrev pub add_coding : Codings → List ℕ → Codings
add_coding seen element =
    if is_empty element then seen
    else record { count = min (seen.count + 1) 2; chunked_last = is_chunked element }

abbrev pub no_codings : Codings
no_codings = record { count = 0; chunked_last = false }
