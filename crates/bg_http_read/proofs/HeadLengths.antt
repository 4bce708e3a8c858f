-- The minimum length of a head.
use Rattle.std.proofs.Common.{◌≡◌, ℕ, suc, ◌≤◌, ◌+◌, ◌*◌, List, [], ◌∷◌, ◌++◌, length, All, arith}
use Rattle.std.proofs.lemmas.List.{length-append}
use Rattle.std.specs.List.{flat_map}
use Rattle.httparse.specs.Ascii.{colon, space}
use Rattle.httparse.specs.Grammar.{Field, IsField, LineEnd, crlf, lf, print_end, print_field, print_section, print_blank, print_version, RequestHead, print_request, ResponseHead, print_response, print_reason}

-- the end of a line has at least one byte
end_long : (end : LineEnd) → 1 ≤ length (print_end end)
end_long crlf = omega arith
end_long lf = omega arith

-- a list is at least as long as its end
tail_long : (front tail : List ℕ) → length tail ≤ length (front ++ tail)
tail_long front tail = omega (arith, length-append front tail)

-- a field has a name, a colon and the end of its line
field_long : (field : Field) → IsField field → 3 ≤ length (print_field field)
field_long field is =
    let line = field.name ++ colon ∷ field.raw in
    let whole : length (print_field field) ≡ length line + length (print_end field.end)
    = length-append line (print_end field.end) in
    let text = length-append field.name (colon ∷ field.raw) in
    let end = end_long field.end in
    let name = is.name.0 in
    omega (arith, whole, text, end, name)

fields_long : (fields : List Field) → All IsField fields
    → 3 * length fields ≤ length (flat_map print_field fields)
fields_long [] all = omega arith
fields_long (field ∷ fields) all =
    let first = field_long field (all 0 field (omega arith)) in
    let others = fields_long fields (λ k d below. all (suc k) d (omega (arith, below))) in
    let whole : length (flat_map print_field (field ∷ fields)) ≡ length (print_field field) + length (flat_map print_field fields)
    = length-append (print_field field) (flat_map print_field fields) in
    omega (arith, first, others, whole)

section_long : (fields : List Field) (last : LineEnd) → All IsField fields
    → 3 * length fields ≤ length (print_section fields last)
section_long fields last all =
    let long = fields_long fields all in
    let whole : length (print_section fields last) ≡ length (flat_map print_field fields) + length (print_end last)
    = length-append (flat_map print_field fields) (print_end last) in
    omega (arith, long, whole)

-- a head has at least three bytes for each field
pub request_long : (h : RequestHead) → All IsField h.fields
    → 3 * length h.fields ≤ length (print_request h)
unfolding print_request
request_long h all =
    let line = print_blank h.blank ++ h.method ++ space ∷ h.target ++ space ∷ print_version h.minor ++ print_end h.line_end in
    let long : length (print_section h.fields h.last) ≤ length (print_request h)
    = tail_long line (print_section h.fields h.last) in
    omega (arith, section_long h.fields h.last all, long)

pub response_long : (h : ResponseHead) → All IsField h.fields
    → 3 * length h.fields ≤ length (print_response h)
unfolding print_response
response_long h all =
    let line = print_blank h.blank ++ print_version h.minor ++ space ∷ h.digits ++ print_reason h.reason ++ print_end h.line_end in
    let long : length (print_section h.fields h.last) ≤ length (print_response h)
    = tail_long line (print_section h.fields h.last) in
    omega (arith, section_long h.fields h.last all, long)
