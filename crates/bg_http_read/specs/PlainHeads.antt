-- Heads that are read as they are written, and that a head is the only one.
use Rattle.std.specs.Prelude.{◌≡◌, ◌≤◌, ℕ, Bool, true, false, not, ◌&&◌, All, List, ◌++◌, reverse, flat_map, codes}
use Rattle.std.specs.Char.{is_ascii_alphanumeric}
use Rattle.std.specs.Fmt.{decimal}
use Rattle.std.specs.List.{list_all}
use Rattle.httparse.specs.Grammar.{AllPass, IsToken, is_value_byte, skip_ows}
use Rattle.bg_http.specs.Codings.{is_empty}
use Rattle.bg_http.specs.Elements.{Field}
use Rattle.bg_http.specs.Texts.{field_line}
use Rattle.bg_http.specs.declared.request.RequestHead.{RequestHead}
use Rattle.bg_http.specs.declared.response.ResponseHead.{ResponseHead}
use Rattle.bg_http.specs.declared.response_fault.ResponseFault.{ResponseFault}
use Rattle.bg_http.specs.declared.response_fault.ResponseFault.TheVariants as fault
use Rattle.bg_http_read.specs.HeadFaults.{ResponseHeadFails}
use Rattle.bg_http_read.specs.Heads.{HeadGrammar, ReadsRequestHead, ReadsResponseHead, request_heads, response_heads}

-- a field that is read as it is written: its name is a token, and its value has no control byte but the tab, and no white space at its
-- front and its back
pub record IsPlainField (field : Field) : Type 0 where
  pub name : IsToken field.0
  pub value : AllPass is_value_byte field.1
  pub front : skip_ows field.1 ≡ field.1
  pub back : skip_ows (reverse field.1) ≡ reverse field.1

-- the fields of a head that is read are plain
abbrev pub HasPlainRequestFields : List ℕ → RequestHead → List ℕ → Type 0
HasPlainRequestFields input head rest = ReadsRequestHead input head rest → All IsPlainField head.fields

abbrev pub HasPlainResponseFields : List ℕ → ResponseHead → List ℕ → Type 0
HasPlainResponseFields input head rest = ReadsResponseHead input head rest → All IsPlainField head.fields

-- letters and digits, at least one
abbrev pub is_word : List ℕ → Bool
is_word bytes = not (is_empty bytes) && list_all is_ascii_alphanumeric bytes

-- a field of two words is plain
abbrev pub IsPlainOfWords : List ℕ → List ℕ → Type 0
IsPlainOfWords name value = is_word name ≡ true → is_word value ≡ true → IsPlainField (name, value)

-- the bytes are read as this head and then the rest, and as nothing else, whatever the size of a head
abbrev pub IsReadOnlyAs : {Head : Type 0} → HeadGrammar Head → List ℕ → Head → List ℕ → Type 0
IsReadOnlyAs heads bytes head rest =
    ((tree : heads.Tree) × heads.Reads bytes tree rest × (heads.parts tree ≡ head))
    × ((tree : heads.Tree) (left : List ℕ) → heads.Reads bytes tree left
    → (heads.parts tree ≡ head) × (left ≡ rest))

-- a head with other fields, in version 1.1
abbrev pub request_with : RequestHead → List Field → RequestHead
request_with head fields = record { method = head.method; target = head.target; minor = 1; fields = fields }

abbrev pub response_with : ResponseHead → List Field → ResponseHead
response_with head fields = record { minor = 1; code = head.code; reason = head.reason; fields = fields }

-- the text of a head in version 1.1: its first line, the line of each field, and the empty line
abbrev pub request_lines : RequestHead → List ℕ
request_lines head =
    head.method ++ codes " " ++ head.target ++ codes " HTTP/1.1\r\n" ++ flat_map field_line head.fields ++ codes "\r\n"

abbrev pub response_lines : ResponseHead → List ℕ
response_lines head =
    codes "HTTP/1.1 " ++ decimal head.code ++ codes " " ++ head.reason ++ codes "\r\n" ++ flat_map field_line head.fields
    ++ codes "\r\n"

-- a head that was read, and is written with plain fields, is read as it is written, whatever follows
abbrev pub IsReadWithFields : List ℕ → RequestHead → List ℕ → List Field → List ℕ → Type 0
IsReadWithFields input head rest fields more =
    ReadsRequestHead input head rest → All IsPlainField fields
    → IsReadOnlyAs request_heads (request_lines (request_with head fields) ++ more) (request_with head fields) more

-- a code below 100 is written in fewer digits than it is read in
abbrev pub IsResponseReadWithFields : List ℕ → ResponseHead → List ℕ → List Field → List ℕ → Type 0
IsResponseReadWithFields input head rest fields more =
    ReadsResponseHead input head rest → 100 ≤ head.code → All IsPlainField fields
    → IsReadOnlyAs response_heads (response_lines (response_with head fields) ++ more) (response_with head fields) more

-- an input that begins with a head begins with this one alone, whatever follows, and what is left behind it is what was left, and
-- then what follows
abbrev pub HasOneHead : List ℕ → List ℕ → ResponseHead → ResponseHead → List ℕ → List ℕ → Type 0
HasOneHead input more head other rest left =
    ReadsResponseHead input head rest → ReadsResponseHead (input ++ more) other left
    → (other ≡ head) × (left ≡ rest ++ more)

-- the head of the response is malformed, or larger than a head may be
abbrev pub is_of_head : ResponseFault → Bool
is_of_head fault.ReadFailed = false
is_of_head fault.HeadTooLarge = true
is_of_head fault.Bad = true
is_of_head fault.TooLarge = false
is_of_head fault.Closed = false
is_of_head fault.OutOfMemory = false

-- an input with such a fault begins with no head, whatever follows
abbrev pub NeverHasHeadAt : List ℕ → List ℕ → ResponseFault → ResponseHead → List ℕ → Type 0
NeverHasHeadAt input more named head rest =
    ResponseHeadFails input named → is_of_head named ≡ true → ¬ (ReadsResponseHead (input ++ more) head rest)
