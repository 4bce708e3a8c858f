-- The rules by which a response's head is judged, and the end of its body.
use Rattle.std.specs.Prelude.{ℕ, Bool, false, not, if◌then◌else◌, ◌==◌, ◌&&◌, ◌||◌, nat_lt, List, [], ◌∷◌, codes, Option, Some, None, Result, Ok, Err}
use Rattle.std.specs.Str.{bytes_eq}
use Rattle.bg_http.specs.Elements.{has_field}
use Rattle.bg_http.specs.Lengths.{Length, absent, is, wrong, content_length, number_within}
use Rattle.bg_http.specs.Codings.{codings, is_chunked}
use Rattle.bg_http.specs.declared.request.Request.{Request}
use Rattle.bg_http.specs.declared.response.ResponseHead.{ResponseHead}
use Rattle.bg_http.specs.declared.response_rules.ResponseFraming.{ResponseFraming}
use Rattle.bg_http.specs.declared.response_rules.ResponseFraming.TheVariants as framing
use Rattle.bg_http.specs.declared.response_rules.TheConstants.{MOST_RESPONSE_BODY}
use Rattle.bg_http.specs.declared.response_fault.ResponseFault.{ResponseFault}
use Rattle.bg_http.specs.declared.response_fault.ResponseFault.TheVariants as fault

-- the method is HEAD; methods are case-sensitive (RFC 9110 section 9.1)
abbrev pub asks_for_head : Request → Bool
asks_for_head request = bytes_eq request.method (codes "HEAD")

-- no request asks for `101`, because Upgrade is removed, and no code is below 100 (RFC 9110 section
-- 15)
abbrev pub is_bad_code : ℕ → Bool
is_bad_code code = nat_lt code 100 || (code == 101)

-- the code of a response after which another one comes (RFC 9110 section 15.2)
abbrev pub is_interim : ℕ → Bool
is_interim code = nat_lt code 200

-- a response that never has a body: to HEAD, and 204 and 304 (RFC 9112 section 6.3). `to_head` says
-- whether the method of the request is HEAD, here and below
abbrev pub lacks_body : Bool → ℕ → Bool
lacks_body to_head code = to_head || (code == 204) || (code == 304)

-- the same for a response to the request
abbrev pub has_no_body : Request → ℕ → Bool
has_no_body request code = lacks_body (asks_for_head request) code

-- `chunked` is the only coding
abbrev pub is_chunked_only : List (List ℕ) → Bool
is_chunked_only [] = false
is_chunked_only (coding ∷ []) = is_chunked coding
is_chunked_only (coding ∷ next ∷ more) = false

-- a chunked body, only in version 1.1 and without any other coding (stricter than RFC 9112 section
-- 6.3)
abbrev pub framing_by_codings : ResponseHead → Result ResponseFraming ResponseFault
framing_by_codings head =
    if not (head.minor == 0) && is_chunked_only (codings head.fields)
    then Ok framing.Chunks else Err fault.Bad

abbrev pub or_too_large : Option ℕ → Result ResponseFraming ResponseFault
or_too_large None = Err fault.TooLarge
or_too_large (Some size) = Ok (framing.Length size)

-- a body of the given length, at most `most`; if no length is given, the body ends with the input
-- (RFC 9112 section 6.3)
abbrev pub framing_by_length_within : ℕ → Length → Result ResponseFraming ResponseFault
framing_by_length_within most absent = Ok framing.ToTheEnd
framing_by_length_within most (is digits) = or_too_large (number_within most digits)
framing_by_length_within most wrong = Err fault.Bad

-- the judgement of a response's head, whose body may have a length of at most `most`: the first rule
-- that applies decides
abbrev pub framing_within : ℕ → Bool → ResponseHead → Result ResponseFraming ResponseFault
framing_within most to_head head =
    if is_bad_code head.code then Err fault.Bad
    else (if is_interim head.code then Ok framing.Interim
    else (if lacks_body to_head head.code then Ok framing.NoBody
    else (if has_field (codes "transfer-encoding") head.fields then framing_by_codings head
    else framing_by_length_within most (content_length head.fields))))

-- the judgement of the head of a response to the request
abbrev pub response_framing_within : ℕ → Request → ResponseHead → Result ResponseFraming ResponseFault
response_framing_within most request head = framing_within most (asks_for_head request) head

-- the same for a response that is read as a whole: its length is at most `MOST_RESPONSE_BODY`
abbrev pub framing_by_length : Length → Result ResponseFraming ResponseFault
framing_by_length given = framing_by_length_within MOST_RESPONSE_BODY given

abbrev pub framing_for : Bool → ResponseHead → Result ResponseFraming ResponseFault
framing_for to_head head = framing_within MOST_RESPONSE_BODY to_head head

abbrev pub response_framing : Request → ResponseHead → Result ResponseFraming ResponseFault
response_framing request head = response_framing_within MOST_RESPONSE_BODY request head

-- the digits of a number; `0` for zero, which has no digits without its leading zeros
abbrev pub digits_or_zero : List ℕ → List ℕ
digits_or_zero [] = codes "0"
digits_or_zero (digit ∷ more) = digit ∷ more

-- the one given length, if there is one
abbrev pub valid_length : Length → Option (List ℕ)
valid_length absent = None
valid_length (is digits) = Some (digits_or_zero digits)
valid_length wrong = None

-- for a response without a body, the length that its head gives for the body: to HEAD and in a 304
-- the valid length of its fields if there is no Transfer-Encoding, and none in a 204 (RFC 9110
-- section 8.6)
abbrev pub length_told : ResponseHead → Option (List ℕ)
length_told head =
    if (head.code == 204) || has_field (codes "transfer-encoding") head.fields then None
    else valid_length (content_length head.fields)
