-- The rules that a request's head has to pass, and the end of its body.
use Rattle.std.specs.Prelude.{ℕ, Bool, true, false, not, if◌then◌else◌, ◌==◌, ◌&&◌, ◌||◌, nat_lt, List, [], ◌∷◌, length, count_by, codes, Option, Some, None, Result, Ok, Err}
use Rattle.std.specs.Str.{bytes_eq, str_eq_ignore_ascii_case}
use Rattle.std.specs.List.{list_any}
use Rattle.std.specs.Result.{result_err}
use Rattle.bg_http.specs.Elements.{Field, is_named, has_field}
use Rattle.bg_http.specs.Lengths.{Length, absent, is, wrong, content_length, number_within}
use Rattle.bg_http.specs.Codings.{codings, ends_in_chunked}
use Rattle.bg_http.specs.declared.request.RequestHead.{RequestHead}
use Rattle.bg_http.specs.declared.request_rules.Framing.{Framing}
use Rattle.bg_http.specs.declared.request_rules.Framing.TheVariants as framing
use Rattle.bg_http.specs.declared.request_rules.TheConstants.{MOST_REQUEST_BODY}
use Rattle.bg_http.specs.declared.request_fault.RequestFault.{RequestFault}
use Rattle.bg_http.specs.declared.request_fault.RequestFault.TheVariants as fault

-- a rule: for a head it gives nothing, or the fault if the head breaks the rule
abbrev pub Rule : Type 0
Rule = RequestHead → Option RequestFault

-- `CONNECT` is not supported (RFC 9110 section 9.3.6)
abbrev pub connect_fault : Rule
connect_fault head =
    if bytes_eq head.method (codes "CONNECT") then Some fault.NotDone else None

-- there is at most one Host, and in version 1.1 there is one (RFC 9112 section 3.2)
abbrev pub host_fault : Rule
host_fault head =
    let hosts = count_by (is_named (codes "host")) head.fields in
    if nat_lt 1 hosts || (hosts == 0 && not (head.minor == 0)) then Some fault.Bad else None

-- Transfer-Encoding never comes with Content-Length, and never in version 1.0 (stricter than RFC
-- 9112 section 6.1, which permits a repair of the first)
abbrev pub framing_fault : Rule
framing_fault head =
    if has_field (codes "transfer-encoding") head.fields
    && (has_field (codes "content-length") head.fields || (head.minor == 0))
    then Some fault.Bad else None

-- if there is Transfer-Encoding, its last coding is `chunked` (RFC 9112 section 6.3), and there is
-- no other before it
abbrev pub coding_fault : Rule
coding_fault head =
    if not (has_field (codes "transfer-encoding") head.fields) then None
    else (if not (ends_in_chunked (codings head.fields)) then Some fault.Bad
    else (if nat_lt 1 (length (codings head.fields)) then Some fault.NotDone else None))

-- a number, or the fault that it is too large
abbrev pub size_or_too_large : Option ℕ → Result (Option ℕ) RequestFault
size_or_too_large None = Err fault.TooLarge
size_or_too_large (Some size) = Ok (Some size)

-- the given length, if there is one; a fault if it is invalid or above `most`
abbrev pub length_within : ℕ → Length → Result (Option ℕ) RequestFault
length_within most absent = Ok None
length_within most (is digits) = size_or_too_large (number_within most digits)
length_within most wrong = Err fault.Bad

-- the length that Content-Length gives: at most `most` (RFC 9110 section 8.6)
abbrev pub body_length_within : ℕ → RequestHead → Result (Option ℕ) RequestFault
body_length_within most head = length_within most (content_length head.fields)

-- if there is Content-Length, it gives one length, which is not too large
abbrev pub length_fault_within : ℕ → Rule
length_fault_within most head = result_err (body_length_within most head)

-- the rules in their order, for bodies of at most `most` bytes
abbrev pub rules_within : ℕ → List Rule
rules_within most =
    connect_fault ∷ host_fault ∷ framing_fault ∷ coding_fault ∷ length_fault_within most ∷ []

abbrev pub or_later : Option RequestFault → Option RequestFault → Option RequestFault
or_later None later = later
or_later (Some fault) later = Some fault

-- the fault of the first rule that the head breaks
abbrev pub first_broken : List Rule → RequestHead → Option RequestFault
first_broken [] head = None
first_broken (rule ∷ rules) head = or_later (rule head) (first_broken rules head)

-- a body of the given length; no body if there is no length
abbrev pub framing_of_length : Result (Option ℕ) RequestFault → Framing
framing_of_length (Ok None) = framing.NoBody
framing_of_length (Ok (Some size)) = framing.Length size
framing_of_length (Err fault) = framing.NoBody

-- the framing of the body of a head that breaks no rule (RFC 9112 section 6.3)
abbrev pub framing_within : ℕ → RequestHead → Framing
framing_within most head =
    if has_field (codes "transfer-encoding") head.fields then framing.Chunks
    else framing_of_length (body_length_within most head)

abbrev pub unless_broken : Option RequestFault → Framing → Result Framing RequestFault
unless_broken None framing = Ok framing
unless_broken (Some fault) framing = Err fault

-- the judgement of a request's head: the first fault, or the framing of the body, of at most `most` bytes
abbrev pub request_framing_within : ℕ → RequestHead → Result Framing RequestFault
request_framing_within most head = unless_broken (first_broken (rules_within most) head) (framing_within most head)

-- THE MOST BYTES OF A BODY THAT IS READ WHOLE

abbrev pub body_length : RequestHead → Result (Option ℕ) RequestFault
body_length = body_length_within MOST_REQUEST_BODY

abbrev pub length_fault : Rule
length_fault = length_fault_within MOST_REQUEST_BODY

abbrev pub request_rules : List Rule
request_rules = rules_within MOST_REQUEST_BODY

abbrev pub framing_of : RequestHead → Framing
framing_of = framing_within MOST_REQUEST_BODY

abbrev pub request_framing : RequestHead → Result Framing RequestFault
request_framing = request_framing_within MOST_REQUEST_BODY

-- the field is an Expect that is `100-continue`, in any case of its letters
abbrev pub expects_continue : Field → Bool
expects_continue field =
    is_named (codes "expect") field
    && str_eq_ignore_ascii_case field.1 (codes "100-continue")

-- there is a body, and it is not empty
abbrev pub has_body : Framing → Bool
has_body framing.NoBody = false
has_body framing.Chunks = true
has_body (framing.Length size) = nat_lt 0 size

-- `100 Continue` has to be written before the body is read (RFC 9110 section 10.1.1): in version
-- 1.1, if it is expected and there is a body
abbrev pub owes_continue : RequestHead → Framing → Bool
owes_continue head framing =
    not (head.minor == 0) && has_body framing && list_any expects_continue head.fields
