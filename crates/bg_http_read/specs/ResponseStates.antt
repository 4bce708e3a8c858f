-- The state of the parser of a response, and its answers.
use Rattle.std.specs.Prelude.{◌≡◌, ◌⊎◌, Bool, true, false, ℕ, ◌≤◌, List, ◌++◌, length, Option, Some, None, Result, Ok, Err}
use Rattle.bg_http.specs.Codings.{is_empty}
use Rattle.bg_http.specs.declared.request.Request.{Request}
use Rattle.bg_http.specs.declared.response.Response.{Response}
use Rattle.bg_http.specs.declared.response_fault.ResponseFault.{ResponseFault}
use Rattle.bg_http.specs.declared.response_fault.ResponseFault.TheVariants as fault
use Rattle.bg_http.specs.declared.response_rules.ResponseFraming.TheVariants as framing
use Rattle.bg_http_read.specs.Responses.{AfterInterim, FinalHeadThen, HeadsFail, ReadsResponse, ReadsResponseThen, ResponseFails, most_response_body}
use Rattle.bg_http_read.specs.declared.received_response.ReceivedResponse.{ReceivedResponse}

-- the request whose response is read, all bytes that came, and whether more of the input, or its
-- end, may come
pub record ResponseState : Type 0 where
  pub request : Request
  pub seen : List ℕ
  pub is_open : Bool

-- every continuation of the bytes begins with the response
abbrev pub IsRead : Request → Response → List ℕ → Type 0
IsRead request response seen = (more : List ℕ) → ReadsResponse request response (seen ++ more)

-- every continuation of the bytes is the response, and then `left` and the continuation: the
-- response ends where `left` begins
abbrev pub IsReadThen : Request → Response → List ℕ → List ℕ → Type 0
IsReadThen request response seen left =
    (more : List ℕ) → ReadsResponseThen request (seen ++ more) response (left ++ more)

-- every continuation of the bytes is the response, and then what is left and the continuation; the
-- response is drained if and only if nothing is left
abbrev pub IsReceived : Request → ReceivedResponse → List ℕ → Type 0
IsReceived request received seen =
    (left : List ℕ) × IsReadThen request received.response seen left
    × (received.is_drained ≡ is_empty left)

-- every continuation of the bytes has this fault
abbrev pub IsRefused : Request → ResponseFault → List ℕ → Type 0
IsRefused request named seen = (more : List ℕ) → ResponseFails request (seen ++ more) named

-- the heads of every continuation of the bytes have this fault, within a limit on the length of the
-- body
abbrev pub HeadsAreRefused : ℕ → Request → ResponseFault → List ℕ → Type 0
HeadsAreRefused most request named seen =
    (more : List ℕ) → HeadsFail most request (seen ++ more) named

-- the bytes are a response whose body goes to the end of the input
abbrev pub GoesToTheEnd : Request → List ℕ → Type 0
GoesToTheEnd request seen =
    AfterInterim request seen
    (FinalHeadThen request (λ named after. (named ≡ framing.ToTheEnd)
    × (length after ≤ most_response_body)))

-- the bytes do not begin with a complete response
abbrev pub LacksResponse : Request → List ℕ → Type 0
LacksResponse request seen = (response : Response) → ¬ (ReadsResponse request response seen)

-- more bytes are needed: there is no complete response, or it goes to the end of the input
abbrev pub NeedsMore : Request → List ℕ → Type 0
NeedsMore request seen = LacksResponse request seen ⊎ GoesToTheEnd request seen

-- the fault is one of the stream, not of its bytes or of an allocation
abbrev pub is_of_stream : ResponseFault → Bool
is_of_stream fault.ReadFailed = true
is_of_stream fault.HeadTooLarge = false
is_of_stream fault.Bad = false
is_of_stream fault.TooLarge = false
is_of_stream fault.Closed = true
is_of_stream fault.OutOfMemory = false

-- the parser has given neither an answer nor a fault
abbrev pub asks_more : {A : Type 0} → Result (Option A) ResponseFault → Bool
asks_more (Ok None) = true
asks_more (Ok (Some answer)) = false
asks_more (Err named) = false
