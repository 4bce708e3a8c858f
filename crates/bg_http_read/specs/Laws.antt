-- No input is both a message and faulty, and none has two faults.
use Rattle.std.specs.Prelude.{◌≡◌, ◌⊎◌, ℕ, Bool, true, false, List, ◌++◌, take}
use Rattle.bg_http.specs.declared.request.Request.{Request}
use Rattle.bg_http.specs.declared.request_fault.RequestFault.{RequestFault}
use Rattle.bg_http.specs.declared.request_fault.RequestFault.TheVariants as fault
use Rattle.bg_http.specs.declared.response.Response.{Response}
use Rattle.bg_http.specs.declared.response_fault.ResponseFault.{ResponseFault}
use Rattle.bg_http.specs.declared.response_fault.ResponseFault.TheVariants as wrong
use Rattle.httparse.specs.Grammar.{EndsInTarget, MayBecomeSection, NeverHasRequest}
use Rattle.httparse.specs.Spans.{SectionOverflows}
use Rattle.bg_http_read.specs.Chunks.{ReadsLine, Leads}
use Rattle.bg_http_read.specs.Requests.{ReadsRequest, RequestFails, AfterHead}
use Rattle.bg_http_read.specs.Responses.{ReadsResponse, ResponseFails, AfterInterim, FinalHeadThen}
use Rattle.bg_http_read.specs.declared.head_limits.TheConstants.{MOST_HEAD}
use Rattle.bg_http_read.specs.declared.trailers.TheConstants.{MOST_TRAILERS, MOST_TRAILER_FIELDS}

-- the fault is one of reading, writing or allocation, not of the input
abbrev pub is_of_machine : RequestFault → Bool
is_of_machine fault.ReadFailed = true
is_of_machine fault.WriteFailed = true
is_of_machine fault.HeadTooLarge = false
is_of_machine fault.Bad = false
is_of_machine fault.Closed = false
is_of_machine fault.NotDone = false
is_of_machine fault.TooLarge = false
is_of_machine fault.OutOfMemory = true

-- the same for a response
abbrev pub is_of_reading : ResponseFault → Bool
is_of_reading wrong.ReadFailed = true
is_of_reading wrong.HeadTooLarge = false
is_of_reading wrong.Bad = false
is_of_reading wrong.TooLarge = false
is_of_reading wrong.Closed = false
is_of_reading wrong.OutOfMemory = true

-- if the input begins with a request, no fault of the input holds
abbrev pub RequestExcludesFaults : List ℕ → List ℕ → Request → RequestFault → Type 0
RequestExcludesFaults input rest request fault =
    ReadsRequest input request rest → RequestFails input fault → is_of_machine fault ≡ true

-- the same for a response
abbrev pub ResponseExcludesFaults
    : Request → List ℕ → Response → ResponseFault → Type 0
ResponseExcludesFaults request input response fault =
    ReadsResponse request response input → ResponseFails request input fault
    → is_of_reading fault ≡ true

-- the input ends within the trailers of a chunked body, after more than
-- `MOST_TRAILER_FIELDS` fields have begun
abbrev pub EndsInManyTrailers : List ℕ → Type 0
EndsInManyTrailers input =
    (chunks : List (List ℕ))
    × Leads (λ last. (after : List ℕ) × ReadsLine last 0 after
    × SectionOverflows MOST_TRAILER_FIELDS (take MOST_TRAILERS after)
    × MayBecomeSection after) chunks input

-- the bytes end within the target of a head, and no continuation of them is a head
abbrev pub EndsInWrongTarget : List ℕ → Type 0
EndsInWrongTarget bytes = EndsInTarget bytes × NeverHasRequest bytes

-- the fault of a request is unspecified if its head ends within an invalid target, at the end of
-- the input or of the first `MOST_HEAD` bytes, or if its body ends within such trailers
abbrev pub IsUndecided : List ℕ → Type 0
IsUndecided input =
    EndsInWrongTarget (take MOST_HEAD input)
    ⊎ AfterHead input (λ head named after. EndsInManyTrailers after)

-- every other input has at most one fault
abbrev pub HasOneFault : List ℕ → RequestFault → RequestFault → Type 0
HasOneFault input one other =
    RequestFails input one → RequestFails input other → is_of_machine one ≡ false
    → is_of_machine other ≡ false → (one ≡ other) ⊎ IsUndecided input

-- unless the input only ended too early, a fault holds for every continuation of the input
abbrev pub StaysAtFault : List ℕ → List ℕ → RequestFault → Type 0
StaysAtFault input more named =
    (named ≡ fault.Closed → ⊥) → RequestFails input named → RequestFails (input ++ more) named

-- the fault of a response is unspecified if its body ends within such trailers
abbrev pub IsUndecidedResponse : Request → List ℕ → Type 0
IsUndecidedResponse request input =
    AfterInterim request input
    (FinalHeadThen request (λ named after. EndsInManyTrailers after))

abbrev pub HasOneResponseFault : Request → List ℕ → ResponseFault → ResponseFault → Type 0
HasOneResponseFault request input one other =
    ResponseFails request input one → ResponseFails request input other
    → is_of_reading one ≡ false → is_of_reading other ≡ false
    → (one ≡ other) ⊎ IsUndecidedResponse request input
