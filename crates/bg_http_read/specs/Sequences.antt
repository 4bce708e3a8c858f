-- The messages of a connection, one after the other.
use Rattle.std.specs.Prelude.{◌≡◌, ◌≤◌, Bool, ℕ, List, [], ◌∷◌, ◌++◌, length}
use Rattle.bg_http.specs.declared.request.Request.{Request}
use Rattle.bg_http.specs.declared.response.Response.{Response}
use Rattle.bg_http_read.specs.RequestStates.{IsReadThen, LacksRequest}
use Rattle.bg_http_read.specs.Requests.{ReadsRequest}
use Rattle.bg_http_read.specs.ResponseStates.{IsReadThen as IsResponseThen}
use Rattle.bg_http_read.specs.Responses.{ReadsResponseThen}

-- how a message is read from the front of an input: the input, the message, and the bytes after it
abbrev pub Reading : Type 0 → Type 1
Reading A = List ℕ → A → List ℕ → Type 0

-- the input is these messages, each from the byte after the end of the one before, and then `rest`
abbrev pub ReadsAll : {A : Type 0} → Reading A → List A → List ℕ → List ℕ → Type 0
ReadsAll Reads [] input rest = input ≡ rest
ReadsAll Reads (message ∷ more) input rest =
    (after : List ℕ) × Reads input message after × ReadsAll Reads more after rest

-- the input is the responses to these requests, each from the byte after the end of the one before,
-- and then `rest`
abbrev pub AnswersAll
    : (Request → Reading Response) → List Request → List Response → List ℕ → List ℕ → Type 0
AnswersAll Reads [] [] input rest = input ≡ rest
AnswersAll Reads [] (response ∷ more) input rest = ⊥
AnswersAll Reads (request ∷ asked) [] input rest = ⊥
AnswersAll Reads (request ∷ asked) (response ∷ more) input rest =
    (after : List ℕ) × Reads request input response after × AnswersAll Reads asked more after rest

-- an input begins with at most one message, and the message has one end
abbrev pub HasOneEnd : {A : Type 0} → Reading A → List ℕ → A → A → List ℕ → List ℕ → Type 0
HasOneEnd Reads input one other rest left =
    Reads input one rest → Reads input other left → (one ≡ other) × (rest ≡ left)

-- of two sequences that an input begins with, the one that is not longer begins the other
abbrev pub HasOneSequence
    : {A : Type 0} → Reading A → List A → List A → List ℕ → List ℕ → List ℕ → Type 0
HasOneSequence Reads some all input rest left =
    length some ≤ length all → ReadsAll Reads some input rest → ReadsAll Reads all input left
    → (more : List _) × (all ≡ some ++ more) × ReadsAll Reads more rest left

-- an input begins with at most one sequence of the responses to these requests
abbrev pub HasOneSequenceOfAnswers
    : (Request → Reading Response) → List Request → List Response → List Response → List ℕ
    → List ℕ → List ℕ → Type 0
HasOneSequenceOfAnswers Reads requests one other input rest left =
    AnswersAll Reads requests one input rest → AnswersAll Reads requests other input left
    → (one ≡ other) × (rest ≡ left)

-- the bytes that came are these requests, and then those that came since the last one, whatever
-- follows
abbrev pub AreRequestsOf : List Request → List ℕ → List ℕ → Type 0
AreRequestsOf requests came since =
    (more : List ℕ) → ReadsAll ReadsRequest requests (came ++ more) (since ++ more)

-- the next request makes the sequence longer by one
abbrev pub AddsRequest
    : Bool → List Request → Request → List ℕ → List ℕ → List ℕ → Type 0
AddsRequest asked requests request came since left =
    AreRequestsOf requests came since → IsReadThen asked request since left
    → AreRequestsOf (requests ++ request ∷ []) came left

-- the bytes that came on a connection are the responses to these requests, and then those that are
-- left, whatever follows
abbrev pub AreResponsesOf : List Request → List Response → List ℕ → List ℕ → Type 0
AreResponsesOf requests responses came left =
    (more : List ℕ) → AnswersAll ReadsResponseThen requests responses (came ++ more) (left ++ more)

-- on a connection on which nothing is left, the next response makes the sequence longer by one
abbrev pub AddsResponse
    : List Request → Request → List Response → Response → List ℕ → List ℕ → List ℕ → Type 0
AddsResponse requests request responses response came seen left =
    AreResponsesOf requests responses came [] → IsResponseThen request response seen left
    → AreResponsesOf (requests ++ request ∷ []) (responses ++ response ∷ []) (came ++ seen) left

-- if the bytes `before` did not hold a complete request, what is left behind the request is an end
-- of those that came after them
abbrev pub WaitsBehind : Bool → Request → List ℕ → List ℕ → List ℕ → Type 0
WaitsBehind asked request before fresh left =
    LacksRequest before → IsReadThen asked request (before ++ fresh) left
    → (taken : List ℕ) × (fresh ≡ taken ++ left)
