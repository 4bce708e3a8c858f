-- A complete request.
use Rattle.std.specs.Prelude.{◌≡◌, ◌⊎◌, ℕ, ◌≤◌, Bool, true, false, IfSome, List, [], ◌∷◌, ◌++◌, length, codes, Option, Some, None, Result, Ok, Err, ⊤}
use Rattle.std.specs.Io.KnownBytes.{Appends, Keeps}
use Rattle.bg_http.specs.RequestRules.{request_framing, owes_continue}
use Rattle.bg_http.specs.declared.request.Request.{Request}
use Rattle.bg_http.specs.declared.request.RequestHead.{RequestHead}
use Rattle.bg_http.specs.declared.request_rules.Framing.{Framing}
use Rattle.bg_http.specs.declared.request_rules.Framing.TheVariants as framing
use Rattle.bg_http.specs.declared.request_rules.TheConstants.{MOST_REQUEST_BODY}
use Rattle.bg_http.specs.declared.request_fault.RequestFault.{RequestFault}
use Rattle.bg_http.specs.declared.request_fault.RequestFault.TheVariants as fault
use Rattle.bg_http_read.specs.BodyFaults.{Failure, malformed, large, cut}
use Rattle.bg_http_read.specs.BodyFramings.{FramedFails}
use Rattle.bg_http_read.specs.Chunks.{ReadsChunks}
use Rattle.bg_http_read.specs.HeadFaults.{RequestHeadFails}
use Rattle.bg_http_read.specs.Heads.{ReadsRequestHead}
use Rattle.bg_http_read.specs.declared.body.BodyFraming.{BodyFraming}
use Rattle.bg_http_read.specs.declared.body.BodyFraming.TheVariants as ends

-- the most bytes that a request's body may have
abbrev pub most_body : ℕ
most_body = MOST_REQUEST_BODY

-- the input is the body that the framing names, and then `rest`
abbrev pub ReadsRequestBody : Framing → List ℕ → Option (List ℕ) → List ℕ → Type 0
ReadsRequestBody framing.NoBody input body rest = (body ≡ None) × (input ≡ rest)
ReadsRequestBody framing.Chunks input body rest =
    (bytes : List ℕ) × (body ≡ Some bytes) × ReadsChunks input bytes rest
    × (length bytes ≤ most_body)
ReadsRequestBody (framing.Length size) input body rest =
    (bytes : List ℕ) × (body ≡ Some bytes) × (length bytes ≡ size) × (input ≡ bytes ++ rest)

-- the input begins with a head that passes all rules and names this framing
pub record JudgedHead (input : List ℕ) (head : RequestHead) (framing : Framing) (after : List ℕ)
    : Type 0 where
  pub reads : ReadsRequestHead input head after
  pub judged : request_framing head ≡ Ok framing

-- the input is the request, and then `rest`
pub record ReadsRequest (input : List ℕ) (request : Request) (rest : List ℕ) : Type 0 where
  pub head : RequestHead
  pub framing : Framing
  pub after : List ℕ
  pub begins : JudgedHead input head framing after
  pub body : ReadsRequestBody framing after request.body rest
  pub method_is : request.method ≡ head.method
  pub target_is : request.target ≡ head.target
  pub minor_is : request.minor ≡ head.minor
  pub fields_are : request.fields ≡ head.fields

-- the input begins with a head, and this is the fault of the first rule that it breaks
pub record BreaksRule (input : List ℕ) (fault : RequestFault) : Type 0 where
  pub head : RequestHead
  pub after : List ℕ
  pub reads : ReadsRequestHead input head after
  pub judged : request_framing head ≡ Err fault

-- what a fault says about an input that should begin with a head: it begins with a head that breaks
-- a rule, and this is the fault of the first rule that it breaks; or it does not begin with a head.
-- Nothing is said about the faults of the machine
abbrev pub HeadRefused : List ℕ → RequestFault → Type 0
HeadRefused input fault = BreaksRule input fault ⊎ RequestHeadFails input fault

-- the input begins with a head that passes all rules, and `P` holds for the head and the bytes
-- after it
pub record AfterHead (input : List ℕ) (P : RequestHead → Framing → List ℕ → Type 0) : Type 0 where
  pub head : RequestHead
  pub framing : Framing
  pub after : List ℕ
  pub begins : JudgedHead input head framing after
  pub holds : P head framing after

-- how the body of a request ends
abbrev pub body_of_request : Framing → BodyFraming
body_of_request framing.NoBody = ends.Empty
body_of_request framing.Chunks = ends.Chunks most_body
body_of_request (framing.Length size) = ends.Length size

-- how the body that the framing names fails
abbrev pub FramedBodyFails : Failure → Framing → List ℕ → Type 0
FramedBodyFails failure named input = FramedFails failure (body_of_request named) input

-- what a fault says about the input of a body
abbrev pub RequestBodyFails : Framing → List ℕ → RequestFault → Type 0
RequestBodyFails named input fault.ReadFailed = ⊤
RequestBodyFails named input fault.WriteFailed = ⊥
RequestBodyFails named input fault.HeadTooLarge = ⊥
RequestBodyFails named input fault.Bad = FramedBodyFails malformed named input
RequestBodyFails named input fault.Closed = FramedBodyFails cut named input
RequestBodyFails named input fault.NotDone = ⊥
RequestBodyFails named input fault.TooLarge = FramedBodyFails large named input
RequestBodyFails named input fault.OutOfMemory = ⊤

-- the head passes all rules, and its body fails
abbrev pub BodyRefused : List ℕ → RequestFault → Type 0
BodyRefused input fault =
    AfterHead input (λ head framing after. RequestBodyFails framing after fault)

-- the head passes all rules, and `100 Continue`, which is owed to it, could not be written
abbrev pub ContinueFails : List ℕ → RequestFault → Type 0
ContinueFails input named =
    (named ≡ fault.WriteFailed)
    × AfterHead input (λ head framing after. owes_continue head framing ≡ true)

-- what a fault says about the input
abbrev pub RequestFails : List ℕ → RequestFault → Type 0
RequestFails input fault =
    HeadRefused input fault ⊎ (BodyRefused input fault ⊎ ContinueFails input fault)

-- the interim response `100 Continue` (RFC 9110 section 15.2.1)
abbrev pub continue_text : List ℕ
continue_text = codes "HTTP/1.1 100 Continue" ++ 13 ∷ 10 ∷ 13 ∷ 10 ∷ []

-- what is written if it is owed, and if it is not
abbrev pub WritesContinue : Bool → Option (List ℕ) → Option (List ℕ) → Type 0
WritesContinue true old new = Appends old new continue_text
WritesContinue false old new = Keeps old new

-- a head that passes all rules was read, and what is owed to it was written
pub record AnswersHead (input old new : Option (List ℕ)) : Type 0 where
  pub head : RequestHead
  pub framing : Framing
  pub begins : IfSome input (λ i. (after : List ℕ) × JudgedHead i head framing after)
  pub wrote : WritesContinue (owes_continue head framing) old new

-- what was written on a fault: nothing if the head is refused, and otherwise what is owed to it
abbrev pub WroteOnFault
    : Option (List ℕ) → Option (List ℕ) → Option (List ℕ) → RequestFault → Type 0
WroteOnFault input old new fault =
    (Keeps old new × IfSome input (λ i. HeadRefused i fault)) ⊎ AnswersHead input old new

-- what was written; nothing is said if writing failed
abbrev pub WroteFor
    : Option (List ℕ) → Option (List ℕ) → Option (List ℕ) → Result Request RequestFault → Type 0
WroteFor input old new (Ok request) = AnswersHead input old new
WroteFor input old new (Err fault.ReadFailed) = WroteOnFault input old new fault.ReadFailed
WroteFor input old new (Err fault.WriteFailed) = ⊤
WroteFor input old new (Err fault.HeadTooLarge) = WroteOnFault input old new fault.HeadTooLarge
WroteFor input old new (Err fault.Bad) = WroteOnFault input old new fault.Bad
WroteFor input old new (Err fault.Closed) = WroteOnFault input old new fault.Closed
WroteFor input old new (Err fault.NotDone) = WroteOnFault input old new fault.NotDone
WroteFor input old new (Err fault.TooLarge) = WroteOnFault input old new fault.TooLarge
WroteFor input old new (Err fault.OutOfMemory) = WroteOnFault input old new fault.OutOfMemory
