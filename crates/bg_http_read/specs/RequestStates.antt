-- The state of the parser of a request, and its answers.
use Rattle.std.specs.Prelude.{◌≡◌, ◌⊎◌, Bool, true, false, List, ℕ, ◌++◌, Option, Result, Ok, Err, ⊤}
use Rattle.bg_http.specs.RequestRules.{owes_continue}
use Rattle.bg_http.specs.declared.request.Request.{Request}
use Rattle.bg_http.specs.declared.request_fault.RequestFault.{RequestFault}
use Rattle.bg_http.specs.declared.request_fault.RequestFault.TheVariants as fault
use Rattle.bg_http_read.specs.Requests.{AfterHead, HeadRefused, ReadsRequest, RequestBodyFails}
use Rattle.bg_http_read.specs.declared.refused_head.RefusedHead.{RefusedHead}
use Rattle.bg_http_read.specs.declared.request_step.RequestStep.{RequestStep}
use Rattle.bg_http_read.specs.declared.request_step.RequestStep.TheVariants as step

-- all bytes that came, whether `100 Continue` was asked for, whether more of the input, or its end,
-- may come, and the head of a request that was refused
pub record RequestState : Type 0 where
  pub seen : List ℕ
  pub asked : Bool
  pub is_open : Bool
  pub refused : Option RefusedHead

-- the input begins with the request, and `100 Continue` is owed or not, as the first argument says
abbrev pub ReadsAsked : Bool → Request → List ℕ → Type 0
ReadsAsked asked request input =
    (rest : List ℕ) × (reads : ReadsRequest input request rest)
    × (owes_continue reads.head reads.framing ≡ asked)

-- the input fails: there is no head that passes all rules, and nothing is owed; or there is one, to
-- which `100 Continue` is owed or not, and its body fails
abbrev pub FailsAsked : Bool → List ℕ → RequestFault → Type 0
FailsAsked asked input named =
    (HeadRefused input named × (asked ≡ false))
    ⊎ AfterHead input (λ head framing after. RequestBodyFails framing after named
    × (owes_continue head framing ≡ asked))

-- every continuation of the bytes begins with the request
abbrev pub IsReadAsked : Bool → Request → List ℕ → Type 0
IsReadAsked asked request seen = (more : List ℕ) → ReadsAsked asked request (seen ++ more)

-- every continuation of the bytes is the request, and then `left` and the continuation: the request
-- ends where `left` begins
abbrev pub IsReadThen : Bool → Request → List ℕ → List ℕ → Type 0
IsReadThen asked request seen left =
    (more : List ℕ) → (reads : ReadsRequest (seen ++ more) request (left ++ more))
    × (owes_continue reads.head reads.framing ≡ asked)

-- every continuation of the bytes has this fault
abbrev pub IsRefusedAsked : Bool → RequestFault → List ℕ → Type 0
IsRefusedAsked asked named seen = (more : List ℕ) → FailsAsked asked (seen ++ more) named

-- every continuation of the bytes begins with a head to which `100 Continue` is owed
abbrev pub OwesContinue : List ℕ → Type 0
OwesContinue seen =
    (more : List ℕ) → AfterHead (seen ++ more) (λ head framing after. owes_continue head framing ≡ true)

-- the bytes do not begin with a complete request
abbrev pub LacksRequest : List ℕ → Type 0
LacksRequest seen = (request : Request) (rest : List ℕ) → ¬ (ReadsRequest seen request rest)

-- the fault is one of the stream, not of its bytes or of an allocation
abbrev pub is_of_stream : RequestFault → Bool
is_of_stream fault.ReadFailed = true
is_of_stream fault.WriteFailed = true
is_of_stream fault.HeadTooLarge = false
is_of_stream fault.Bad = false
is_of_stream fault.Closed = true
is_of_stream fault.NotDone = false
is_of_stream fault.TooLarge = false
is_of_stream fault.OutOfMemory = false

-- the fact holds for the request, if it is complete
abbrev pub IfWhole : RequestStep → (Request → Type 0) → Type 0
IfWhole step.More P = ⊤
IfWhole step.Continue P = ⊤
IfWhole (step.Whole request) P = P request

-- the fact holds if more bytes are needed
abbrev pub OnMore : RequestStep → Type 0 → Type 0
OnMore step.More P = P
OnMore step.Continue P = ⊤
OnMore (step.Whole request) P = ⊤

-- the fact holds if `100 Continue` is asked for
abbrev pub OnContinue : RequestStep → Type 0 → Type 0
OnContinue step.More P = ⊤
OnContinue step.Continue P = P
OnContinue (step.Whole request) P = ⊤

-- the request is complete
abbrev pub is_whole : RequestStep → Bool
is_whole step.More = false
is_whole step.Continue = false
is_whole (step.Whole request) = true

-- the parser has given neither a request nor a fault
abbrev pub goes_on : Result RequestStep RequestFault → Bool
goes_on (Ok step.More) = true
goes_on (Ok step.Continue) = true
goes_on (Ok (step.Whole request)) = false
goes_on (Err named) = false
