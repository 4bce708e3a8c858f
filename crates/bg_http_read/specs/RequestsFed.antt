-- The bytes of a request that were fed, and those that are still to be read.
use Rattle.std.specs.Prelude.{◌≡◌, Bool, true, false, IsTrue, ℕ, List, drop, Option, Some, None, Result, Ok, Err, ⊤}
use Rattle.httparse.specs.Grammar.{HasNoRequest}
use Rattle.bg_http.specs.RequestRules.{owes_continue}
use Rattle.bg_http.specs.declared.request.Request.{Request}
use Rattle.bg_http.specs.declared.request.RequestHead.{RequestHead}
use Rattle.bg_http.specs.declared.request_fault.RequestFault.{RequestFault}
use Rattle.bg_http.specs.declared.request_fault.RequestFault.TheVariants as fault
use Rattle.bg_http.specs.declared.request_rules.Framing.{Framing}
use Rattle.bg_http.specs.declared.request_rules.Framing.TheVariants as framing
use Rattle.bg_http_read.specs.Bodies.{KeepsLimit}
use Rattle.bg_http_read.specs.BodyFramings.{FedBody, Finding}
use Rattle.bg_http_read.specs.HeadEnds.{after_bytes, is_over}
use Rattle.bg_http_read.specs.Requests.{JudgedHead, body_of_request}
use Rattle.bg_http_read.specs.RequestStates.{FailsAsked, IsReadThen, IsRefusedAsked, LacksRequest, OwesContinue, ReadsAsked}
use Rattle.bg_http_read.specs.Streams.{waiting}
use Rattle.bg_http_read.specs.declared.message_body.MessageBody.{MessageBody}
use Rattle.bg_http_read.specs.declared.head_end.HeadEnd.TheVariants as head_end
use Rattle.bg_http_read.specs.declared.refused_head.RefusedHead.{RefusedHead}
use Rattle.bg_http_read.specs.declared.request_feed.RequestFeed.{RequestFeed}
use Rattle.bg_http_read.specs.declared.request_progress.RequestAdvance.{RequestAdvance}
use Rattle.bg_http_read.specs.declared.request_progress.RequestStage.{RequestStage}
use Rattle.bg_http_read.specs.declared.request_progress.RequestStage.TheVariants as part
use Rattle.bg_http_read.specs.declared.request_step.RequestStep.{RequestStep}
use Rattle.bg_http_read.specs.declared.request_step.RequestStep.TheVariants as step

abbrev pub RequestBody : Type 0
RequestBody = MessageBody RequestHead Framing

-- how the head of a request is found, and how its body ends
abbrev pub requests : Finding RequestHead Framing
requests = record { Found = JudgedHead; ends = body_of_request }

abbrev pub IsFedStage : RequestStage → List ℕ → List ℕ → Type 0
IsFedStage (part.Head end) waits seen = seen ≡ waits
IsFedStage (part.Body request) waits seen = FedBody requests request waits seen
IsFedStage (part.Done told) waits seen = ⊥

abbrev pub IsOpenStage : RequestStage → Type 0
IsOpenStage (part.Head end) = ⊤
IsOpenStage (part.Body request) = KeepsLimit request.body
IsOpenStage (part.Done told) = ⊥

-- the bytes that wait for the end of the head were seen
abbrev pub IsSeen : RequestStage → List ℕ → Type 0
IsSeen (part.Head end) waits = end ≡ after_bytes head_end.Blank waits
IsSeen (part.Body request) waits = ⊤
IsSeen (part.Done told) waits = ⊤

-- there is no complete head at a stage that waits for one
abbrev pub LacksHead : RequestStage → List ℕ → Type 0
LacksHead (part.Head end) waits = HasNoRequest waits
LacksHead (part.Body request) waits = ⊤
LacksHead (part.Done told) waits = ⊤

-- the bytes `seen` were fed, and the bytes `waits` of them wait
pub record IsAt (at : RequestStage) (waits seen : List ℕ) : Type 0 where
  pub fed : IsFedStage at waits seen
  pub ready : IsOpenStage at
  pub sees : IsSeen at waits

-- more bytes wait after those that wait for the end of the head
abbrev pub stage_seen : RequestStage → List ℕ → RequestStage
stage_seen (part.Head end) bytes = part.Head (after_bytes end bytes)
stage_seen (part.Body request) bytes = part.Body request
stage_seen (part.Done told) bytes = part.Done told

-- the stage waits for the head, and no empty line that may end it has come
abbrev pub AwaitsHead : RequestStage → Type 0
AwaitsHead (part.Head end) = is_over end ≡ false
AwaitsHead (part.Body request) = ⊥
AwaitsHead (part.Done told) = ⊥

abbrev pub is_head : RequestStage → Bool
is_head (part.Head end) = true
is_head (part.Body request) = false
is_head (part.Done told) = false

-- `100 Continue` was asked for, if it is owed
abbrev pub was_asked : RequestStage → Bool
was_asked (part.Head end) = false
was_asked (part.Body request) = owes_continue request.head request.framing
was_asked (part.Done told) = false

-- the head, if it was parsed; a head with a body passes all rules
abbrev pub known_head : RequestStage → Option RefusedHead
known_head (part.Head end) = None
known_head (part.Body request) = Some (record { head = request.head; is_sound = true })
known_head (part.Done told) = told

-- the head of a refused request is known once nothing more is fed
abbrev pub head_after : Bool → RequestStage → Option RefusedHead
head_after true at = None
head_after false at = known_head at

-- these bytes were fed, one piece after the other
abbrev pub IsFed : RequestFeed → List ℕ → Type 0
IsFed feed seen = IsAt feed.progress.stage (waiting feed.intake) seen

-- no complete head waits
abbrev pub IsShort : RequestFeed → Type 0
IsShort feed = LacksHead feed.progress.stage (waiting feed.intake)

-- the result of bytes: a request; or a head to which `100 Continue` is owed; or more bytes are
-- needed
abbrev pub AdvancesTo
    : RequestStage → List ℕ → List ℕ → RequestStep → RequestStage → Type 0
AdvancesTo old seen left (step.Whole request) new = IsReadThen (was_asked old) request seen left
AdvancesTo old seen left step.Continue new =
    (is_head old ≡ true) × OwesContinue seen × IsAt new left seen × LacksHead new left
    × (was_asked new ≡ true)
AdvancesTo old seen left step.More new =
    FailsAsked (was_asked old) seen fault.Closed × IsAt new left seen × LacksHead new left
    × (was_asked new ≡ was_asked old)

-- the same, or a fault
abbrev pub Advances
    : RequestStage → List ℕ → List ℕ → Result RequestAdvance RequestFault → RequestStage → Type 0
Advances old seen bytes (Ok advance) new =
    AdvancesTo old seen (drop advance.taken bytes) advance.step new
Advances old seen bytes (Err named) new = IsRefusedAsked (was_asked old) named seen

-- the result of all bytes that were fed; the bytes behind a request wait if they are kept
abbrev pub FedTo
    : Bool → Bool → List ℕ → Result RequestStep RequestFault → RequestFeed → Type 0
FedTo keeps asked seen (Ok (step.Whole request)) feed =
    (left : List ℕ) × IsReadThen asked request seen left
    × (IsTrue keeps → waiting feed.intake ≡ left)
FedTo keeps asked seen (Ok step.Continue) feed =
    (asked ≡ false) × OwesContinue seen × IsFed feed seen × IsShort feed
    × (was_asked feed.progress.stage ≡ true)
FedTo keeps asked seen (Ok step.More) feed =
    LacksRequest seen × IsFed feed seen × IsShort feed
    × (was_asked feed.progress.stage ≡ asked)
FedTo keeps asked seen (Err named) feed = IsRefusedAsked asked named seen

-- the result of an input that ends
abbrev pub EndsTo : Bool → List ℕ → Result Request RequestFault → Type 0
EndsTo asked seen (Ok request) = ReadsAsked asked request seen
EndsTo asked seen (Err named) = FailsAsked asked seen named

-- the body that goes into the request
abbrev pub framed_body : Framing → List ℕ → Option (List ℕ)
framed_body framing.NoBody bytes = None
framed_body framing.Chunks bytes = Some bytes
framed_body (framing.Length size) bytes = Some bytes

-- the request has the parts of the head, and the bytes of the body that were fed
pub record HasParts (request : Request) (of : RequestBody) : Type 0 where
  pub method_is : request.method ≡ of.head.method
  pub target_is : request.target ≡ of.head.target
  pub minor_is : request.minor ≡ of.head.minor
  pub fields_are : request.fields ≡ of.head.fields
  pub body_is : request.body ≡ framed_body of.framing of.body.bytes.items
