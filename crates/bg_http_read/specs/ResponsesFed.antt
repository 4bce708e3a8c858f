-- The bytes of a response that were fed, and those that are still to be read.
use Rattle.std.specs.Prelude.{◌≡◌, false, IsFalse, ℕ, ◌≤◌, List, [], drop, Option, Some, None, Result, Ok, Err, ⊤}
use Rattle.bg_http.specs.ResponseRules.{asks_for_head}
use Rattle.bg_http.specs.declared.request.Request.{Request}
use Rattle.bg_http.specs.declared.response.Response.{Response}
use Rattle.bg_http.specs.declared.response.ResponseHead.{ResponseHead}
use Rattle.bg_http.specs.declared.response_fault.ResponseFault.{ResponseFault}
use Rattle.bg_http.specs.declared.response_fault.ResponseFault.TheVariants as fault
use Rattle.bg_http.specs.declared.response_rules.ResponseFraming.{ResponseFraming}
use Rattle.bg_http_read.specs.Bodies.{KeepsLimit, can_end, is_whole}
use Rattle.bg_http_read.specs.BodyFramings.{FedBody, Finding}
use Rattle.bg_http_read.specs.Responses.{AfterInterim, IsFinalHead, ResponseFails, SkipsInterim, body_of_response, length_of_response}
use Rattle.bg_http_read.specs.ResponseStates.{IsReadThen, IsRefused}
use Rattle.bg_http_read.specs.Streams.{waiting}
use Rattle.bg_http_read.specs.HeadEnds.{after_bytes, is_over}
use Rattle.bg_http_read.specs.declared.message_body.MessageBody.{MessageBody}
use Rattle.bg_http_read.specs.declared.head_end.HeadEnd.TheVariants as head_end
use Rattle.bg_http_read.specs.declared.body.BodyStage.TheVariants as stage
use Rattle.bg_http_read.specs.declared.final_head.HeadSearch.{HeadSearch}
use Rattle.bg_http_read.specs.declared.response_feed.ResponseFeed.{ResponseFeed}
use Rattle.bg_http_read.specs.declared.response_progress.Advance.{Advance}
use Rattle.bg_http_read.specs.declared.response_progress.ResponseStage.{ResponseStage}
use Rattle.bg_http_read.specs.declared.response_progress.ResponseStage.TheVariants as part
use Rattle.bg_http_read.specs.declared.final_head.TheConstants.{MOST_INTERIM}

-- the number of interim responses that were taken is within the limit
abbrev pub IsReady : HeadSearch → Type 0
IsReady search = search.interim ≤ MOST_INTERIM

abbrev pub ResponseBody : Type 0
ResponseBody = MessageBody ResponseHead ResponseFraming

-- how the head of the response to a request is found, and how its body ends
abbrev pub responses : Request → Finding ResponseHead ResponseFraming
responses request = record {
  Found = λ seen head named after. AfterInterim request seen (IsFinalHead request head named after);
  ends = body_of_response;
}

abbrev pub IsFedStage : Request → ResponseStage → List ℕ → List ℕ → Type 0
IsFedStage request (part.Heads search) waits seen = SkipsInterim request search.interim seen waits
IsFedStage request (part.Body response) waits seen = FedBody (responses request) response waits seen
IsFedStage request part.Done waits seen = ⊥

-- no byte came
abbrev pub Starts : ResponseStage → Type 0
Starts (part.Heads search) = (search.interim ≡ 0) × (search.end ≡ head_end.Blank)
Starts (part.Body response) = ⊥
Starts part.Done = ⊥

-- more bytes wait after those that wait for the end of their head
abbrev pub stage_seen : ResponseStage → List ℕ → ResponseStage
stage_seen (part.Heads search) bytes =
    part.Heads (record search { end = after_bytes search.end bytes })
stage_seen (part.Body response) bytes = part.Body response
stage_seen part.Done bytes = part.Done

-- the bytes that wait for the end of their head were seen
abbrev pub IsSeen : ResponseStage → List ℕ → Type 0
IsSeen (part.Heads search) waits = search.end ≡ after_bytes head_end.Blank waits
IsSeen (part.Body response) waits = ⊤
IsSeen part.Done waits = ⊤

-- the stage waits for a head, and no empty line that may end it has come
abbrev pub AwaitsHead : ResponseStage → Type 0
AwaitsHead (part.Heads search) = is_over search.end ≡ false
AwaitsHead (part.Body response) = ⊥
AwaitsHead part.Done = ⊥

-- these bytes of the response to the request were fed, one piece after the other
pub record IsFed (feed : ResponseFeed) (request : Request) (seen : List ℕ) : Type 0 where
  pub to_head_is : feed.progress.to_head ≡ asks_for_head request
  pub stage_is : IsFedStage request feed.progress.stage (waiting feed.intake) seen

abbrev pub IsOpenStage : ResponseStage → Type 0
IsOpenStage (part.Heads search) = IsReady search
IsOpenStage (part.Body response) = KeepsLimit response.body
IsOpenStage part.Done = ⊥

-- more bytes may be fed, or the input may end: neither an answer nor a fault was given
abbrev pub IsOpen : ResponseFeed → Type 0
IsOpen feed =
    IsOpenStage feed.progress.stage × IsSeen feed.progress.stage (waiting feed.intake)

-- the body is not complete: it is cut off if the input ends here, or goes to the end of the input
pub record WantsBody (request : Request) (response : ResponseBody) (waits seen : List ℕ)
    : Type 0 where
  pub missing : is_whole response.body.stage ≡ false
  pub cut_off : IsFalse (can_end response.body.stage) → ResponseFails request seen fault.Closed
  pub empty : response.body.stage ≡ stage.ToTheEnd → waits ≡ []

abbrev pub WantsStage : Request → ResponseStage → List ℕ → List ℕ → Type 0
WantsStage request (part.Heads search) waits seen = ResponseFails request seen fault.Closed
WantsStage request (part.Body response) waits seen = WantsBody request response waits seen
WantsStage request part.Done waits seen = ⊥

-- the result of bytes: a response; or the bytes that were not taken wait, and more are needed
abbrev pub AdvancesTo
    : Request → List ℕ → List ℕ → Option Response → ResponseStage → Type 0
AdvancesTo request seen left (Some response) stage = IsReadThen request response seen left
AdvancesTo request seen left None stage =
    IsFedStage request stage left seen × WantsStage request stage left seen

-- the same, or a fault
abbrev pub Advances
    : Request → List ℕ → List ℕ → Result Advance ResponseFault → ResponseStage → Type 0
Advances request seen bytes (Ok advance) stage =
    AdvancesTo request seen (drop advance.taken bytes) advance.response stage
Advances request seen bytes (Err named) stage = IsRefused request named seen

-- the response has the parts of the head, and the bytes of the body that were fed
pub record HasParts (response : Response) (of : ResponseBody) : Type 0 where
  pub code_is : response.code ≡ of.head.code
  pub reason_is : response.reason ≡ of.head.reason
  pub fields_are : response.fields ≡ of.head.fields
  pub body_is : response.body ≡ of.body.bytes.items
  pub length_is : response.length ≡ length_of_response of.framing of.head of.body.bytes.items
