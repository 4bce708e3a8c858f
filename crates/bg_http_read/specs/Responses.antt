-- A complete response.
use Rattle.std.specs.Prelude.{◌≡◌, Bool, true, false, IsFalse, ℕ, zero, suc, ◌≤◌, List, [], ◌++◌, length, Option, Some, None, Ok, Err, ⊤}
use Rattle.std.specs.Fmt.{decimal}
use Rattle.bg_http.specs.ResponseRules.{response_framing_within, length_told}
use Rattle.bg_http.specs.declared.request.Request.{Request}
use Rattle.bg_http.specs.declared.response.Response.{Response}
use Rattle.bg_http.specs.declared.response.ResponseHead.{ResponseHead}
use Rattle.bg_http.specs.declared.response_fault.ResponseFault.{ResponseFault}
use Rattle.bg_http.specs.declared.response_fault.ResponseFault.TheVariants as fault
use Rattle.bg_http.specs.declared.response_rules.ResponseFraming.{ResponseFraming}
use Rattle.bg_http.specs.declared.response_rules.ResponseFraming.TheVariants as framing
use Rattle.bg_http.specs.declared.response_rules.TheConstants.{MOST_RESPONSE_BODY}
use Rattle.bg_http_read.specs.BodyFaults.{Failure, malformed, large, cut}
use Rattle.bg_http_read.specs.BodyFramings.{FramedFails}
use Rattle.bg_http_read.specs.Chunks.{ReadsChunks}
use Rattle.bg_http_read.specs.HeadFaults.{ResponseHeadFails}
use Rattle.bg_http_read.specs.Heads.{ReadsResponseHead}
use Rattle.bg_http_read.specs.declared.body.BodyFraming.{BodyFraming}
use Rattle.bg_http_read.specs.declared.body.BodyFraming.TheVariants as ends
use Rattle.bg_http_read.specs.declared.final_head.TheConstants.{MOST_INTERIM}

-- the most bytes that the body of a response may have that is read as a whole
abbrev pub most_response_body : ℕ
most_response_body = MOST_RESPONSE_BODY

-- the input is the body that the framing names, and then `rest`
abbrev pub ReadsResponseBody : ResponseFraming → List ℕ → List ℕ → List ℕ → Type 0
ReadsResponseBody framing.Interim input body rest = ⊥
ReadsResponseBody framing.NoBody input body rest = (body ≡ []) × (input ≡ rest)
ReadsResponseBody framing.Chunks input body rest =
    ReadsChunks input body rest × (length body ≤ most_response_body)
ReadsResponseBody (framing.Length size) input body rest =
    (length body ≡ size) × (input ≡ body ++ rest)
ReadsResponseBody framing.ToTheEnd input body rest =
    (rest ≡ []) × (body ≡ input) × (length body ≤ most_response_body)

-- how the body of a response ends
abbrev pub body_of_response : ResponseFraming → BodyFraming
body_of_response framing.Interim = ends.Empty
body_of_response framing.NoBody = ends.Empty
body_of_response framing.Chunks = ends.Chunks most_response_body
body_of_response (framing.Length size) = ends.Length size
body_of_response framing.ToTheEnd = ends.ToTheEnd most_response_body

-- how the body that the framing names fails
abbrev pub FramedResponseBodyFails : Failure → ResponseFraming → List ℕ → Type 0
FramedResponseBodyFails failure named input = FramedFails failure (body_of_response named) input

-- what a fault says about the input of a body
abbrev pub ResponseBodyFails : ResponseFraming → List ℕ → ResponseFault → Type 0
ResponseBodyFails named input fault.ReadFailed = ⊤
ResponseBodyFails named input fault.HeadTooLarge = ⊥
ResponseBodyFails named input fault.Bad = FramedResponseBodyFails malformed named input
ResponseBodyFails named input fault.TooLarge = FramedResponseBodyFails large named input
ResponseBodyFails named input fault.Closed = FramedResponseBodyFails cut named input
ResponseBodyFails named input fault.OutOfMemory = ⊤

-- the input begins with a head that is judged to have this framing, within a limit on its length
pub record JudgedWithin
    (most : ℕ) (request : Request) (input : List ℕ) (head : ResponseHead) (named : ResponseFraming)
    (after : List ℕ) : Type 0 where
  pub reads : ReadsResponseHead input head after
  pub judged : response_framing_within most request head ≡ Ok named

-- the same for a response that is read as a whole
abbrev pub JudgedResponse
    : Request → List ℕ → ResponseHead → ResponseFraming → List ℕ → Type 0
JudgedResponse request input head named after =
    JudgedWithin most_response_body request input head named after

-- the response is interim: another one comes after it
abbrev pub names_another : ResponseFraming → Bool
names_another framing.Interim = true
names_another framing.NoBody = false
names_another framing.Chunks = false
names_another (framing.Length size) = false
names_another framing.ToTheEnd = false

-- the input begins with this many interim responses. Whether a response is interim depends on no
-- limit
abbrev pub SkipsInterim : Request → ℕ → List ℕ → List ℕ → Type 0
SkipsInterim request zero input after = input ≡ after
SkipsInterim request (suc count) input after =
    (before : List ℕ) × (head : ResponseHead) × SkipsInterim request count input before
    × JudgedResponse request before head framing.Interim after

-- `P` holds for the input after at most `MOST_INTERIM` interim responses
pub record AfterInterim (request : Request) (input : List ℕ) (P : List ℕ → Type 0) : Type 0 where
  pub count : ℕ
  pub few : count ≤ MOST_INTERIM
  pub after : List ℕ
  pub skips : SkipsInterim request count input after
  pub holds : P after

-- there are more interim responses than are accepted
abbrev pub HasManyInterim : Request → List ℕ → Type 0
HasManyInterim request input = (after : List ℕ) × SkipsInterim request (suc MOST_INTERIM) input after

-- the input is the head of a final response, judged within a limit, and then the rest
abbrev pub IsFinalHeadWithin
    : ℕ → Request → ResponseHead → ResponseFraming → List ℕ → List ℕ → Type 0
IsFinalHeadWithin most request head named rest input =
    JudgedWithin most request input head named rest × IsFalse (names_another named)

abbrev pub IsFinalHead
    : Request → ResponseHead → ResponseFraming → List ℕ → List ℕ → Type 0
IsFinalHead request head named rest input =
    IsFinalHeadWithin most_response_body request head named rest input

-- the input begins with a head that breaks a rule, and this is the fault of the first rule that it
-- breaks
abbrev pub BreaksRuleWithin : ℕ → Request → ResponseFault → List ℕ → Type 0
BreaksRuleWithin most request fault input =
    (head : ResponseHead) × (after : List ℕ) × ReadsResponseHead input head after
    × (response_framing_within most request head ≡ Err fault)

abbrev pub BreaksResponseRule : Request → ResponseFault → List ℕ → Type 0
BreaksResponseRule request fault input = BreaksRuleWithin most_response_body request fault input

-- the input begins with the head of a final response, judged within a limit, and this holds for the
-- bytes after it
abbrev pub FinalHeadThenWithin
    : ℕ → Request → (ResponseFraming → List ℕ → Type 0) → List ℕ → Type 0
FinalHeadThenWithin most request P input =
    (head : ResponseHead) × (named : ResponseFraming) × (after : List ℕ)
    × IsFinalHeadWithin most request head named after input × P named after

abbrev pub FinalHeadThen : Request → (ResponseFraming → List ℕ → Type 0) → List ℕ → Type 0
FinalHeadThen request P input = FinalHeadThenWithin most_response_body request P input

-- what a fault says about an input that has no heads of a response within a limit: after interim
-- responses, a head breaks a rule, and this is the fault of the first rule that it breaks; or there
-- is no head; or there is another interim response after `MOST_INTERIM`. Nothing is said about the
-- faults of the machine
pub data HeadsFail
    (most : ℕ) (request : Request) (input : List ℕ) (named : ResponseFault) : Type 0 where
  breaks_rule : AfterInterim request input (BreaksRuleWithin most request named)
      → HeadsFail most request input named
  no_head : AfterInterim request input (λ before. ResponseHeadFails before named)
      → HeadsFail most request input named
  many_interim : named ≡ fault.Bad → HasManyInterim request input
      → HeadsFail most request input named

-- what a fault says about the input of a response that is read as a whole: its heads fail, or its
-- body
pub data ResponseFails (request : Request) (input : List ℕ) (named : ResponseFault) : Type 0 where
  no_heads : HeadsFail most_response_body request input named → ResponseFails request input named
  no_body : AfterInterim request input
      (FinalHeadThen request (λ framing after. ResponseBodyFails framing after named))
      → ResponseFails request input named

-- the digits of the length that is forwarded: the length of the body, or the length in the head if
-- there is no body
abbrev pub length_of_response : ResponseFraming → ResponseHead → List ℕ → Option (List ℕ)
length_of_response framing.Interim head body = None
length_of_response framing.NoBody head body = length_told head
length_of_response framing.Chunks head body = Some (decimal (length body))
length_of_response (framing.Length size) head body = Some (decimal (length body))
length_of_response framing.ToTheEnd head body = Some (decimal (length body))

-- the response has the parts of the head, and the input is its body, and then `rest`
pub record IsResponse
    (response : Response) (head : ResponseHead) (named : ResponseFraming) (after rest : List ℕ)
    : Type 0 where
  pub body : ReadsResponseBody named after response.body rest
  pub code_is : response.code ≡ head.code
  pub reason_is : response.reason ≡ head.reason
  pub fields_are : response.fields ≡ head.fields
  pub length_is : response.length ≡ length_of_response named head response.body

-- the input is at most `MOST_INTERIM` interim responses, the response, and then `rest`
abbrev pub ReadsResponseThen : Request → List ℕ → Response → List ℕ → Type 0
ReadsResponseThen request input response rest =
    AfterInterim request input
    (λ before. (head : ResponseHead) × (named : ResponseFraming) × (after : List ℕ)
    × IsFinalHead request head named after before × IsResponse response head named after rest)

-- the input begins with them and the response
abbrev pub ReadsResponse : Request → Response → List ℕ → Type 0
ReadsResponse request response input =
    (rest : List ℕ) × ReadsResponseThen request input response rest
