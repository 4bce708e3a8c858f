-- The outcome of a connection, and the bytes that were written to its client.
use Rattle.std.specs.Prelude.{◌≡◌, ◌⊎◌, ℕ, IfSome, if◌then◌else◌, false, List}
use Rattle.std.specs.Prelude.{[], ◌++◌, Option, Some, None, Result, Ok, Err, ⊤}
use Rattle.std.specs.Io.KnownBytes.{Appends}
use Rattle.bg_rollout.specs.declared.ticket.Ticket.{Ticket}
use Rattle.bg_http.specs.RequestRules.{owes_continue}
use Rattle.bg_http.specs.Statuses.{request_status}
use Rattle.bg_http.specs.Texts.{response_text}
use Rattle.bg_http.specs.declared.request.Request.{Request}
use Rattle.bg_http.specs.declared.request.RequestHead.{RequestHead}
use Rattle.bg_http.specs.declared.request_fault.RequestFault.{RequestFault}
use Rattle.bg_http.specs.declared.request_fault.RequestFault.TheVariants as fault
use Rattle.bg_http.specs.declared.request_rules.Framing.{Framing}
use Rattle.bg_http.specs.declared.response.Response.{Response}
use Rattle.bg_http_read.specs.Requests.{HeadRefused, JudgedHead, ReadsRequest, RequestFails, WroteFor, continue_text}
use Rattle.bg_http.specs.RefusalPages.{refusal_page, refused_text}
use Rattle.bg_http.specs.declared.refusal.RefusalBody.{RefusalBody}
use Rattle.bg_forward.specs.declared.serving.End.{End}
use Rattle.bg_forward.specs.declared.serving.End.TheVariants as end

-- the outcome of reading a request
abbrev pub ReadOutcome : Type 0
ReadOutcome = Result Request RequestFault

-- the client's bytes begin with this request, or have this fault
abbrev pub ReadsAs : Option (List ℕ) → ReadOutcome → Type 0
ReadsAs input (Ok request) =
    IfSome input (λ bytes. (rest : List ℕ) × ReadsRequest bytes request rest)
ReadsAs input (Err fault) = IfSome input (λ bytes. RequestFails bytes fault)

-- the outcome of reading a client's bytes, and what was written to the client meanwhile
pub record Receives (input old new : Option (List ℕ)) (read : ReadOutcome) : Type 0 where
  pub reads : ReadsAs input read
  pub wrote : WroteFor input old new read

-- a refusal with this status, unless writing it failed
abbrev pub MayBeRefused : ℕ → End → Type 0
MayBeRefused status e = (e ≡ end.Refused status) ⊎ (e ≡ end.WriteFailed)

-- an endpoint that cannot be reached or gives no response makes the answer a bad gateway; an allocation
-- failure makes the service unavailable
abbrev pub IsGatewayStatus : ℕ → Type 0
IsGatewayStatus status = (status ≡ 502) ⊎ (status ≡ 503)

-- the end of a connection whose client is not answered
abbrev pub unanswered : RequestFault → End
unanswered fault.Closed = end.Closed
unanswered fault.ReadFailed = end.ReadFailed
unanswered _ = end.WriteFailed

-- a fault with a status is refused with it, and one without a status ends the connection
abbrev pub EndsBy : Option ℕ → RequestFault → End → Type 0
EndsBy (Some status) fault e = MayBeRefused status e
EndsBy None fault e = e ≡ unanswered fault

-- the possible ends of a connection that entered
abbrev pub MayEndInside : End → Type 0
MayEndInside (end.Answered code) = ⊤
MayEndInside (end.Refused status) = IsGatewayStatus status
MayEndInside end.WriteFailed = ⊤
MayEndInside end.Closed = ⊥
MayEndInside end.ReadFailed = ⊥

-- the possible ends of a connection, by the outcome of reading and by whether it entered: a request
-- that is refused does not enter, and the answer to one that the gate refuses is 503
abbrev pub MayEnd : ReadOutcome → Option Ticket → End → Type 0
MayEnd (Err fault) None e = EndsBy (request_status fault) fault e
MayEnd (Err fault) (Some t) e = ⊥
MayEnd (Ok request) None e = MayBeRefused 503 e
MayEnd (Ok request) (Some t) e = MayEndInside e

-- the text of a response with this code to the request that was read
abbrev pub IsResponseText : ReadOutcome → ℕ → List ℕ → Type 0
IsResponseText (Ok request) code text =
    (response : Response) × (response.code ≡ code) × (text ≡ response_text false request response)
IsResponseText (Err fault) code text = ⊥

-- the bytes that are written to the client last, by what refusals have as their bodies and by the end
-- of the connection
abbrev pub IsLastText : RefusalBody → ReadOutcome → End → List ℕ → Type 0
IsLastText body read end.Closed text = text ≡ []
IsLastText body read end.ReadFailed text = text ≡ []
IsLastText body read (end.Refused status) text = text ≡ refused_text (refusal_page body read) status
IsLastText body read (end.Answered code) text = IsResponseText read code text
IsLastText body read end.WriteFailed text = ⊤

-- what was written last; nothing is said if writing failed
abbrev pub WroteLast
    : RefusalBody → Option (List ℕ) → Option (List ℕ) → ReadOutcome → End → Type 0
WroteLast body old new read end.WriteFailed = ⊤
WroteLast body old new read e = (text : List ℕ) × IsLastText body read e text × Appends old new text

-- a head that passes all rules was read, and this is owed to it: `100 Continue` or nothing
pub record IsOwed (input : Option (List ℕ)) (interim : List ℕ) : Type 0 where
  pub head : RequestHead
  pub framing : Framing
  pub begins : IfSome input (λ bytes. (after : List ℕ) × JudgedHead bytes head framing after)
  pub interim_is : interim ≡ (if owes_continue head framing then continue_text else [])

-- what was written while the request was read: what is owed to its head, and nothing if the head
-- was refused. If a read or an allocation failed, it may be either
abbrev pub IsInterim : Option (List ℕ) → ReadOutcome → List ℕ → Type 0
IsInterim input (Ok request) interim = IsOwed input interim
IsInterim input (Err fault) interim =
    ((interim ≡ []) × IfSome input (λ bytes. HeadRefused bytes fault)) ⊎ IsOwed input interim

-- the bytes that were written to the client: first while its request was read, then at the end
pub record Wrote (body : RefusalBody) (input old new : Option (List ℕ)) (read : ReadOutcome) (e : End)
    : Type 0 where
  pub interim : List ℕ
  pub text : List ℕ
  pub is_interim : IsInterim input read interim
  pub is_last : IsLastText body read e text
  pub appends : Appends old new (interim ++ text)

-- the same, unless writing to the client failed
abbrev pub WroteUnlessFailed
    : RefusalBody → Option (List ℕ) → Option (List ℕ) → Option (List ℕ) → ReadOutcome → End → Type 0
WroteUnlessFailed body input old new read end.WriteFailed = ⊤
WroteUnlessFailed body input old new read e = Wrote body input old new read e

-- a connection on which this was read, where refusals have these bodies: it is the outcome of reading
-- the client's bytes, this end is possible for it, and the bytes that were written to the client
pub record Connection (body : RefusalBody) (input old new : Option (List ℕ)) (read : ReadOutcome) (entered : Option Ticket) (e : End)
    : Type 0 where
  pub reads : ReadsAs input read
  pub may_end : MayEnd read entered e
  pub wrote : WroteUnlessFailed body input old new read e
