-- What a client is answered.
use Rattle.std.specs.Prelude.{◌≡◌, ℕ, Bool, List, [], Option, Some, None, Result, Ok, Err, ⊤}
use Rattle.bg_http.specs.Persistences.{keeps}
use Rattle.bg_http.specs.RefusalPages.{refusal_page, refused_text}
use Rattle.bg_http.specs.Texts.{response_text}
use Rattle.bg_http.specs.declared.persistence.Persistence.{Persistence}
use Rattle.bg_http.specs.declared.persistence.Persistence.TheVariants.{Close}
use Rattle.bg_http.specs.declared.refusal.RefusalPage.{RefusalPage}
use Rattle.bg_http.specs.declared.request.Request.{Request}
use Rattle.bg_http.specs.declared.request_fault.RequestFault.{RequestFault}
use Rattle.bg_http.specs.declared.response.Response.{Response}
use Rattle.bg_http.specs.declared.response_fault.ResponseFault.TheVariants as response_fault
use Rattle.bg_client_side.specs.Outgoing.{Outgoing}
use Rattle.bg_client_side.specs.Clients.{Client, answered, failed_at, stays_after}
use Rattle.bg_endpoint_side.specs.Outcomes.{fault_status}
use Rattle.bg_endpoint_side.specs.declared.outcome.ForwardFault.{ForwardFault}
use Rattle.bg_endpoint_side.specs.declared.outcome.ForwardFault.TheVariants as fault
use Rattle.bg_both_sides.specs.declared.endpoint_step.Given.{Given}
use Rattle.bg_both_sides.specs.declared.endpoint_step.Given.TheVariants as given

-- a text, the memory that it takes, and whether it keeps the connection; or no answer, since there was no memory for one
pub data Answer : Type 0 where
  says : List ℕ → ℕ → Persistence → Answer
  lacks : ℕ → Answer

-- a text of which nothing was written
abbrev pub unwritten : List ℕ → ℕ → Outgoing
unwritten text weight = record { sent = []; rest = text; weight = weight }

-- the client's connection with this answer; without one it leaves
abbrev pub with_answer : Answer → ℕ → Client → Client
with_answer (says text weight persistence) now client = answered (unwritten text weight) persistence now client
with_answer (lacks weight) now client = answered (unwritten [] weight) Close now (failed_at client.stage client)

-- the page of a refusal of what was read on a client's connection, by the settings of the connection
abbrev pub page_of : Client → Result Request RequestFault → Option RefusalPage
page_of client read = refusal_page client.facts.settings.refusal_body read

-- a refusal with this page and this status, unless there was no memory for it
abbrev pub IsRefusal : Option RefusalPage → ℕ → Answer → Type 0
IsRefusal page status (says text weight persistence) = (text ≡ refused_text page status) × (persistence ≡ Close)
IsRefusal page status (lacks weight) = ⊤

-- the text of a response to this request
abbrev pub IsTextOf : Request → Response → Bool → Answer → Type 0
IsTextOf request response stays (says text weight persistence) =
    (text ≡ response_text stays request response) × (keeps persistence ≡ stays)
IsTextOf request response stays (lacks weight) = ⊥

-- the answer to a request of this client's connection, for which its endpoint gave this, and what is told of the answer: the
-- code of the response, or the fault for which the client is refused; 503 if there was no memory for the text of its response
abbrev pub IsAnswerTo : Client → Request → Result Response ForwardFault → Given → Answer → Type 0
IsAnswerTo client request (Ok response) (given.Response code) answer =
    (code ≡ response.code) × IsTextOf request response (stays_after client) answer
IsAnswerTo client request (Ok response) (given.Refusal named) answer =
    (named ≡ fault.Response response_fault.OutOfMemory) × IsRefusal (page_of client (Ok request)) 503 answer
IsAnswerTo client request (Ok response) (given.Cut named) answer = ⊥
IsAnswerTo client request (Err why) (given.Response code) answer = ⊥
IsAnswerTo client request (Err why) (given.Refusal named) answer =
    (named ≡ why) × IsRefusal (page_of client (Ok request)) (fault_status why) answer
IsAnswerTo client request (Err why) (given.Cut named) answer = ⊥

-- the client is refused with this page and this status
abbrev pub RefusesWith : Option RefusalPage → ℕ → ℕ → Client → Option Answer → Client → Type 0
RefusesWith page status now old None new = ⊥
RefusesWith page status now old (Some answer) new = IsRefusal page status answer × (new ≡ with_answer answer now old)

-- the client is refused with this status, by what was read
abbrev pub Refuses : Result Request RequestFault → ℕ → ℕ → Client → Option Answer → Client → Type 0
Refuses read status now old answer new = RefusesWith (page_of old read) status now old answer new

-- the answer to a request
pub record Reply : Type 0 where
  pub request : Request
  pub answer : Answer

-- the client gets the answer to this request, for which its endpoint gave this, and this is told of the answer
abbrev pub Replies : Request → Result Response ForwardFault → Given → ℕ → Client → Option Reply → Client → Type 0
Replies request answer told now old None new = ⊥
Replies request answer told now old (Some reply) new =
    (reply.request ≡ request) × IsAnswerTo old request answer told reply.answer
    × (new ≡ with_answer reply.answer now old)
