-- The answers that are written to one client.
use Rattle.std.specs.Prelude.{◌≡◌, ℕ, Bool, false, if◌then◌else◌, IsTrue, All, List, [], ◌∷◌, ◌++◌, length, map, flat_map, codes, Option, Some, None}
use Rattle.std.specs.Fmt.{decimal}
use Rattle.bg_http.specs.Elements.{Field}
use Rattle.bg_http.specs.ErrorPages.{error_page_text, media_type, page_body, page_sent}
use Rattle.bg_http.specs.Removed.{kept_in_response}
use Rattle.bg_http.specs.ResponseRules.{asks_for_head}
use Rattle.bg_http.specs.Statuses.{is_refusal}
use Rattle.bg_http.specs.Texts.{reason_of, refusal_text, response_text}
use Rattle.bg_http.specs.declared.error_page.ErrorPage.{ErrorPage}
use Rattle.bg_http.specs.declared.request.Request.{Request}
use Rattle.bg_http.specs.declared.response.Response.{Response}
use Rattle.bg_http_read.specs.AnySize.{ReadsResponseOfAnySize}
use Rattle.bg_http_read.specs.ForwardedRequests.{closing_fields}
use Rattle.bg_http_read.specs.Requests.{continue_text}
use Rattle.bg_http_read.specs.Responses.{ReadsResponse}
use Rattle.bg_http_read.specs.Sequences.{AnswersAll}

-- what a request is answered with: the response of an endpoint, or a refusal with this status, without
-- a page or with this one
pub data Answer : Type 0 where
  forwards : Response → Answer
  refuses : ℕ → Answer
  refuses_with : ErrorPage → ℕ → Answer

-- a request that is answered on a connection, whether `100 Continue` is written before the answer,
-- and whether the connection is kept after it
pub record Answering : Type 0 where
  pub request : Request
  pub continues : Bool
  pub answer : Answer
  pub keeps : Bool

-- the response was read from some input as the one to the request; the status is one of those of a
-- refusal
abbrev pub MayAnswer : Request → Answer → Type 0
MayAnswer request (forwards response) = (input : List ℕ) × ReadsResponse request response input
MayAnswer request (refuses status) = IsTrue (is_refusal status)
MayAnswer request (refuses_with page status) = IsTrue (is_refusal status)

abbrev pub IsAnswered : Answering → Type 0
IsAnswered answering = MayAnswer answering.request answering.answer

-- the text of an answer; a connection is closed after a refusal
abbrev pub answer_text : Bool → Request → Answer → List ℕ
answer_text keeps request (forwards response) = response_text keeps request response
answer_text keeps request (refuses status) = refusal_text status
answer_text keeps request (refuses_with page status) = error_page_text (asks_for_head request) page status

-- what is written to the client for a request
abbrev pub client_text : Answering → List ℕ
client_text answering =
    (if answering.continues then continue_text else [])
    ++ answer_text answering.keeps answering.request answering.answer

-- the Content-Length, if there is one
abbrev pub length_fields : Option (List ℕ) → List Field
length_fields None = []
length_fields (Some digits) = (codes "Content-Length", digits) ∷ []

-- a response as it is forwarded
abbrev pub forwarded_response : Bool → Response → Response
forwarded_response keeps response = record {
  code = response.code;
  reason = response.reason;
  fields = kept_in_response response.fields
      ++ (length_fields response.length ++ closing_fields keeps);
  length = response.length;
  body = response.body;
}

-- a refusal as a response
abbrev pub refusal : ℕ → Response
refusal status = record {
  code = status;
  reason = reason_of status;
  fields = [];
  length = Some (codes "0");
  body = [];
}

-- a refusal with a page as a response to a request; to HEAD its body is empty
abbrev pub page_refusal : ErrorPage → Request → ℕ → Response
page_refusal page request status = record {
  code = status;
  reason = reason_of status;
  fields = (codes "Content-Type", media_type page) ∷ [];
  length = Some (decimal (length (page_body page status)));
  body = page_sent (asks_for_head request) page status;
}

-- the response that an answer to a request is
abbrev pub response_of : Bool → Request → Answer → Response
response_of keeps request (forwards response) = forwarded_response keeps response
response_of keeps request (refuses status) = forwarded_response false (refusal status)
response_of keeps request (refuses_with page status) =
    forwarded_response false (page_refusal page request status)

abbrev pub answered : Answering → Response
answered answering = response_of answering.keeps answering.request answering.answer

-- what is written to a client is read as the answers to its requests, in order, and as nothing else
abbrev pub AreReadAsAnswered : List Answering → List Response → List ℕ → Type 0
AreReadAsAnswered answerings others rest =
    All IsAnswered answerings
    → AnswersAll ReadsResponseOfAnySize (map (λ answering. answering.request) answerings)
    (map answered answerings) (flat_map client_text answerings) []
    × (AnswersAll ReadsResponseOfAnySize (map (λ answering. answering.request) answerings) others
    (flat_map client_text answerings) rest → (others ≡ map answered answerings) × (rest ≡ []))
