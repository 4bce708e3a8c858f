-- The head of a response that is passed on before its body is whole, as it is read.
use Rattle.std.specs.Prelude.{◌≡◌, ◌⊎◌, ℕ, Bool, false, List, [], ◌∷◌, ◌++◌, codes, Ok, Option, None, Some}
use Rattle.std.specs.Fmt.{decimal}
use Rattle.httparse.specs.Grammar as grammar
use Rattle.bg_http.specs.Elements.{Field}
use Rattle.bg_http.specs.Removed.{kept_in_response}
use Rattle.bg_http.specs.ResponseRules.{has_no_body, length_told, response_framing}
use Rattle.bg_http.specs.Texts.{response_head_text}
use Rattle.bg_http.specs.declared.body_end.BodyEnd.{BodyEnd}
use Rattle.bg_http.specs.declared.body_end.BodyEnd.TheVariants as ends
use Rattle.bg_http.specs.declared.request.Request.{Request}
use Rattle.bg_http.specs.declared.response.Response.{Response}
use Rattle.bg_http.specs.declared.response.ResponseHead.{ResponseHead}
use Rattle.bg_http.specs.declared.response_rules.ResponseFraming.{ResponseFraming}
use Rattle.bg_http.specs.declared.response_rules.ResponseFraming.TheVariants as framing
use Rattle.bg_http_read.specs.AnsweredRequests.{length_fields}
use Rattle.bg_http_read.specs.ForwardedRequests.{closing_fields}
use Rattle.bg_http_read.specs.Heads.{response_parts}
use Rattle.bg_http_read.specs.Responses.{AfterInterim, IsFinalHeadWithin}

-- the field that tells how the body ends, if there is one
abbrev pub end_fields : BodyEnd → Option (List ℕ) → List Field
end_fields ends.Length given = length_fields given
end_fields ends.Chunks given = (codes "Transfer-Encoding", codes "chunked") ∷ []

-- the fields of the head that is written
abbrev pub written_fields : Bool → BodyEnd → Response → List Field
written_fields keeps named response =
    kept_in_response response.fields ++ (end_fields named response.length ++ closing_fields keeps)

-- the head that is written
abbrev pub written_head : Bool → BodyEnd → Response → ResponseHead
written_head keeps named response = record {
  minor = 1;
  code = response.code;
  reason = response.reason;
  fields = written_fields keeps named response;
}

-- the response has the code, the reason and the fields of a head that was read as the one of the response to the request, within any
-- limit
pub record HasHeadOf (request : Request) (response : Response) : Type 0 where
  pub most : ℕ
  pub input : List ℕ
  pub head : ResponseHead
  pub named : ResponseFraming
  pub after : List ℕ
  pub came : AfterInterim request input (IsFinalHeadWithin most request head named after)
  pub code_is : response.code ≡ head.code
  pub reason_is : response.reason ≡ head.reason
  pub fields_are : response.fields ≡ head.fields

-- the length that is told, if one is, is that of the body, or the one that the head gives
abbrev pub IsLengthOf : ResponseFraming → ResponseHead → Option (List ℕ) → Type 0
IsLengthOf (framing.Length size) head given = (given ≡ None) ⊎ (given ≡ Some (decimal size))
IsLengthOf other head given = (given ≡ None) ⊎ (given ≡ length_told head)

-- the text of the head, and then these bytes, is read as this head, and then these bytes
abbrev pub ReadsWrittenHead : Bool → BodyEnd → Response → List ℕ → Type 0
ReadsWrittenHead keeps named response more =
    (tree : grammar.ResponseHead)
    × grammar.ReadsResponse (response_head_text keeps named response ++ more) tree more
    × (written_head keeps named response ≡ response_parts tree)

abbrev pub IsReadAsWritten : Bool → BodyEnd → Request → Response → List ℕ → Type 0
IsReadAsWritten keeps named request response more =
    (from : HasHeadOf request response) → IsLengthOf from.named from.head response.length
    → ReadsWrittenHead keeps named response more

-- before chunks the head is judged as one before chunks, unless the response has no body
abbrev pub IsJudgedInChunks : Bool → Request → Response → Type 0
IsJudgedInChunks keeps request response =
    HasHeadOf request response → has_no_body request response.code ≡ false
    → response_framing request (written_head keeps ends.Chunks response) ≡ Ok framing.Chunks
