-- Messages by the grammar and the rules alone, as a reader reads them that has no limit on the size
-- of a head or on the number of interim responses.
use Rattle.std.specs.Prelude.{◌≡◌, ℕ, zero, suc, List, Ok}
use Rattle.httparse.specs.Grammar as grammar
use Rattle.bg_http.specs.RequestRules.{request_framing}
use Rattle.bg_http.specs.ResponseRules.{response_framing}
use Rattle.bg_http.specs.declared.request.Request.{Request}
use Rattle.bg_http.specs.declared.request.RequestHead.{RequestHead}
use Rattle.bg_http.specs.declared.request_rules.Framing.{Framing}
use Rattle.bg_http.specs.declared.response.Response.{Response}
use Rattle.bg_http.specs.declared.response.ResponseHead.{ResponseHead}
use Rattle.bg_http.specs.declared.response_rules.ResponseFraming.{ResponseFraming}
use Rattle.bg_http.specs.declared.response_rules.ResponseFraming.TheVariants as framing
use Rattle.bg_http_read.specs.Heads.{request_parts}
use Rattle.bg_http_read.specs.Requests.{ReadsRequestBody}
use Rattle.bg_http_read.specs.Heads.{response_parts}
use Rattle.bg_http_read.specs.Responses.{IsResponse}

-- the head of a request
abbrev pub head_of : Request → RequestHead
head_of request = record {
  method = request.method;
  target = request.target;
  minor = request.minor;
  fields = request.fields;
}

-- the input is the request, and then `rest`
pub record ReadsRequestOfAnySize (input : List ℕ) (request : Request) (rest : List ℕ) : Type 0 where
  pub tree : grammar.RequestHead
  pub after : List ℕ
  pub reads : grammar.ReadsRequest input tree after
  pub head_is : head_of request ≡ request_parts tree
  pub framing : Framing
  pub judged : request_framing (head_of request) ≡ Ok framing
  pub body : ReadsRequestBody framing after request.body rest

-- the input is a response's head, which is judged to have this framing, and then `rest`
pub record JudgedOfAnySize
    (request : Request) (input : List ℕ) (head : ResponseHead) (named : ResponseFraming)
    (rest : List ℕ) : Type 0 where
  pub tree : grammar.ResponseHead
  pub reads : grammar.ReadsResponse input tree rest
  pub head_is : head ≡ response_parts tree
  pub judged : response_framing request head ≡ Ok named

-- the input is this many interim responses, the response, and then `rest`
abbrev pub ReadsAfterInterim : Request → ℕ → Response → List ℕ → List ℕ → Type 0
ReadsAfterInterim request zero response input rest =
    (head : ResponseHead) × (named : ResponseFraming) × (after : List ℕ)
    × JudgedOfAnySize request input head named after × IsResponse response head named after rest
ReadsAfterInterim request (suc count) response input rest =
    (head : ResponseHead) × (after : List ℕ)
    × JudgedOfAnySize request input head framing.Interim after
    × ReadsAfterInterim request count response after rest

-- the input is interim responses, the response, and then `rest`
abbrev pub ReadsResponseOfAnySize : Request → List ℕ → Response → List ℕ → Type 0
ReadsResponseOfAnySize request input response rest =
    (count : ℕ) × ReadsAfterInterim request count response input rest
