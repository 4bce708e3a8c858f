-- The head of a response as it is passed on.
use Rattle.std.specs.Prelude.{◌≡◌, ℕ, Bool, List, [], Option, Some, None}
use Rattle.std.specs.Fmt.{decimal}
use Rattle.bg_http.specs.ResponseRules.{length_told}
use Rattle.bg_http.specs.Texts.{response_head_text}
use Rattle.bg_http.specs.declared.response.Response.{Response}
use Rattle.bg_http.specs.declared.response.ResponseHead.{ResponseHead}
use Rattle.bg_http.specs.declared.response_rules.ResponseFraming.{ResponseFraming}
use Rattle.bg_http.specs.declared.response_rules.ResponseFraming.TheVariants as framing
use Rattle.bg_relay.specs.declared.framing.Framing.{Framing}
use Rattle.bg_streams.specs.Framings.{body_end, keeps_after}

-- the length that is told: that of the body, if it is known; if there is no body, the one that the head gives
abbrev pub length_streamed : ResponseFraming → ResponseHead → Option (List ℕ)
length_streamed framing.Interim head = None
length_streamed framing.NoBody head = length_told head
length_streamed framing.Chunks head = None
length_streamed (framing.Length size) head = Some (decimal size)
length_streamed framing.ToTheEnd head = None

-- the response has the parts of the head, and no byte of its body
pub record IsStreamed (named : ResponseFraming) (head : ResponseHead) (response : Response) : Type 0 where
  pub code_is : response.code ≡ head.code
  pub reason_is : response.reason ≡ head.reason
  pub fields_are : response.fields ≡ head.fields
  pub length_is : response.length ≡ length_streamed named head
  pub body_is : response.body ≡ []

-- its text before a body in this framing, on a connection that is kept or not
abbrev pub head_text : Bool → Framing → Response → List ℕ
head_text keeps named response = response_head_text (keeps_after named keeps) (body_end named) response
