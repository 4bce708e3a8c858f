-- The laws of a response that is passed on.
use Rattle.std.specs.Prelude.{◌≡◌, ℕ, ◌<◌, ◌≤◌, true, false, IsFalse, List, [], ◌++◌, length, Ok, Option, None, Some, ⊤}
use Rattle.bg_http.specs.Persistences.{keeps}
use Rattle.bg_http.specs.ResponseRules.{has_no_body, response_framing}
use Rattle.bg_http.specs.declared.body_end.BodyEnd.TheVariants as ends
use Rattle.bg_http.specs.declared.request.Request.{Request}
use Rattle.bg_http.specs.declared.response.Response.{Response}
use Rattle.bg_http.specs.declared.response.ResponseHead.{ResponseHead}
use Rattle.bg_http.specs.declared.response_fault.ResponseFault.TheVariants as response
use Rattle.bg_http.specs.declared.response_rules.ResponseFraming.{ResponseFraming}
use Rattle.bg_http.specs.declared.response_rules.ResponseFraming.TheVariants as framing
use Rattle.bg_http_read.specs.Bodies.{is_whole as whole_at}
use Rattle.bg_http_read.specs.Heads.{HeadIsCut, response_heads}
use Rattle.bg_http_read.specs.ResponseHeads.{AreHeads}
use Rattle.bg_http_read.specs.ResponseStates.{IsReadThen}
use Rattle.bg_http_read.specs.Responses.{ResponseFails, length_of_response, most_response_body}
use Rattle.bg_http_read.specs.WrittenHeads.{ReadsWrittenHead, written_head}
use Rattle.bg_relay.specs.Framings.{most_to_come}
use Rattle.bg_relay.specs.Laws.{BeginsBodies, IsBody, IsNoBody}
use Rattle.bg_relay.specs.Relays.{Passes}
use Rattle.bg_streams.specs.Framings.{body_end, incoming, keeps_after, outgoing}
use Rattle.bg_streams.specs.HeadTexts.{IsStreamed, head_text}
use Rattle.bg_streams.specs.Passings.{whole_rest}
use Rattle.bg_streams.specs.ResponseRelays.{StandsFor, WaitsFor, is_drained}
use Rattle.bg_streams.specs.declared.passing.Passing.{Passing}
use Rattle.bg_streams.specs.declared.response_relay.ResponseRelay.{ResponseRelay}
use Rattle.bg_streams.specs.declared.stream_terms.StreamTerms.{StreamTerms}

-- what is said of a response whose head came, and of an input and an output that was written
abbrev pub Law : Type 1
Law = StreamTerms → Passing → Request → List ℕ → List ℕ → Type 0

-- it holds of each relay, and of each input and output that the relay stands for
abbrev pub Always : Law → Type 0
Always Says =
    (relay : ResponseRelay) (passing : Passing) (request : Request) (input written : List ℕ)
    → StandsFor relay request input written → relay.passing ≡ Some passing
    → Says relay.terms passing request input written

-- the input is the heads of the response to the request, and then the bytes of its body that came; what was written, and what is to
-- be written, is the text of its head, and then the output
pub record IsAnswer
    (terms : StreamTerms) (passing : Passing) (request : Request) (input written came output : List ℕ) : Type 0 where
  pub head : ResponseHead
  pub heads : List ℕ
  pub input_is : input ≡ heads ++ came
  pub are_heads : AreHeads terms.most_body request heads head passing.framing
  pub said : IsStreamed passing.framing head passing.response
  pub incoming_is : passing.relay.incoming ≡ incoming passing.framing
  pub outgoing_is : passing.relay.outgoing ≡ outgoing terms.reads_chunks passing.framing
  pub output_is : written ++ whole_rest passing
      ≡ head_text (keeps terms.persistence) passing.relay.outgoing passing.response ++ output

-- what a client gets is the text of the head, and then a front of the body
abbrev pub BeginsAnswer : Law
BeginsAnswer terms passing request input written =
    (came : List ℕ) × (output : List ℕ) × (body : List ℕ)
    × IsAnswer terms passing request input written came output × Passes passing.relay came output body
    × ((more whole left : List ℕ) → BeginsBodies passing.relay came output body more whole left)

-- once the response is whole, it is the text of the head, and then the body of the input
abbrev pub GivesAnswer : Law
GivesAnswer terms passing request input written =
    whole_at passing.relay.stage ≡ true
    → (came : List ℕ) × (output : List ℕ) × (body : List ℕ)
    × IsAnswer terms passing request input written came output × IsBody passing.relay.incoming came body
    × IsBody passing.relay.outgoing output body

-- before, neither the input nor the output has a body, if its framing has an end of its own
abbrev pub GivesNoBody : Law
GivesNoBody terms passing request input written =
    whole_at passing.relay.stage ≡ false
    → (came : List ℕ) × (output : List ℕ) × IsAnswer terms passing request input written came output
    × IsNoBody passing.relay.incoming came × IsNoBody passing.relay.outgoing output

-- no more bytes of a body were taken than may come
abbrev pub KeepsLimit : Law
KeepsLimit terms passing request input written =
    (came : List ℕ) × (output : List ℕ) × IsAnswer terms passing request input written came output
    × (length came ≤ most_to_come passing.relay.incoming terms.most_body)

-- whatever follows the text of the head, it is read as the head that was written, and then what follows; and before chunks it is
-- judged as one before chunks
pub record IsHeadRead (terms : StreamTerms) (passing : Passing) (request : Request) : Type 0 where
  pub reads : (more : List ℕ)
      → ReadsWrittenHead (keeps_after passing.relay.outgoing (keeps terms.persistence)) (body_end passing.relay.outgoing)
      passing.response more
  pub chunks : has_no_body request passing.response.code ≡ false
      → response_framing request
      (written_head (keeps_after passing.relay.outgoing (keeps terms.persistence)) ends.Chunks passing.response)
      ≡ Ok framing.Chunks

abbrev pub GivesHead : Law
GivesHead terms passing request input written =
    IsHeadRead terms passing request

-- the response with its whole body, as it is read from the endpoint
abbrev pub whole_response : ResponseFraming → ResponseHead → List ℕ → Response
whole_response named head body = record {
  code = head.code;
  reason = head.reason;
  fields = head.fields;
  length = length_of_response named head body;
  body = body;
}

-- a drained connection carried one response, and nothing behind it, as the parser of whole responses reads it, if its body is within
-- the limit of that parser
abbrev pub IsDrainedAnswer : Law
IsDrainedAnswer terms passing request input written =
    is_drained (Some passing) [] ≡ true
    → (head : ResponseHead) × (body : List ℕ) × IsStreamed passing.framing head passing.response
    × (length body ≤ most_response_body → IsReadThen request (whole_response passing.framing head body) input [])

-- there is room for more of the input
abbrev pub HasRoom : Option Passing → Type 0
HasRoom None = ⊤
HasRoom (Some passing) = IsFalse (whole_at passing.relay.stage) × (length passing.relay.rest < passing.relay.window)

-- fewer bytes wait than a head may have
abbrev pub WaitsShortly : Option Passing → List ℕ → Type 0
WaitsShortly passing bytes = WaitsFor passing bytes → HasRoom passing → length bytes < 16384

-- an input that ends before the head of the response is whole is refused as one that was closed
abbrev pub IsClosedInHead : ResponseRelay → Request → List ℕ → List ℕ → List ℕ → Type 0
IsClosedInHead relay request input written bytes =
    StandsFor relay request input written → relay.passing ≡ None → HeadIsCut response_heads bytes
    → ResponseFails request (input ++ bytes) response.Closed
