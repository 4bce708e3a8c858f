-- The head of a request that is forwarded before its body is whole, as an endpoint reads it.
use Rattle.std.specs.Prelude.{◌≡◌, ◌≤◌, ◌<◌, ◌-◌, ◌^◌, ℕ, Bool, List, [], ◌∷◌, ◌++◌, codes, Ok, ⊤}
use Rattle.std.specs.Fmt.{decimal}
use Rattle.bg_http.specs.Elements.{Field}
use Rattle.bg_http.specs.Removed.{kept_in_request}
use Rattle.bg_http.specs.RequestRules.{request_framing_within}
use Rattle.bg_http.specs.Texts.{framed_head_text}
use Rattle.bg_http.specs.declared.request.Request.{Request}
use Rattle.bg_http.specs.declared.request.RequestHead.{RequestHead}
use Rattle.bg_http.specs.declared.request_rules.Framing.{Framing}
use Rattle.bg_http.specs.declared.request_rules.Framing.TheVariants as framing
use Rattle.bg_http_read.specs.AnySize.{head_of}
use Rattle.bg_http_read.specs.ForwardedRequests.{closing_fields, host_fields, via_field}
use Rattle.bg_http_read.specs.Heads.{ReadsRequestHead, request_heads}
use Rattle.bg_http_read.specs.PlainHeads.{IsReadOnlyAs, request_with}

-- the field that tells how the body ends, if there is a body
abbrev pub framing_fields : Framing → List Field
framing_fields framing.NoBody = []
framing_fields framing.Chunks = (codes "Transfer-Encoding", codes "chunked") ∷ []
framing_fields (framing.Length size) = (codes "Content-Length", decimal size) ∷ []

-- the fields of the head that is written, in order
abbrev pub framed_fields : Bool → Framing → Request → ℕ → List Field
framed_fields keeps named request port =
    host_fields request port ++ (kept_in_request request.fields
    ++ (via_field request ∷ (framing_fields named ++ closing_fields keeps)))

-- the head that is written
abbrev pub framed_head : Bool → Framing → Request → ℕ → RequestHead
framed_head keeps named request port = request_with (head_of request) (framed_fields keeps named request port)

-- a length is at most `most`
abbrev pub IsWithin : ℕ → Framing → Type 0
IsWithin most framing.NoBody = ⊤
IsWithin most framing.Chunks = ⊤
IsWithin most (framing.Length size) = size ≤ most

-- a head that passes the rules is judged so within the limit
abbrev pub IsJudgedWithin : ℕ → RequestHead → Framing → Type 0
IsJudgedWithin most head named = request_framing_within most head ≡ Ok named → IsWithin most named

-- what is written of the head of a request that was read, and then these bytes, is read as this head and as no other, and then these
-- bytes
abbrev pub IsReadBeforeBody : Bool → Framing → Request → ℕ → List ℕ → List ℕ → List ℕ → Type 0
IsReadBeforeBody keeps named request port input rest more =
    ReadsRequestHead input (head_of request) rest → port < 2 ^ 16 → IsWithin (2 ^ 64 - 1) named
    → IsReadOnlyAs request_heads (framed_head_text keeps named request port ++ more)
    (framed_head keeps named request port) more

-- it is judged to have the framing in which it is written, if its own head passed the rules, within any limits on the length
abbrev pub IsJudgedAsFramed : Bool → Framing → Request → ℕ → ℕ → Framing → ℕ → Type 0
IsJudgedAsFramed keeps named request port own came most =
    request_framing_within own (head_of request) ≡ Ok came → IsWithin most named → most < 2 ^ 64
    → request_framing_within most (framed_head keeps named request port) ≡ Ok named
