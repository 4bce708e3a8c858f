-- The laws of a request that is passed on as it comes.
use Rattle.std.specs.Prelude.{◌≡◌, ◌<◌, ◌^◌, ℕ, true, false, List, ◌++◌, Ok}
use Rattle.bg_http.specs.RequestRules.{request_framing_within}
use Rattle.bg_http.specs.Texts.{framed_head_text}
use Rattle.bg_http_read.specs.FramedHeads.{framed_head}
use Rattle.bg_http_read.specs.Heads.{request_heads}
use Rattle.bg_http_read.specs.PlainHeads.{IsReadOnlyAs}
use Rattle.bg_relay.specs.Framings.{ReadsBody}
use Rattle.bg_relay.specs.Laws.{BeginsBodies, IsBody}
use Rattle.bg_relay.specs.Relays.{Passes}
use Rattle.bg_upload.specs.LargeRequests.{IsLarge}
use Rattle.bg_upload.specs.OutgoingRequests.{OutgoingState, is_whole}
use Rattle.bg_upload.specs.declared.large_request.LargeRequest.{LargeRequest}

-- the first of the bytes that came were taken, and the text of the head and this output were written or are to be written
pub record IsSent (o : OutgoingState) (taken output : List ℕ) : Type 0 where
  pub behind : List ℕ
  pub came_is : o.came ≡ taken ++ behind
  pub text_is : o.written ++ (o.left ++ o.relay.rest) ≡ o.head ++ output

-- what was taken and what is sent stand in one body, after the same bytes of it
pub record SendsFront (o : OutgoingState) : Type 0 where
  pub taken : List ℕ
  pub output : List ℕ
  pub body : List ℕ
  pub is_sent : IsSent o taken output
  pub passes : Passes o.relay taken output body
  pub begins : (more whole left : List ℕ) → BeginsBodies o.relay taken output body more whole left

-- a request whose body is whole is sent with exactly this body
abbrev pub IsWholeRequest : OutgoingState → Type 0
IsWholeRequest o =
    is_whole o ≡ true
    → (taken : List ℕ) × (output : List ℕ) × (body : List ℕ) × IsSent o taken output
    × IsBody o.relay.incoming taken body × IsBody o.relay.outgoing output body

-- before, neither what was taken nor what is sent begins with a body
abbrev pub HasNoEnd : OutgoingState → Type 0
HasNoEnd o =
    is_whole o ≡ false
    → (taken : List ℕ) × (output : List ℕ) × IsSent o taken output
    × ((body rest : List ℕ) → ¬ (ReadsBody o.relay.incoming taken body rest))
    × ((body rest : List ℕ) → ¬ (ReadsBody o.relay.outgoing output body rest))

-- the text of the head, and then these bytes, is read as this head and as no other, and then these bytes; and it is judged to have the
-- framing of the body
abbrev pub IsReadAsItself : ℕ → List ℕ → LargeRequest → ℕ → List ℕ → Type 0
IsReadAsItself most bytes large port more =
    IsLarge most bytes large → port < 2 ^ 16 → most < 2 ^ 64
    → IsReadOnlyAs request_heads (framed_head_text false large.framing large.request port ++ more)
    (framed_head false large.framing large.request port) more
    × (request_framing_within most (framed_head false large.framing large.request port) ≡ Ok large.framing)
