-- The head of a large request is read as it was written.
use Rattle.std.proofs.Common.{◌≡◌, ℕ, ◌<◌, ◌-◌, ◌^◌, Bool, false, List, drop, arith, ap, sym, ◌∙◌, subst, Ok}
use Rattle.bg_http.specs.RequestRules.{request_framing_within}
use Rattle.bg_http.specs.declared.request.Request.{Request}
use Rattle.bg_http.specs.declared.request.RequestHead.{RequestHead}
use Rattle.bg_http.specs.declared.request_rules.Framing.{Framing}
use Rattle.bg_http.specs.declared.request_rules.Framing.TheVariants as framing
use Rattle.bg_http_read.specs.AnySize.{head_of}
use Rattle.bg_http_read.specs.FramedHeads.{IsJudgedAsFramed, IsJudgedWithin, IsReadBeforeBody, IsWithin}
use Rattle.bg_http_read.specs.Heads.{ReadsRequestHead}
use Rattle.bg_upload.specs.LargeRequests.{HasHead}
use Rattle.bg_upload.specs.Laws.{IsReadAsItself}
use Rattle.bg_upload.specs.declared.large_request.LargeRequest.{LargeRequest}

-- the request has the parts of the head
same_head : (request : Request) (head : RequestHead) → HasHead request head → head ≡ head_of request
same_head request head h =
    let method : head.method ≡ request.method = sym h.method_is in
    let target : head.target ≡ request.target = sym h.target_is in
    let minor : head.minor ≡ request.minor = sym h.minor_is in
    let fields : head.fields ≡ request.fields = sym h.fields_are in
    ap (λ m. record { method = m; target = head.target; minor = head.minor; fields = head.fields }) method
    ∙ ap (λ t. record { method = request.method; target = t; minor = head.minor; fields = head.fields }) target
    ∙ ap (λ n. record { method = request.method; target = request.target; minor = n; fields = head.fields }) minor
    ∙ ap (λ f. record { method = request.method; target = request.target; minor = request.minor; fields = f }) fields

-- a limit of 64 bits is the greatest one
wider : (most : ℕ) (named : Framing) → most < 2 ^ 64 → IsWithin most named → IsWithin (2 ^ 64 - 1) named
wider most framing.NoBody small fits = tt
wider most framing.Chunks small fits = tt
wider most (framing.Length size) small fits = omega (arith, small, fits)

pub read_as_itself
    : ((keeps : Bool) (named : Framing) (request : Request) (port : ℕ) (input rest more : List ℕ)
    → IsReadBeforeBody keeps named request port input rest more)
    → ((keeps : Bool) (named : Framing) (request : Request) (port own : ℕ) (came : Framing) (most : ℕ)
    → IsJudgedAsFramed keeps named request port own came most)
    → ((most : ℕ) (head : RequestHead) (named : Framing) → IsJudgedWithin most head named)
    → (most : ℕ) (bytes : List ℕ) (large : LargeRequest) (port : ℕ) (more : List ℕ) → IsReadAsItself most bytes large port more
read_as_itself read judged within most bytes large port more h small fits =
    let behind = drop large.head_length bytes in
    let same = same_head large.request h.head h.request_is in
    let came = subst (λ head. ReadsRequestHead bytes head behind) same h.begins.reads in
    let own = subst (λ head. request_framing_within most head ≡ Ok large.framing) same h.begins.judged in
    let limit = within most (head_of large.request) large.framing own in (
      read false large.framing large.request port bytes behind more came small (wider most large.framing fits limit),
      judged false large.framing large.request port most large.framing most own limit fits,
    )
