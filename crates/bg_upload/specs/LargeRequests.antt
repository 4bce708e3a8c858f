-- Requests that are too large to be held until they are whole.
use Rattle.std.specs.Prelude.{◌≡◌, ◌⊎◌, ℕ, ◌≤◌, List, drop, length, None, Ok, Err, IsFalse}
use Rattle.bg_http.specs.RequestRules.{owes_continue, request_framing_within}
use Rattle.bg_http.specs.declared.request.Request.{Request}
use Rattle.bg_http.specs.declared.request.RequestHead.{RequestHead}
use Rattle.bg_http.specs.declared.request_fault.RequestFault.{RequestFault}
use Rattle.bg_http.specs.declared.request_rules.Framing.{Framing}
use Rattle.bg_http.specs.declared.request_rules.Framing.TheVariants as framing
use Rattle.bg_http_read.specs.HeadFaults.{RequestHeadFails}
use Rattle.bg_http_read.specs.Heads.{HeadIsCut, ReadsRequestHead, request_heads}
use Rattle.bg_http_read.specs.RequestStates.{is_of_stream}
use Rattle.bg_upload.specs.declared.large_request.LargeRequest.{LargeRequest}

-- the request has the parts of the head, and no body
pub record HasHead (request : Request) (head : RequestHead) : Type 0 where
  pub method_is : request.method ≡ head.method
  pub target_is : request.target ≡ head.target
  pub minor_is : request.minor ≡ head.minor
  pub fields_are : request.fields ≡ head.fields
  pub no_body : request.body ≡ None

-- the bytes begin with a head that passes all rules, with a body of at most `most` bytes, if its length is told, in this framing
pub record BeginsWith (most : ℕ) (bytes : List ℕ) (named : Framing) (head : RequestHead) (behind : List ℕ) : Type 0 where
  pub reads : ReadsRequestHead bytes head behind
  pub judged : request_framing_within most head ≡ Ok named

-- the bytes begin with the head of this request, which names a body
pub record IsLarge (most : ℕ) (bytes : List ℕ) (large : LargeRequest) : Type 0 where
  pub head : RequestHead
  pub begins : BeginsWith most bytes large.framing head (drop large.head_length bytes)
  pub request_is : HasHead large.request head
  pub expects_is : large.expects_continue ≡ owes_continue head large.framing
  pub has_body : ¬ (large.framing ≡ framing.NoBody)
  pub fits : large.head_length ≤ length bytes

-- the head is not complete, or names no body
abbrev pub HasNoLarge : ℕ → List ℕ → Type 0
HasNoLarge most bytes =
    HeadIsCut request_heads bytes
    ⊎ ((head : RequestHead) × (behind : List ℕ) × BeginsWith most bytes framing.NoBody head behind)

-- the bytes do not begin with a head, and the fault is not one of the stream; or the head breaks a rule, the first one with this
-- fault
abbrev pub IsRefusedLarge : ℕ → List ℕ → RequestFault → Type 0
IsRefusedLarge most bytes fault =
    (RequestHeadFails bytes fault × IsFalse (is_of_stream fault))
    ⊎ ((head : RequestHead) × (behind : List ℕ) × ReadsRequestHead bytes head behind
    × (request_framing_within most head ≡ Err fault))
