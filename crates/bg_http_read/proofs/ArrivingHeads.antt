-- The head of a request that was not read whole, by the bytes that were fed.
use Rattle.std.proofs.Common.{◌≡◌, Bor, ℕ, List, IfSome, Option, Some, None, option_copied, option_map, subst, sym}
use Rattle.bg_http.specs.declared.request.RequestHead.{RequestHead}
use Rattle.bg_http_read.specs.ArrivingHeads.{BeginsWith}
use Rattle.bg_http_read.specs.RequestsFed.{IsAt, known_head}
use Rattle.bg_http_read.specs.declared.request_progress.RequestStage.{RequestStage}
use Rattle.bg_http_read.specs.declared.request_progress.RequestStage.TheVariants as part

abbrev pub head_of : RequestStage → Option RequestHead
head_of at = option_map (λ refused. refused.head) (known_head at)

-- the bytes begin with the head that is known while more may be fed
begins_known : (at : RequestStage) (waits seen : List ℕ) (head : RequestHead) → IsAt at waits seen
    → Some head ≡ head_of at → BeginsWith seen head
begins_known (part.Head end) waits seen head h is = cc
begins_known (part.Body request) waits seen head h is =
    let same : head ≡ request.head = cc in
    subst (BeginsWith seen) (sym same) (request.framing, h.fed.after, h.fed.found)
begins_known (part.Done told) waits seen head h is = absurd h.fed

-- the same for a head that was given, or none
pub begins_if_known : (at : RequestStage) (waits seen : List ℕ) (found : Option (Bor RequestHead))
    → IsAt at waits seen → option_copied found ≡ head_of at
    → IfSome found (λ head. BeginsWith seen head.now)
begins_if_known at waits seen None h is = tt
begins_if_known at waits seen (Some head) h is = begins_known at waits seen head.now h is
