-- What the bytes of an endpoint say about an upgrade, whatever follows them.
use Rattle.std.proofs.Common.{◌≡◌, ℕ, ◌≤◌, Bool, true, false, if◌then◌else◌, List, length, drop, refl, ap, ◌∙◌}
use Rattle.std.specs.Prelude.{IsFalse}
use Rattle.bg_http.specs.declared.request.Request.{Request}
use Rattle.bg_http.specs.declared.response.ResponseHead.{ResponseHead}
use Rattle.bg_http.specs.declared.response_fault.ResponseFault.{ResponseFault}
use Rattle.bg_http.specs.declared.response_fault.ResponseFault.TheVariants as fault
use Rattle.bg_http_read.specs.HeadFaults.{ResponseHeadFails}
use Rattle.bg_http_read.specs.Heads.{ReadsResponseHead}
use Rattle.bg_http_read.specs.PlainHeads.{HasOneHead, NeverHasHeadAt}
use Rattle.bg_http_read.specs.ResponseStates.{is_of_stream}
use Rattle.bg_upgrade.specs.Acceptances.{FindsAcceptance, NeverAccepts, judgement}
use Rattle.bg_upgrade.specs.Upgrades.{accepts_upgrade}
use Rattle.bg_upgrade.specs.declared.acceptance.Acceptance.TheVariants.{Accepts, Other}

-- what is known of the heads of all inputs
abbrev pub OneHead : Type 0
OneHead =
    (input more : List ℕ) (head other : ResponseHead) (rest left : List ℕ) → HasOneHead input more head other rest left

abbrev pub NeverHead : Type 0
NeverHead =
    (input more : List ℕ) (named : ResponseFault) (head : ResponseHead) (rest : List ℕ)
    → NeverHasHeadAt input more named head rest

-- the answer for a head
pub judged : OneHead → (request : Request) (bytes : List ℕ) (head : ResponseHead) (taken : ℕ) → taken ≤ length bytes
    → ReadsResponseHead bytes head (drop taken bytes) → FindsAcceptance request bytes (judgement request head taken)
judged one request bytes head taken fits reads = by_test (accepts_upgrade request head) refl
  where
    by_test : (t : Bool) → accepts_upgrade request head ≡ t
        → FindsAcceptance request bytes (if t then Accepts head taken else Other)
    by_test true e = (fits, (reads, e))
    by_test false e = λ more other left again.
        ap (accepts_upgrade request) (one bytes more head other (drop taken bytes) left reads again).0 ∙ e

-- a head that is malformed or too large is none
pub no_head : NeverHead → (request : Request) (bytes : List ℕ) (named : ResponseFault) → (named ≡ fault.OutOfMemory → ⊥)
    → IsFalse (is_of_stream named) → ResponseHeadFails bytes named → NeverAccepts request bytes
no_head never request bytes fault.ReadFailed other found fails more head rest reads = cc
no_head never request bytes fault.HeadTooLarge other found fails more head rest reads =
    absurd (never bytes more fault.HeadTooLarge head rest fails refl reads)
no_head never request bytes fault.Bad other found fails more head rest reads =
    absurd (never bytes more fault.Bad head rest fails refl reads)
no_head never request bytes fault.TooLarge other found fails more head rest reads = absurd fails
no_head never request bytes fault.Closed other found fails more head rest reads = cc
no_head never request bytes fault.OutOfMemory other found fails more head rest reads = absurd (other refl)
