-- What the bytes of an endpoint say about an upgrade.
use Rattle.std.specs.Prelude.{◌≡◌, ℕ, ◌≤◌, true, false, List, ◌++◌, length, drop, if◌then◌else◌}
use Rattle.bg_http.specs.declared.request.Request.{Request}
use Rattle.bg_http.specs.declared.response.ResponseHead.{ResponseHead}
use Rattle.bg_http_read.specs.Heads.{HeadIsCut, ReadsResponseHead, response_heads}
use Rattle.bg_upgrade.specs.Upgrades.{accepts_upgrade}
use Rattle.bg_upgrade.specs.declared.acceptance.Acceptance.{Acceptance}
use Rattle.bg_upgrade.specs.declared.acceptance.Acceptance.TheVariants.{Accepts, More, Other}

-- the bytes are a head that accepts the upgrade, and then the rest
abbrev pub IsAcceptance : Request → List ℕ → ResponseHead → List ℕ → Type 0
IsAcceptance request bytes head rest =
    ReadsResponseHead bytes head rest × (accepts_upgrade request head ≡ true)

-- whatever follows the bytes, they do not begin with a head that accepts the upgrade
abbrev pub NeverAccepts : Request → List ℕ → Type 0
NeverAccepts request bytes =
    (more : List ℕ) (head : ResponseHead) (rest : List ℕ) → ReadsResponseHead (bytes ++ more) head rest
    → accepts_upgrade request head ≡ false

-- what an answer says about the bytes that came from the endpoint
abbrev pub FindsAcceptance : Request → List ℕ → Acceptance → Type 0
FindsAcceptance request bytes More = HeadIsCut response_heads bytes
FindsAcceptance request bytes (Accepts head taken) =
    (taken ≤ length bytes) × IsAcceptance request bytes head (drop taken bytes)
FindsAcceptance request bytes Other = NeverAccepts request bytes

-- the answer for bytes that begin with a head of this length
abbrev pub judgement : Request → ResponseHead → ℕ → Acceptance
judgement request head taken = if accepts_upgrade request head then Accepts head taken else Other
