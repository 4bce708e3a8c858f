-- The head of a request that was refused.
use Rattle.std.specs.Prelude.{◌≡◌, ℕ, Bool, false, List, Option, Some, None, is_ok}
use Rattle.bg_http.specs.RequestRules.{request_framing}
use Rattle.bg_http.specs.declared.request_fault.RequestFault.{RequestFault}
use Rattle.bg_http_read.specs.HeadFaults.{RequestHeadFails}
use Rattle.bg_http_read.specs.Heads.{ReadsRequestHead}
use Rattle.bg_http_read.specs.declared.refused_head.RefusedHead.{RefusedHead}

-- the input begins with this head, and `is_sound` is whether the head passes all rules
pub record BeginsRefused (input : List ℕ) (refused : RefusedHead) : Type 0 where
  pub after : List ℕ
  pub reads : ReadsRequestHead input refused.head after
  pub soundness : refused.is_sound ≡ is_ok (request_framing refused.head)

-- what is told of the head, if an input has this fault: the head that the input begins with; or
-- nothing, if the input does not begin with a head. If an allocation failed, the head may be left out
abbrev pub TellsHead : List ℕ → RequestFault → Option RefusedHead → Type 0
TellsHead input named (Some refused) = BeginsRefused input refused
TellsHead input named None = RequestHeadFails input named

-- a head is known, and passes all rules
abbrev pub is_sound_head : Option RefusedHead → Bool
is_sound_head (Some refused) = refused.is_sound
is_sound_head None = false
