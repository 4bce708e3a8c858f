-- What a fault says about an input that has no head.
use Rattle.std.specs.Prelude.{ℕ, List, ⊤}
use Rattle.bg_http.specs.declared.request_fault.RequestFault.{RequestFault}
use Rattle.bg_http.specs.declared.request_fault.RequestFault.TheVariants as request_fault
use Rattle.bg_http.specs.declared.response_fault.ResponseFault.{ResponseFault}
use Rattle.bg_http.specs.declared.response_fault.ResponseFault.TheVariants as response_fault
use Rattle.bg_http_read.specs.Heads.{HeadIsCut, HeadIsLarge, HeadIsMalformed, request_heads, response_heads}

-- what a fault says about an input that should begin with the head of a request
abbrev pub RequestHeadFails : List ℕ → RequestFault → Type 0
RequestHeadFails input request_fault.ReadFailed = ⊤
RequestHeadFails input request_fault.WriteFailed = ⊥
RequestHeadFails input request_fault.HeadTooLarge = HeadIsLarge request_heads input
RequestHeadFails input request_fault.Bad = HeadIsMalformed request_heads input
RequestHeadFails input request_fault.Closed = HeadIsCut request_heads input
RequestHeadFails input request_fault.NotDone = ⊥
RequestHeadFails input request_fault.TooLarge = ⊥
RequestHeadFails input request_fault.OutOfMemory = ⊤

-- the same for a response
abbrev pub ResponseHeadFails : List ℕ → ResponseFault → Type 0
ResponseHeadFails input response_fault.ReadFailed = ⊤
ResponseHeadFails input response_fault.HeadTooLarge = HeadIsLarge response_heads input
ResponseHeadFails input response_fault.Bad = HeadIsMalformed response_heads input
ResponseHeadFails input response_fault.TooLarge = ⊥
ResponseHeadFails input response_fault.Closed = HeadIsCut response_heads input
ResponseHeadFails input response_fault.OutOfMemory = ⊤
