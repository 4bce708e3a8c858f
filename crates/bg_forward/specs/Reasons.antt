-- Why a client is refused.
use Rattle.std.specs.Prelude.{◌≡◌, ℕ, List, Option, Some, None, ⊤, codes}
use Rattle.bg_http.specs.declared.request_fault.RequestFault.{RequestFault}
use Rattle.bg_http.specs.declared.request_fault.RequestFault.TheVariants as request_fault
use Rattle.bg_http.specs.declared.response_fault.ResponseFault.{ResponseFault}
use Rattle.bg_http.specs.declared.response_fault.ResponseFault.TheVariants as response_fault
use Rattle.bg_rollout.specs.declared.fault.EnterFault.{EnterFault}
use Rattle.bg_rollout.specs.declared.fault.EnterFault.TheVariants as enter_fault
use Rattle.bg_forward.specs.declared.reason.Reason.{Reason}
use Rattle.bg_forward.specs.declared.reason.Reason.TheVariants as reason
use Rattle.bg_forward.specs.declared.serving.End.{End}
use Rattle.bg_forward.specs.declared.serving.End.TheVariants as end

-- the status with which a client is refused for a reason
abbrev pub reason_status : Reason → ℕ
reason_status reason.Malformed = 400
reason_status reason.HeadTooLarge = 431
reason_status reason.NotSupported = 501
reason_status reason.BodyTooLarge = 413
reason_status reason.NoPreview = 503
reason_status reason.NoEndpoint = 503
reason_status reason.HistoryFull = 503
reason_status reason.Memory = 503
reason_status reason.GivenUp = 503
reason_status reason.ClientGone = 503
reason_status reason.ConnectFailed = 502
reason_status reason.ConnectTimeout = 502
reason_status reason.ResponseTimeout = 502
reason_status reason.ResponseMalformed = 502
reason_status reason.ResponseTooLarge = 502

-- the reason's name in an access log
abbrev pub reason_name : Reason → List ℕ
reason_name reason.Malformed = codes "head"
reason_name reason.HeadTooLarge = codes "head"
reason_name reason.NotSupported = codes "head"
reason_name reason.BodyTooLarge = codes "body"
reason_name reason.NoPreview = codes "no_preview"
reason_name reason.NoEndpoint = codes "no_endpoint"
reason_name reason.HistoryFull = codes "history_full"
reason_name reason.Memory = codes "memory"
reason_name reason.ConnectFailed = codes "connect_failed"
reason_name reason.ConnectTimeout = codes "connect_timeout"
reason_name reason.ResponseTimeout = codes "response_timeout"
reason_name reason.ResponseMalformed = codes "response_malformed"
reason_name reason.ResponseTooLarge = codes "response_too_large"
reason_name reason.GivenUp = codes "given_up"
reason_name reason.ClientGone = codes "client_gone"

-- why a request that has this fault is refused; none where its client isn't answered
abbrev pub request_reason : RequestFault → Option Reason
request_reason request_fault.HeadTooLarge = Some reason.HeadTooLarge
request_reason request_fault.Bad = Some reason.Malformed
request_reason request_fault.NotDone = Some reason.NotSupported
request_reason request_fault.TooLarge = Some reason.BodyTooLarge
request_reason request_fault.OutOfMemory = Some reason.Memory
request_reason request_fault.ReadFailed = None
request_reason request_fault.WriteFailed = None
request_reason request_fault.Closed = None

-- why a request is refused that may not enter
abbrev pub enter_reason : EnterFault → Reason
enter_reason enter_fault.NoPreview = reason.NoPreview
enter_reason enter_fault.NoEndpoints = reason.NoEndpoint
enter_reason enter_fault.NumbersSpent = reason.HistoryFull
enter_reason enter_fault.HistoryFull = reason.HistoryFull
enter_reason enter_fault.OutOfMemory = reason.Memory

-- why a request is refused whose response has this fault
abbrev pub response_reason : ResponseFault → Reason
response_reason response_fault.ReadFailed = reason.ConnectFailed
response_reason response_fault.HeadTooLarge = reason.ResponseTooLarge
response_reason response_fault.TooLarge = reason.ResponseTooLarge
response_reason response_fault.Bad = reason.ResponseMalformed
response_reason response_fault.Closed = reason.ResponseMalformed
response_reason response_fault.OutOfMemory = reason.Memory

-- a refusal has a reason of its status, and a response has none
abbrev pub TellsWhy : End → Option Reason → Type 0
TellsWhy (end.Answered code) why = why ≡ None
TellsWhy (end.Refused status) why = (r : Reason) × (why ≡ Some r) × (status ≡ reason_status r)
TellsWhy end.WriteFailed why = ⊤
TellsWhy end.Closed why = why ≡ None
TellsWhy end.ReadFailed why = why ≡ None
