-- The status with which a fault is answered.
use Rattle.std.specs.Prelude.{ℕ, Bool, ◌==◌, ◌||◌, Option, Some, None}
use Rattle.bg_http.specs.declared.request_fault.RequestFault.{RequestFault}
use Rattle.bg_http.specs.declared.request_fault.RequestFault.TheVariants as request
use Rattle.bg_http.specs.declared.response_fault.ResponseFault.{ResponseFault}
use Rattle.bg_http.specs.declared.response_fault.ResponseFault.TheVariants as response

-- a status of a refusal
abbrev pub is_refusal : ℕ → Bool
is_refusal status =
    (status == 400) || (status == 413) || (status == 431) || (status == 501) || (status == 502)
    || (status == 503)

-- the status for a request's fault; none if nobody is left to answer
abbrev pub request_status : RequestFault → Option ℕ
request_status request.ReadFailed = None
request_status request.WriteFailed = None
request_status request.HeadTooLarge = Some 431
request_status request.Bad = Some 400
request_status request.Closed = None
request_status request.NotDone = Some 501
request_status request.TooLarge = Some 413
request_status request.OutOfMemory = Some 503

-- the status for a response's fault: a bad gateway, except for an allocation failure
abbrev pub response_status : ResponseFault → ℕ
response_status response.ReadFailed = 502
response_status response.HeadTooLarge = 502
response_status response.Bad = 502
response_status response.TooLarge = 502
response_status response.Closed = 502
response_status response.OutOfMemory = 503
