-- The faults of large requests.
use Rattle.std.specs.Prelude.{Result, Ok, Err}
use Rattle.bg_endpoint_side.specs.declared.outcome.ForwardFault.TheVariants as forward
use Rattle.bg_http.specs.declared.request_fault.RequestFault.{RequestFault}
use Rattle.bg_http.specs.declared.request_fault.RequestFault.TheVariants as request
use Rattle.bg_relay.specs.declared.relay_fault.RelayFault.{RelayFault}
use Rattle.bg_relay.specs.declared.relay_fault.RelayFault.TheVariants as relay
use Rattle.bg_streams.specs.Faults.{response_fault}
use Rattle.bg_streams.specs.declared.stream_fault.StreamFault.{StreamFault}
use Rattle.bg_upload.specs.declared.upload_fault.UploadFault.{UploadFault}
use Rattle.bg_upload.specs.declared.upload_fault.UploadFault.TheVariants as upload

-- the fault of a body, as one of its request
abbrev pub request_fault : RelayFault → RequestFault
request_fault relay.Malformed = request.Bad
request_fault relay.Cut = request.Closed
request_fault relay.TooLarge = request.TooLarge
request_fault relay.OutOfMemory = request.OutOfMemory

-- the fault of a body that is passed on
abbrev pub of_body : RelayFault → UploadFault
of_body fault = upload.Request (request_fault fault)

-- the fault of a response that is passed on
abbrev pub of_response : StreamFault → UploadFault
of_response fault = upload.Forward (forward.Response (response_fault fault))

-- a result with its fault as one of the large request
abbrev pub as_upload : {T E : Type 0} → (E → UploadFault) → Result T E → Result T UploadFault
as_upload name (Ok given) = Ok given
as_upload name (Err fault) = Err (name fault)
