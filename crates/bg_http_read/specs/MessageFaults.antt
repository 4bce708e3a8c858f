-- The fault of a message, as a fault of a request and as a fault of a response.
use Rattle.bg_http.specs.declared.request_fault.RequestFault.{RequestFault}
use Rattle.bg_http.specs.declared.request_fault.RequestFault.TheVariants as request_fault
use Rattle.bg_http.specs.declared.response_fault.ResponseFault.{ResponseFault}
use Rattle.bg_http.specs.declared.response_fault.ResponseFault.TheVariants as response_fault
use Rattle.bg_http_read.specs.declared.message_fault.MessageFault.{MessageFault}
use Rattle.bg_http_read.specs.declared.message_fault.MessageFault.TheVariants as fault

abbrev pub as_request : MessageFault → RequestFault
as_request fault.Bad = request_fault.Bad
as_request fault.HeadTooLarge = request_fault.HeadTooLarge
as_request fault.TooLarge = request_fault.TooLarge
as_request fault.OutOfMemory = request_fault.OutOfMemory

abbrev pub as_response : MessageFault → ResponseFault
as_response fault.Bad = response_fault.Bad
as_response fault.HeadTooLarge = response_fault.HeadTooLarge
as_response fault.TooLarge = response_fault.TooLarge
as_response fault.OutOfMemory = response_fault.OutOfMemory
