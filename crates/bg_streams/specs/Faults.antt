-- The fault of a body, before and after the first byte was written to the client.
use Rattle.std.specs.Prelude.{Bool, if◌then◌else◌}
use Rattle.bg_http.specs.declared.response_fault.ResponseFault.{ResponseFault}
use Rattle.bg_http.specs.declared.response_fault.ResponseFault.TheVariants as response
use Rattle.bg_relay.specs.declared.relay_fault.RelayFault.{RelayFault}
use Rattle.bg_relay.specs.declared.relay_fault.RelayFault.TheVariants as relay
use Rattle.bg_streams.specs.declared.stream_fault.StreamFault.{StreamFault}
use Rattle.bg_streams.specs.declared.stream_fault.StreamFault.TheVariants as stream

-- the fault for which a client is refused
abbrev pub refusal : RelayFault → ResponseFault
refusal relay.Malformed = response.Bad
refusal relay.Cut = response.Closed
refusal relay.TooLarge = response.TooLarge
refusal relay.OutOfMemory = response.OutOfMemory

-- why the response is not passed on to its end, as a fault of the response
abbrev pub response_fault : StreamFault → ResponseFault
response_fault (stream.Refused fault) = fault
response_fault (stream.Cut fault) = refusal fault

-- a refusal, unless bytes were written to the client
abbrev pub body_fault : Bool → RelayFault → StreamFault
body_fault is_begun fault = if is_begun then stream.Cut fault else stream.Refused (refusal fault)
