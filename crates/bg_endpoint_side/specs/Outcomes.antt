-- What a request that was forwarded comes to.
use Rattle.std.specs.Prelude.{ℕ, Bool, true, false, not, List, Err}
use Rattle.bg_http.specs.Codings.{is_empty}
use Rattle.bg_http.specs.Statuses.{response_status}
use Rattle.bg_endpoint_side.specs.declared.outcome.DialFault.{DialFault}
use Rattle.bg_endpoint_side.specs.declared.outcome.DialFault.TheVariants as dial
use Rattle.bg_endpoint_side.specs.declared.outcome.ForwardFault.{ForwardFault}
use Rattle.bg_endpoint_side.specs.declared.outcome.ForwardFault.TheVariants as fault
use Rattle.bg_endpoint_side.specs.declared.outcome.GivingUp.{GivingUp}
use Rattle.bg_endpoint_side.specs.declared.outcome.GivingUp.TheVariants as giving_up
use Rattle.bg_endpoint_side.specs.declared.outcome.Health.{Health}
use Rattle.bg_endpoint_side.specs.declared.outcome.Health.TheVariants as endpoint
use Rattle.bg_endpoint_side.specs.declared.outcome.Outcome.{Outcome}

-- the status with which the client is refused
abbrev pub fault_status : ForwardFault → ℕ
fault_status fault.ConnectFailed = 502
fault_status fault.ConnectTimeout = 502
fault_status fault.ResponseTimeout = 502
fault_status (fault.Response named) = response_status named
fault_status fault.GivenUp = 503
fault_status fault.ClientGone = 503

-- the fault of a request whose dial failed
abbrev pub of_dial : DialFault → ForwardFault
of_dial dial.Failed = fault.ConnectFailed
of_dial dial.TimedOut = fault.ConnectTimeout
of_dial dial.NoSocket = fault.ConnectFailed

-- what such a dial tells of the endpoint
abbrev pub health_of_dial : DialFault → Health
health_of_dial dial.Failed = endpoint.Fails
health_of_dial dial.TimedOut = endpoint.Fails
health_of_dial dial.NoSocket = endpoint.Unknown

-- the fault of a request that is given up
abbrev pub of_giving_up : GivingUp → ForwardFault
of_giving_up giving_up.Drained = fault.GivenUp
of_giving_up giving_up.ClientGone = fault.ClientGone

-- there is no response, and the connection is closed
abbrev pub refused : ForwardFault → Health → Outcome
refused named health = record { answer = Err named; goes_back = false; health = health }

-- whether a byte came tells this of the endpoint
abbrev pub told : Bool → Health
told false = endpoint.Unknown
told true = endpoint.Answers

-- what the bytes that came tell of the endpoint
abbrev pub health_of : List ℕ → Health
health_of came = told (not (is_empty came))
