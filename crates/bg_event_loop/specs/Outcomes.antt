-- How a request ended, for the log.
use Rattle.std.specs.Prelude.{ℕ, Bool, true, false, Option, Some, None}
use Rattle.bg_both_sides.specs.declared.endpoint_step.Given.TheVariants as given
use Rattle.bg_endpoint_side.specs.declared.outcome.ForwardFault.{ForwardFault}
use Rattle.bg_endpoint_side.specs.declared.outcome.ForwardFault.TheVariants as forward_fault
use Rattle.bg_event_loop.specs.declared.outcome.Cause.{Cause}
use Rattle.bg_event_loop.specs.declared.outcome.Cause.TheVariants as cause
use Rattle.bg_forward.specs.Connections.{unanswered}
use Rattle.bg_forward.specs.Reasons.{reason_status, request_reason, response_reason}
use Rattle.bg_forward.specs.declared.reason.Reason.{Reason}
use Rattle.bg_forward.specs.declared.reason.Reason.TheVariants as reason
use Rattle.bg_forward.specs.declared.serving.End.{End}
use Rattle.bg_forward.specs.declared.serving.End.TheVariants as end
use Rattle.bg_http.specs.declared.request_fault.RequestFault.{RequestFault}

-- why a client is refused whose request had this fault at its endpoint
abbrev pub fault_reason : ForwardFault → Reason
fault_reason forward_fault.ConnectFailed = reason.ConnectFailed
fault_reason forward_fault.ConnectTimeout = reason.ConnectTimeout
fault_reason forward_fault.ResponseTimeout = reason.ResponseTimeout
fault_reason (forward_fault.Response fault) = response_reason fault
fault_reason forward_fault.GivenUp = reason.GivenUp
fault_reason forward_fault.ClientGone = reason.ClientGone

-- a response with this code was written, or could not be, since its client had gone
abbrev pub answered_end : Bool → ℕ → End
answered_end true code = end.Answered code
answered_end false code = end.WriteFailed

abbrev pub answered_reason : Bool → Option Reason
answered_reason true = None
answered_reason false = Some reason.ClientGone

-- a refusal for this reason was written, or could not be
abbrev pub refused_end : Bool → Reason → End
refused_end true why = end.Refused (reason_status why)
refused_end false why = end.WriteFailed

-- what came is no request: it is refused for a reason, or not answered
abbrev pub fault_end : Bool → Option Reason → RequestFault → End
fault_end is_written (Some why) fault = refused_end is_written why
fault_end is_written None fault = unanswered fault

-- how a request ended, whose answer was written or could not be; if its response was cut off, its end and its reason are as if
-- the client had taken nothing of the response
abbrev pub cause_end : Bool → Cause → End
cause_end is_written (cause.Given (given.Response code)) = answered_end is_written code
cause_end is_written (cause.Given (given.Refusal fault)) = refused_end is_written (fault_reason fault)
cause_end is_written (cause.Given (given.Cut fault)) = refused_end is_written (fault_reason fault)
cause_end is_written (cause.Refused why) = refused_end is_written why
cause_end is_written (cause.Fault fault) = fault_end is_written (request_reason fault) fault
cause_end is_written (cause.CutByFault fault) = fault_end is_written (request_reason fault) fault

-- why it was refused
abbrev pub cause_reason : Bool → Cause → Option Reason
cause_reason is_written (cause.Given (given.Response code)) = answered_reason is_written
cause_reason is_written (cause.Given (given.Refusal fault)) = Some (fault_reason fault)
cause_reason is_written (cause.Given (given.Cut fault)) = Some (fault_reason fault)
cause_reason is_written (cause.Refused why) = Some why
cause_reason is_written (cause.Fault fault) = request_reason fault
cause_reason is_written (cause.CutByFault fault) = request_reason fault

-- whether its response was cut off, which its client took a part of
abbrev pub is_cut_by : Cause → Bool
is_cut_by (cause.Given (given.Response code)) = false
is_cut_by (cause.Given (given.Refusal fault)) = false
is_cut_by (cause.Given (given.Cut fault)) = true
is_cut_by (cause.Refused why) = false
is_cut_by (cause.Fault fault) = false
is_cut_by (cause.CutByFault fault) = true

-- how a request ended that was not answered: its client went before the answer to a whole request; else it ended its input, or
-- the connection failed or timed out
abbrev pub unanswered_end : Bool → Bool → End
unanswered_end true has_ended = end.WriteFailed
unanswered_end false true = end.Closed
unanswered_end false false = end.ReadFailed

abbrev pub unanswered_reason : Bool → Option Reason
unanswered_reason true = Some reason.ClientGone
unanswered_reason false = None
