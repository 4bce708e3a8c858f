-- The entry of a connection in the access log.
use Rattle.std.specs.Prelude.{ℕ, ◌+◌, min, Bool, true, false, ◌==◌, if◌then◌else◌, List, Option, Some, None, codes}
use Rattle.bg_rollout.specs.declared.ticket.Ticket.{Ticket}
use Rattle.bg_dial.specs.declared.dialled.Route.{Route}
use Rattle.bg_forward.specs.Reasons.{reason_name}
use Rattle.bg_forward.specs.declared.reason.Reason.{Reason}
use Rattle.bg_forward.specs.declared.reason.Reason.TheVariants as reason
use Rattle.bg_forward.specs.declared.serving.End.{End}
use Rattle.bg_forward.specs.declared.serving.End.TheVariants as end
use Rattle.bg_tunnel.specs.declared.peer.Peer.TheVariants as peer
use Rattle.bg_tunnel.specs.declared.tunnel_end.TunnelEnd.TheVariants as tunnel
use Rattle.bg_event_loop.specs.declared.tunnel_ending.TunnelEnding.{TunnelEnding}
use Rattle.bg_event_loop.specs.declared.tunnel_ending.TunnelEnding.TheVariants as ending

-- what is logged as the status if a client has gone before its answer, as by nginx; no client is sent it
abbrev pub client_closed_request : ℕ
client_closed_request = 499

-- the status code of the response or the refusal that was written, or of the refusal in whose place a response was cut off
abbrev pub end_status : End → Option ℕ
end_status (end.Answered code) = Some code
end_status (end.Refused status) = Some status
end_status end.Closed = None
end_status end.ReadFailed = None
end_status end.WriteFailed = None

-- how a request ended, whose response was cut off or not
abbrev pub end_name : Bool → End → List ℕ
end_name is_cut (end.Answered code) = codes "answered"
end_name false (end.Refused status) = codes "refused"
end_name true (end.Refused status) = codes "cut"
end_name is_cut end.Closed = codes "closed"
end_name is_cut end.ReadFailed = codes "read_failed"
end_name is_cut end.WriteFailed = codes "write_failed"

-- the status in the log: that which was written, unless the client had gone before its answer
abbrev pub logged_status : End → Option Reason → Option ℕ
logged_status e None = end_status e
logged_status e (Some reason.ClientGone) = Some client_closed_request
logged_status e (Some why) = end_status e

-- the end in the log: a request whose client had gone is refused, whether or not the refusal could be written or its response was
-- cut off
abbrev pub logged_end : Bool → End → Option Reason → List ℕ
logged_end is_cut e None = end_name is_cut e
logged_end is_cut e (Some reason.ClientGone) = codes "refused"
logged_end is_cut e (Some why) = end_name is_cut e

-- a reason's name; if the head passes all rules, a malformed or large part is one of the body or of the trailers
abbrev pub logged_reason : Bool → Reason → List ℕ
logged_reason true reason.Malformed = codes "body"
logged_reason true reason.HeadTooLarge = codes "body"
logged_reason is_head_sound why = reason_name why

-- the number of a request in the log: that of its book behind this offset, if it has 64 bits
abbrev pub logged_number : ℕ → ℕ → ℕ
logged_number offset number = min (offset + number) 18446744073709551615

-- the port of the ticket, if another port was dialled last
abbrev pub slot_port : Option Ticket → Option Route → Option ℕ
slot_port None route = None
slot_port (Some ticket) None = None
slot_port (Some ticket) (Some route) =
    if route.port == ticket.port then None else Some ticket.port

-- how a tunnel ended
abbrev pub tunnel_name : TunnelEnding → List ℕ
tunnel_name (ending.Ended tunnel.Whole) = codes "whole"
tunnel_name (ending.Ended (tunnel.Failed peer.Client)) = codes "client_failed"
tunnel_name (ending.Ended (tunnel.Failed peer.Endpoint)) = codes "endpoint_failed"
tunnel_name (ending.Ended tunnel.Silent) = codes "silent"
tunnel_name ending.GivenUp = codes "given_up"
