-- A request that is dialled for, and one that is forwarded on a connection.
use Rattle.std.specs.Prelude.{ℕ, Bool, false, ◌&&◌, not, List, [], nat_lt}
use Rattle.bg_http.specs.declared.request.Request.{Request}
use Rattle.bg_endpoint_side.specs.Deadlines.{renewed}
use Rattle.bg_endpoint_side.specs.OutgoingTexts.{Outgoing, uncopied_body}
use Rattle.bg_endpoint_side.specs.declared.connection_state.ConnectionState.{ConnectionState}
use Rattle.bg_endpoint_side.specs.declared.deadlines.Deadlines.{Deadlines}
use Rattle.bg_endpoint_side.specs.declared.terms.Terms.{Terms}

-- the request to which the response is read, the text that is written to the endpoint, what the request means for its
-- connection, its timeouts, and whether it was sent before, on a connection that was kept
pub record Dialing : Type 0 where
  pub request : Request
  pub text : List ℕ
  pub terms : Terms
  pub deadlines : Deadlines
  pub is_again : Bool

-- the request to which the response is read, what was written of the text and what is left of it, the bytes that came on
-- the connection since the request began on it, and what is known of the two
pub record Forwarded : Type 0 where
  pub request : Request
  pub text : Outgoing
  pub came : List ℕ
  pub state : ConnectionState

-- another endpoint may be dialled: the request was sent on no connection, and the timeout of its response has not passed
abbrev pub may_go_elsewhere : Dialing → ℕ → Bool
may_go_elsewhere dialing now = not dialing.is_again && nat_lt now dialing.deadlines.last

-- a dial gave no connection, and another endpoint is dialled with this text and under these terms; the dial has five seconds
abbrev pub elsewhere : Dialing → List ℕ → Terms → ℕ → Dialing
elsewhere dialing text terms now =
    record dialing { text = text; terms = terms; deadlines = renewed dialing.deadlines 5000 now }

-- a connection is there for the request: a new one, or one that was kept
abbrev pub begins_on : Bool → Dialing → ℕ → Forwarded
begins_on is_kept dialing now = record {
  request = dialing.request;
  text = record { sent = []; rest = dialing.text; uncopied = uncopied_body dialing.request };
  came = [];
  state = record {
    terms = dialing.terms;
    deadlines = renewed dialing.deadlines 30000 now;
    is_kept = is_kept;
    is_again = dialing.is_again;
    is_unread = false;
    is_ending = false;
  };
}
