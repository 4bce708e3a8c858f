-- A tunnel, and what each call makes of it.
use Rattle.std.specs.Prelude.{ℕ, ◌+◌, Bool, ◌&&◌, ◌==◌, not, nat_le, nat_lt, if◌then◌else◌, List, [], length, take, Option, Some, None, is_some}
use Rattle.bg_tunnel.specs.Directions.{DirectionState, begun_with, ended, shut, with_more, with_taken}
use Rattle.bg_tunnel.specs.Peers.{other}
use Rattle.bg_tunnel.specs.declared.peer.Peer.{Peer}
use Rattle.bg_tunnel.specs.declared.peer.Peer.TheVariants as peer
use Rattle.bg_tunnel.specs.declared.tunnel.TheConstants.{WINDOW}
use Rattle.bg_tunnel.specs.declared.tunnel_end.TunnelEnd.{TunnelEnd}
use Rattle.bg_tunnel.specs.declared.tunnel_end.TunnelEnd.TheVariants as end_is

-- the bytes for each peer, the timeout, the moment of the last byte, and how the tunnel ended, if it has
pub record TunnelState : Type 0 where
  pub for_client : DirectionState
  pub for_endpoint : DirectionState
  pub timeout_millis : ℕ
  pub last_byte : ℕ
  pub ending : Option TunnelEnd

-- a tunnel in which these bytes wait for the endpoint and for the client
abbrev pub begun : List ℕ → List ℕ → ℕ → ℕ → TunnelState
begun for_endpoint for_client timeout_millis now = record {
  for_client = begun_with for_client;
  for_endpoint = begun_with for_endpoint;
  timeout_millis = timeout_millis;
  last_byte = now;
  ending = None;
}

-- the direction to this peer
abbrev pub direction : Peer → TunnelState → DirectionState
direction peer.Client tunnel = tunnel.for_client
direction peer.Endpoint tunnel = tunnel.for_endpoint

abbrev pub with_direction : Peer → DirectionState → TunnelState → TunnelState
with_direction peer.Client new tunnel = record tunnel { for_client = new }
with_direction peer.Endpoint new tunnel = record tunnel { for_endpoint = new }

-- the bytes that wait for this peer
abbrev pub waiting : Peer → TunnelState → List ℕ
waiting peer tunnel = (direction peer tunnel).waiting

-- the tunnel has ended
abbrev pub is_over : TunnelState → Bool
is_over tunnel = is_some tunnel.ending

-- the bytes of this peer are taken: its input has not ended, nor has the tunnel
abbrev pub accepts : Peer → TunnelState → Bool
accepts peer tunnel = not (is_over tunnel) && not (direction (other peer) tunnel).has_ended

-- bytes of this peer are to be read
abbrev pub wants_input : Peer → TunnelState → Bool
wants_input peer tunnel = accepts peer tunnel && nat_lt (length (waiting (other peer) tunnel)) WINDOW

-- what is to be written to this peer
abbrev pub to_write : Peer → TunnelState → List ℕ
to_write peer tunnel = if is_over tunnel then [] else waiting peer tunnel

-- the end is to be passed on to this peer
abbrev pub is_to_shut : Peer → TunnelState → Bool
is_to_shut peer tunnel =
    not (is_over tunnel) && (direction peer tunnel).has_ended && (length (waiting peer tunnel) == 0)
    && not (direction peer tunnel).is_shut

-- the moment of the last byte: this one if there are bytes, and otherwise the one before
abbrev pub moment_of : ℕ → ℕ → ℕ → ℕ
moment_of count now before = if nat_lt 0 count then now else before

-- so many bytes came or were taken at this moment
abbrev pub at_moment : ℕ → ℕ → TunnelState → TunnelState
at_moment count now tunnel = record tunnel { last_byte = moment_of count now tunnel.last_byte }

-- these bytes came from this peer and were accepted, and what a call makes of them
abbrev pub with_bytes_from : Peer → List ℕ → ℕ → TunnelState → TunnelState
with_bytes_from peer bytes now tunnel =
    at_moment (length bytes) now (with_direction (other peer) (with_more bytes (direction (other peer) tunnel)) tunnel)

abbrev pub fed : Peer → List ℕ → ℕ → TunnelState → TunnelState
fed peer bytes now tunnel = if accepts peer tunnel then with_bytes_from peer bytes now tunnel else tunnel

-- this peer took so many of the bytes that wait, and what a call makes of that
abbrev pub with_bytes_to : Peer → ℕ → ℕ → TunnelState → TunnelState
with_bytes_to peer count now tunnel =
    at_moment (length (take count (waiting peer tunnel))) now
    (with_direction peer (with_taken count (direction peer tunnel)) tunnel)

abbrev pub taken : Peer → ℕ → ℕ → TunnelState → TunnelState
taken peer count now tunnel = if is_over tunnel then tunnel else with_bytes_to peer count now tunnel

-- the input of this peer ended, and what a call makes of that
abbrev pub with_end_from : Peer → TunnelState → TunnelState
with_end_from peer tunnel = with_direction (other peer) (ended (direction (other peer) tunnel)) tunnel

abbrev pub input_ended : Peer → TunnelState → TunnelState
input_ended peer tunnel = if is_over tunnel then tunnel else with_end_from peer tunnel

-- the tunnel ended so
abbrev pub over : TunnelEnd → TunnelState → TunnelState
over how tunnel = record tunnel { ending = Some how }

-- the tunnel is whole if both ends were passed on
abbrev pub settled : TunnelState → TunnelState
settled tunnel = if tunnel.for_client.is_shut && tunnel.for_endpoint.is_shut then over end_is.Whole tunnel else tunnel

-- the end was passed on to this peer, and what a call makes of that
abbrev pub with_end_to : Peer → TunnelState → TunnelState
with_end_to peer tunnel = with_direction peer (shut (direction peer tunnel)) tunnel

abbrev pub end_passed : Peer → TunnelState → TunnelState
end_passed peer tunnel = if is_to_shut peer tunnel then settled (with_end_to peer tunnel) else tunnel

-- the connection of this peer failed
abbrev pub failed : Peer → TunnelState → TunnelState
failed peer tunnel = if is_over tunnel then tunnel else over (end_is.Failed peer) tunnel

-- the timeout has passed since the last byte
abbrev pub is_silent : ℕ → TunnelState → Bool
is_silent now tunnel = nat_le (tunnel.last_byte + tunnel.timeout_millis) now

-- the tunnel after a look at the time
abbrev pub looked : ℕ → TunnelState → TunnelState
looked now tunnel = if not (is_over tunnel) && is_silent now tunnel then over end_is.Silent tunnel else tunnel
