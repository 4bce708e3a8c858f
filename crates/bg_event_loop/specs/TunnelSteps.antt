-- The steps of a tunnel that are due on the connection of a peer.
use Rattle.std.specs.Prelude.{Bool, ◌&&◌, ◌||◌, not}
use Rattle.bg_http.specs.Codings.{is_empty}
use Rattle.bg_tunnel.specs.Tunnels.{TunnelState, direction, is_to_shut, to_write, wants_input}
use Rattle.bg_tunnel.specs.declared.peer.Peer.{Peer}
use Rattle.bg_event_loop.specs.declared.readiness.Readiness.{Readiness}

-- bytes are to be written to the peer, and a write may take some
abbrev pub writes : TunnelState → Peer → Readiness → Bool
writes tunnel peer ready = ready.output && not (is_empty (to_write peer tunnel))

-- bytes of the peer are to be read, and a read may find some, or the end of the input
abbrev pub reads : TunnelState → Peer → Readiness → Bool
reads tunnel peer ready = ready.input && wants_input peer tunnel

-- a step is due
abbrev pub is_due : TunnelState → Peer → Readiness → Bool
is_due tunnel peer ready = writes tunnel peer ready || is_to_shut peer tunnel || reads tunnel peer ready

-- the connection of the peer is over, and no step on it is due, which would tell; its writing side was not shut, since a connection
-- both of whose sides have ended is over, too
abbrev pub is_gone : TunnelState → Peer → Readiness → Bool
is_gone tunnel peer ready = ready.reset && not (is_due tunnel peer ready) && not (direction peer tunnel).is_shut
