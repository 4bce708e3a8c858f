-- The two peers of a tunnel.
use Rattle.bg_tunnel.specs.declared.peer.Peer.{Peer}
use Rattle.bg_tunnel.specs.declared.peer.Peer.TheVariants as peer

-- the other one of the two
abbrev pub other : Peer → Peer
other peer.Client = peer.Endpoint
other peer.Endpoint = peer.Client
