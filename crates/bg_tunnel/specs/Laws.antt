-- The laws of a tunnel.
use Rattle.std.specs.Prelude.{◌≡◌, ◌⊎◌, ◌↔◌, ℕ, ◌+◌, ◌-◌, ◌^◌, ◌<◌, ◌≤◌, true, false, List, [], ◌++◌, length, min, Some}
use Rattle.bg_tunnel.specs.Peers.{other}
use Rattle.bg_tunnel.specs.Runs.{IsFedWithinBounds, Runs, RunsBy, TunnelCall, last_byte_in, sent_in, taken_in}
use Rattle.bg_tunnel.specs.Tunnels.{TunnelState, begun, direction, is_over, is_to_shut, looked, to_write, waiting, wants_input}
use Rattle.bg_tunnel.specs.declared.peer.Peer.{Peer}
use Rattle.bg_tunnel.specs.declared.peer.Peer.TheVariants as peer
use Rattle.bg_tunnel.specs.declared.tunnel.TheConstants.{WINDOW}
use Rattle.bg_tunnel.specs.declared.tunnel_end.TunnelEnd.TheVariants as end_is

-- what the peer took, and then what waits for it, is what waited for it before, and then what the other one sent
abbrev pub PassesInOrder : Peer → TunnelState → List TunnelCall → TunnelState → Type 0
PassesInOrder peer old calls new =
    Runs old calls new → taken_in peer calls ++ waiting peer new ≡ waiting peer old ++ sent_in (other peer) calls

-- if bytes are fed only while the tunnel is to read them, and at most so many at once, then fewer than the window and these wait, or no more
-- than before
abbrev pub HoldsFew : ℕ → Peer → TunnelState → List TunnelCall → TunnelState → Type 0
HoldsFew most peer old calls new =
    RunsBy (IsFedWithinBounds most) old calls new
    → (length (waiting peer new) < WINDOW + most) ⊎ (length (waiting peer new) ≤ length (waiting peer old))

-- the tunnel was just made
abbrev pub IsBegin : TunnelState → Type 0
IsBegin tunnel =
    tunnel ≡ begun (waiting peer.Endpoint tunnel) (waiting peer.Client tunnel) tunnel.timeout_millis tunnel.last_byte

-- the input of the other peer has ended, and this one took all that waited for it at the begin, and then all that the other one sent
pub record TookAll (named : Peer) (old : TunnelState) (calls : List TunnelCall) (new : TunnelState) : Type 0 where
  pub has_ended : (direction named new).has_ended ≡ true
  pub none_waits : waiting named new ≡ []
  pub all_taken : taken_in named calls ≡ waiting named old ++ sent_in (other named) calls

-- an end is passed on only to a peer that took all
abbrev pub EndsAfterAll : Peer → TunnelState → List TunnelCall → TunnelState → Type 0
EndsAfterAll peer old calls new =
    IsBegin old → Runs old calls new → (direction peer new).is_shut ≡ true → TookAll peer old calls new

-- both ends were passed on
abbrev pub AreShut : TunnelState → Type 0
AreShut tunnel = (tunnel.for_client.is_shut ≡ true) × (tunnel.for_endpoint.is_shut ≡ true)

-- a tunnel is whole exactly if both ends were passed on
abbrev pub IsWholeIfShut : TunnelState → List TunnelCall → TunnelState → Type 0
IsWholeIfShut old calls new =
    IsBegin old → Runs old calls new → (new.ending ≡ Some end_is.Whole) ↔ AreShut new

-- if a tunnel is whole, each peer took all
abbrev pub WholeIsAll : Peer → TunnelState → List TunnelCall → TunnelState → Type 0
WholeIsAll peer old calls new =
    IsBegin old → Runs old calls new → new.ending ≡ Some end_is.Whole → TookAll peer old calls new

-- nothing changes a tunnel that is over, and no byte comes or is taken
abbrev pub StaysOver : Peer → TunnelState → List TunnelCall → TunnelState → Type 0
StaysOver peer old calls new =
    Runs old calls new → is_over old ≡ true
    → (new ≡ old) × (sent_in peer calls ≡ []) × (taken_in peer calls ≡ [])

-- the number of bytes that a peer took, up to the greatest u64
abbrev pub CountsBytes : Peer → TunnelState → List TunnelCall → TunnelState → Type 0
CountsBytes peer old calls new =
    IsBegin old → Runs old calls new → (direction peer new).passed ≡ min (length (taken_in peer calls)) (2 ^ 64 - 1)

-- a look ends a tunnel that is not over exactly if the timeout has passed since the last byte
abbrev pub EndsInTime : TunnelState → List TunnelCall → TunnelState → ℕ → Type 0
EndsInTime old calls new now =
    Runs old calls new → is_over new ≡ false
    → ((looked now new).ending ≡ Some end_is.Silent) ↔ (last_byte_in old.last_byte calls + old.timeout_millis ≤ now)

-- bytes of this peer are to be read, bytes are to be written to it, or the end is to be passed on to it
abbrev pub Awaits : TunnelState → Peer → Type 0
Awaits tunnel peer =
    (wants_input peer tunnel ≡ true) ⊎ ((0 < length (to_write peer tunnel)) ⊎ (is_to_shut peer tunnel ≡ true))

-- a tunnel that is not over awaits a peer
abbrev pub NeverStalls : TunnelState → List TunnelCall → TunnelState → Type 0
NeverStalls old calls new =
    IsBegin old → Runs old calls new → is_over new ≡ false → (peer : Peer) × Awaits new peer
