-- Which connections are served.
use Rattle.std.specs.Prelude.{◌≡◌, ℕ, true, All, List, map, Option, None, Some, ⊤}
use Rattle.std.specs.List.{filter_map, zip}
use Rattle.std.specs.declared.net.tcp.TcpStream.{TcpStream}
use Rattle.bg_control_port.specs.declared.admission.Admitted.{Admitted}
use Rattle.bg_peers.specs.Confirmed.{AreConfirmed}
use Rattle.bg_peers.specs.Users.{has_peer_user}
use Rattle.bg_peers.specs.declared.socket_row.PeerSocket.{PeerSocket}
use Rattle.bg_peers.specs.declared.users.Users.{Users}

-- each has a user, who is on the list, if there is one
abbrev pub AreListed : Option Users → List Admitted → Type 0
AreListed None admitted = ⊤
AreListed (Some u) admitted = All (λ a. has_peer_user a.user u ≡ true) admitted

-- a connection where all users are served
abbrev pub served_to_all : TcpStream → Admitted
served_to_all stream = record { stream = stream; user = None }

-- a connection with its listed user
abbrev pub served : TcpStream → Option ℕ → Option Admitted
served stream None = None
served stream (Some user) = Some (record { stream = stream; user = Some user })

-- those of the connections that have a listed user
abbrev pub served_of : List TcpStream → List (Option ℕ) → List Admitted
served_of streams users = filter_map (λ p. served p.0 p.1) (zip streams users)

-- those of the connections that are served: all, or with a list those whose listed user is confirmed by two reads of the look-up
abbrev pub AreServed : {L : Type 0} → (L → L → TcpStream → PeerSocket → Type 0) → Option Users → L → L → List TcpStream → List Admitted → Type 0
AreServed tells None before after arrived admitted = admitted ≡ map served_to_all arrived
AreServed tells (Some u) before after arrived admitted =
    (users : List (Option ℕ)) × AreConfirmed tells u before after arrived users × (admitted ≡ served_of arrived users)
