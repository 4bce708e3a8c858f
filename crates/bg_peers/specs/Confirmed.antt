-- The users of connections, by two reads of a list.
use Rattle.std.specs.Prelude.{◌≡◌, ℕ, Bool, true, false, ◌&&◌, ◌==◌, if◌then◌else◌, List, map, Option, None, Some}
use Rattle.std.specs.List.{AllZip, list_any, zip}
use Rattle.bg_peers.specs.Users.{has_user}
use Rattle.bg_peers.specs.declared.socket_row.PeerSocket.{PeerSocket}
use Rattle.bg_peers.specs.declared.socket_row.PeerSocket.TheVariants.{Held, Closed, Unknown}
use Rattle.bg_peers.specs.declared.users.Users.{Users}

-- a process of one of the users has the socket
abbrev pub has_user_of : Users → PeerSocket → Bool
has_user_of u (Held user) = has_user user u
has_user_of u Closed = false
has_user_of u Unknown = false

-- the user of a socket, if two reads tell that a process of the same one of the users has it
abbrev pub confirmed_user : Users → PeerSocket → PeerSocket → Option ℕ
confirmed_user u (Held user) (Held again) = if has_user user u && user == again then Some user else None
confirmed_user u (Held user) Closed = None
confirmed_user u (Held user) Unknown = None
confirmed_user u Closed second = None
confirmed_user u Unknown second = None

-- the same for each socket
abbrev pub confirmed_users : Users → List PeerSocket → List PeerSocket → List (Option ℕ)
confirmed_users u first second = map (λ p. confirmed_user u p.0 p.1) (zip first second)

-- these are the users of the connections by two reads, one after the other. The second one is of account only if the
-- first one tells of one of the users
abbrev pub AreConfirmed : {L S : Type 0} → (L → L → S → PeerSocket → Type 0) → Users → L → L → List S → List (Option ℕ) → Type 0
AreConfirmed {L} tells u before after streams users =
    (between : L) × (first : List PeerSocket) × (second : List PeerSocket)
    × AllZip (tells before between) streams first
    × (list_any (has_user_of u) first ≡ true → AllZip (tells between after) streams second)
    × (users ≡ confirmed_users u first second)
