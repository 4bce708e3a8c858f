-- Which connections are admitted.
use Rattle.std.proofs.Common.{◌≡◌, ℕ, true, List, [], ◌∷◌, Option, None, Some, IfSome, All}
use Rattle.std.proofs.lemmas.List.Elements.{All-nil, All-cons, All-head, All-tail}
use Rattle.std.specs.declared.net.tcp.TcpStream.{TcpStream}
use Rattle.bg_control_port.specs.Admissions.{served_of}
use Rattle.bg_control_port.specs.declared.admission.Admitted.{Admitted}
use Rattle.bg_peers.specs.Users.{has_peer_user, has_user}
use Rattle.bg_peers.specs.declared.users.Users.{Users}

abbrev IsListed : Users → Option ℕ → Type 0
IsListed u user = IfSome user (λ number. has_user number u ≡ true)

abbrev pub HasListed : Users → Admitted → Type 0
HasListed u a = has_peer_user a.user u ≡ true

-- where each confirmed user is listed, each admitted connection has a listed user
pub all_have_listed : (u : Users) (streams : List TcpStream) (users : List (Option ℕ)) → All (IsListed u) users → All (HasListed u) (served_of streams users)
all_have_listed u [] users h = All-nil (HasListed u)
all_have_listed u (s ∷ streams) [] h = All-nil (HasListed u)
all_have_listed u (s ∷ streams) (None ∷ users) h = all_have_listed u streams users (All-tail (IsListed u) None users h)
all_have_listed u (s ∷ streams) (Some n ∷ users) h =
    All-cons (HasListed u) (record { stream = s; user = Some n }) (served_of streams users) (All-head (IsListed u) (Some n) users h)
    (all_have_listed u streams users (All-tail (IsListed u) (Some n) users h))
