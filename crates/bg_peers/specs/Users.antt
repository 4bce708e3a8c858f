-- The users that a list names.
use Rattle.std.specs.Prelude.{ℕ, Bool, false, ◌==◌, List, Option, None, Some}
use Rattle.std.specs.List.{list_any}
use Rattle.bg_peers.specs.declared.users.Users.{Users}

-- the numbers of the users, in the order in which they were named
abbrev pub numbers : Users → List ℕ
numbers u = u.numbers.items

-- the user is one of them
abbrev pub has_user : ℕ → Users → Bool
has_user user u = list_any (λ number. number == user) (numbers u)

-- the user that the system tells is one of them
abbrev pub has_peer_user : Option ℕ → Users → Bool
has_peer_user None u = false
has_peer_user (Some user) u = has_user user u
