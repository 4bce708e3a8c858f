-- What the reads of a list confirm.
use Rattle.std.proofs.Common.{◌≡◌, ℕ, Bool, true, false, cond, ◌&&◌, ◌==◌, List, [], ◌∷◌, length, replicate, Option, None, Some, IfSome, All, refl, ap, ◌∙◌}
use Rattle.std.proofs.lemmas.Bool.{or_parts}
use Rattle.std.proofs.lemmas.List.Elements.{All-nil, All-cons}
use Rattle.std.specs.List.{list_any}
use Rattle.bg_peers.specs.Confirmed.{confirmed_user, confirmed_users, has_user_of}
use Rattle.bg_peers.specs.Users.{has_user}
use Rattle.bg_peers.specs.declared.socket_row.PeerSocket.{PeerSocket}
use Rattle.bg_peers.specs.declared.socket_row.PeerSocket.TheVariants.{Held, Closed, Unknown}
use Rattle.bg_peers.specs.declared.users.Users.{Users}

-- a socket of none of the users confirms no user
unlisted : (u : Users) (s : PeerSocket) → has_user_of u s ≡ false → confirmed_user u s s ≡ None
unlisted u (Held n) h = ap (λ b. cond (b && n == n) (Some n) None) h
unlisted u Closed h = refl
unlisted u Unknown h = refl

-- neither do such sockets
pub none_confirmed : (u : Users) (xs : List PeerSocket) → list_any (has_user_of u) xs ≡ false → confirmed_users u xs xs ≡ replicate (length xs) None
none_confirmed u [] h = refl
none_confirmed u (s ∷ xs) h =
    let parts = or_parts (has_user_of u s) (list_any (has_user_of u) xs) h in
    ap (λ first. first ∷ confirmed_users u xs xs) (unlisted u s parts.0) ∙ ap (λ rest. None ∷ rest) (none_confirmed u xs parts.1)

-- the user that is confirmed is one of the users
abbrev pub IsListed : Users → Option ℕ → Type 0
IsListed u user = IfSome user (λ number. has_user number u ≡ true)

listed_if : (u : Users) (n : ℕ) (b same : Bool) → has_user n u ≡ b → IsListed u (cond (b && same) (Some n) None)
listed_if u n true true h = h
listed_if u n true false h = tt
listed_if u n false same h = tt

listed_user : (u : Users) (first second : PeerSocket) → IsListed u (confirmed_user u first second)
listed_user u (Held n) (Held again) = listed_if u n (has_user n u) (n == again) refl
listed_user u (Held n) Closed = tt
listed_user u (Held n) Unknown = tt
listed_user u Closed second = tt
listed_user u Unknown second = tt

-- and so are all
pub all_listed : (u : Users) (first second : List PeerSocket) → All (IsListed u) (confirmed_users u first second)
all_listed u [] second = All-nil (IsListed u)
all_listed u (one ∷ first) [] = All-nil (IsListed u)
all_listed u (one ∷ first) (two ∷ second) =
    All-cons (IsListed u) (confirmed_user u one two) (confirmed_users u first second) (listed_user u one two) (all_listed u first second)
