-- The connections to endpoints that are kept, as a list in the order in which they were put there.
use Rattle.std.specs.Prelude.{◌≡◌, ◌≢◌, ◌<◌, ◌≤◌, ◌-◌, ◌==◌, if◌then◌else◌, ℕ, suc, Bool, true, false, List, [], ◌∷◌, ◌++◌, IfSome, drop, find, length, max, nat_le, remove, slice_get, Option, Some, None, ⊤}
use Rattle.std.specs.List.{AllByRecursion, list_any}
use Rattle.bg_endpoint_side.specs.declared.kept_connections.KeptConnection.{KeptConnection}

-- the connections, the oldest one first, and how many there may be
pub record Kept : Type 0 where
  pub connections : List KeptConnection
  pub most : ℕ

-- another connection, which was put no earlier
pub record IsLater (before after : KeptConnection) : Type 0 where
  pub other : before.key ≢ after.key
  pub order : before.since ≤ after.since

-- each connection is there once, and the oldest ones come first
abbrev pub AreInOrder : List KeptConnection → Type 0
AreInOrder [] = ⊤
AreInOrder (first ∷ more) = AllByRecursion (IsLater first) more × AreInOrder more

-- the connection has this key
abbrev pub has_key : ℕ → KeptConnection → Bool
has_key key connection = connection.key == key

-- the connection is one to this port
abbrev pub has_port : ℕ → KeptConnection → Bool
has_port port connection = connection.port == port

-- the connection is one to one of these ports
abbrev pub is_among : List ℕ → KeptConnection → Bool
is_among ports connection = list_any (λ port. port == connection.port) ports

-- no request was on the connection for this long
abbrev pub is_idle_for : ℕ → ℕ → KeptConnection → Bool
is_idle_for timeout now connection = nat_le timeout (now - connection.since)

-- the list without the first connection that passes the test
abbrev pub without_first : (KeptConnection → Bool) → List KeptConnection → List KeptConnection
without_first test [] = []
without_first test (first ∷ more) = if test first then more else first ∷ without_first test more

-- the moment from which the last connection is idle
abbrev pub last_since : List KeptConnection → ℕ
last_since [] = 0
last_since (first ∷ []) = first.since
last_since (first ∷ next ∷ more) = last_since (next ∷ more)

-- the connection that was put last among those that pass the test, and what is left without it
pub record IsNewest (test : KeptConnection → Bool) (old : List KeptConnection) (newest : KeptConnection)
    (left : List KeptConnection) : Type 0 where
  pub before : List KeptConnection
  pub after : List KeptConnection
  pub old_is : old ≡ before ++ newest ∷ after
  pub left_is : left ≡ before ++ after
  pub passes : test newest ≡ true
  pub none_later : AllByRecursion (λ later. test later ≡ false) after

-- the connection that was put last among those that pass the test is taken out; if none passes, nothing changes
abbrev pub TakesNewest : (KeptConnection → Bool) → List KeptConnection → Option KeptConnection → List KeptConnection → Type 0
TakesNewest test old None new = (new ≡ old) × AllByRecursion (λ one. test one ≡ false) old
TakesNewest test old (Some newest) new = IsNewest test old newest new

-- the connection that is put: it is the newest one, also if the clock has gone back
abbrev pub put_last : ℕ → ℕ → ℕ → List KeptConnection → KeptConnection
put_last key port now others = record { key = key; port = port; since = max now (last_since others) }

-- the place of the first connection that passes the test
abbrev pub IsPlace : (KeptConnection → Bool) → List KeptConnection → Option ℕ → Type 0
IsPlace test connections None = (find test connections ≡ None) × (without_first test connections ≡ connections)
IsPlace test connections (Some place) =
    (place < length connections) × (find test connections ≡ slice_get connections place)
    × (without_first test connections ≡ remove connections place)

-- the place of the last connection that passes the test; none passes it behind that place, or at all
abbrev pub IsLastPlace : (KeptConnection → Bool) → List KeptConnection → Option ℕ → Type 0
IsLastPlace test connections None = AllByRecursion (λ one. test one ≡ false) connections
IsLastPlace test connections (Some place) =
    (place < length connections)
    × IfSome (slice_get connections place) (λ one. test one ≡ true)
    × AllByRecursion (λ one. test one ≡ false) (drop (suc place) connections)

-- a connection, if there is one, and those after it
abbrev pub in_front : Option KeptConnection → List KeptConnection → List KeptConnection
in_front None connections = connections
in_front (Some first) connections = first ∷ connections

-- a connection was put, and this one was given back: there was no room for it, or it was the oldest one of a full list
pub record IsPut (key port now : ℕ) (old : Kept) (given : Option KeptConnection) (new : Kept) : Type 0 where
  pub most_is : new.most ≡ old.most
  pub all_are : without_first (has_key key) old.connections
      ++ put_last key port now (without_first (has_key key) old.connections) ∷ []
      ≡ in_front given new.connections
  pub only_if_full : length (without_first (has_key key) old.connections) < old.most → given ≡ None
