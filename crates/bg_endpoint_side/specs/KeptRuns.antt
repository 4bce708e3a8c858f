-- What calls make of the connections that are kept, and that none is lost.
use Rattle.std.specs.Prelude.{◌≡◌, ◌≢◌, ◌==◌, ◌+◌, ℕ, Bool, true, false, List, [], ◌∷◌, find, Option}
use Rattle.std.specs.List.{AllByRecursion}
use Rattle.bg_endpoint_side.specs.KeptLists.{IsPut, Kept, TakesNewest, has_key, has_port, in_front, without_first}
use Rattle.bg_endpoint_side.specs.declared.kept_connections.KeptConnection.{KeptConnection}

-- a call, and the connection that it gave: `put`, `take`, one of those that take out the first connection that passes a
-- test, and `take_oldest`
pub data KeptCall : Type 0 where
  puts : ℕ → ℕ → ℕ → Option KeptConnection → KeptCall
  takes : ℕ → Option KeptConnection → KeptCall
  takes_first : (KeptConnection → Bool) → Option KeptConnection → KeptCall
  takes_oldest : Option KeptConnection → KeptCall

-- what the call says of the connections before and after it, by its contract; a connection is put that is not there
abbrev pub Calls : Kept → KeptCall → Kept → Type 0
Calls old (puts key port now given) new =
    AllByRecursion (λ one. one.key ≢ key) old.connections × IsPut key port now old given new
Calls old (takes port given) new = TakesNewest (has_port port) old.connections given new.connections
Calls old (takes_first test given) new =
    (given ≡ find test old.connections) × (new.connections ≡ without_first test old.connections)
Calls old (takes_oldest given) new = in_front given new.connections ≡ old.connections

-- these calls, one after the other
abbrev pub Runs : Kept → List KeptCall → Kept → Type 0
Runs old [] new = old ≡ new
Runs old (call ∷ more) new = (between : Kept) × Calls old call between × Runs between more new

abbrev pub one_if : Bool → ℕ
one_if true = 1
one_if false = 0

-- how often a key is in a list
abbrev pub times : ℕ → List KeptConnection → ℕ
times key [] = 0
times key (first ∷ more) = one_if (has_key key first) + times key more

-- how often it was put by a call
abbrev pub put_by : ℕ → KeptCall → ℕ
put_by key (puts other port now given) = one_if (other == key)
put_by key (takes port given) = 0
put_by key (takes_first test given) = 0
put_by key (takes_oldest given) = 0

-- how often a call gave it
abbrev pub given_by : ℕ → KeptCall → ℕ
given_by key (puts other port now given) = times key (in_front given [])
given_by key (takes port given) = times key (in_front given [])
given_by key (takes_first test given) = times key (in_front given [])
given_by key (takes_oldest given) = times key (in_front given [])

-- how often calls put it, and gave it
abbrev pub put_in_all : ℕ → List KeptCall → ℕ
put_in_all key [] = 0
put_in_all key (call ∷ more) = put_by key call + put_in_all key more

abbrev pub given_in_all : ℕ → List KeptCall → ℕ
given_in_all key [] = 0
given_in_all key (call ∷ more) = given_by key call + given_in_all key more

-- what was there and what was put is there, or was given, as often
abbrev pub LosesNone : Kept → List KeptCall → Kept → ℕ → Type 0
LosesNone old calls new key =
    Runs old calls new
    → times key old.connections + put_in_all key calls ≡ times key new.connections + given_in_all key calls
