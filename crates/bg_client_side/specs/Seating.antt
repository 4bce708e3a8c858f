-- The seats of requests, and the clients that wait for one.
use Rattle.std.specs.Prelude.{◌≡◌, ℕ, zero, suc, Bool, ◌==◌, if◌then◌else◌, List, [], ◌∷◌, ◌++◌}
use Rattle.std.specs.List.{list_any}
use Rattle.bg_client_side.specs.declared.seats.Entered.{Entered}

-- the keys that wait, the one that has waited longest first; the free seats and the taken ones, in the order in which they
-- became so; and how many keys may wait
pub record Seating : Type 0 where
  pub waiting : List ℕ
  pub free : List ℕ
  pub taken : List ℕ
  pub most : ℕ

-- the first numbers
abbrev pub first_seats : ℕ → List ℕ
first_seats zero = []
first_seats (suc count) = first_seats count ++ count ∷ []

abbrev pub is_number : ℕ → ℕ → Bool
is_number number one = one == number

-- the number is in the list
abbrev pub has : ℕ → List ℕ → Bool
has number numbers = list_any (is_number number) numbers

-- the list without the first place of the number
abbrev pub without : ℕ → List ℕ → List ℕ
without number [] = []
without number (one ∷ more) = if is_number number one then more else one ∷ without number more

-- the key that has waited longest entered, and took the seat that was free for the longest time
pub record IsEntered (old : Seating) (entered : Entered) (new : Seating) : Type 0 where
  pub waited : old.waiting ≡ entered.key ∷ new.waiting
  pub was_free : old.free ≡ entered.seat ∷ new.free
  pub is_taken : new.taken ≡ old.taken ++ entered.seat ∷ []
  pub most_is : new.most ≡ old.most
