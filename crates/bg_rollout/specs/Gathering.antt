-- The faults of gathering the seats of a book.
use Rattle.std.specs.Prelude.{ℕ, ◌+◌, ◌==◌, ◌&&◌, nat_lt, Bool, if◌then◌else◌, List, [], ◌∷◌, map, Option, Some, None}
use Rattle.bg_ledger.specs.declared.holding.Holding.{Holding}
use Rattle.bg_rollout.specs.declared.fault.GatherFault.{GatherFault}
use Rattle.bg_rollout.specs.declared.fault.GatherFault.TheVariants.{WrongSeats, StillIn}

-- the indices of seats
abbrev pub indices : List Holding → List ℕ
indices seats = map (λ seat. seat.index) seats

-- the list is the numbers from this one to below the end, in order
abbrev pub are_from : ℕ → ℕ → List ℕ → Bool
are_from i end [] = i == end
are_from i end (n ∷ rest) = (n == i) && are_from (i + 1) end rest

-- the seats are exactly those of a book with `count` seats, in order of index
abbrev pub are_all : ℕ → List Holding → Bool
are_all count seats = are_from 0 count (indices seats)

-- the fault of the first seat that holds a request
abbrev pub still_in : List Holding → Option GatherFault
still_in [] = None
still_in (seat ∷ rest) =
    if nat_lt 0 seat.number then Some (StillIn seat.index) else still_in rest

-- the fault if a book with `count` seats can't gather these seats
abbrev pub gather_fault : ℕ → List Holding → Option GatherFault
gather_fault count seats = if are_all count seats then still_in seats else Some WrongSeats
