-- The opening of a past, and its oldest entries.
use Rattle.std.specs.Prelude.{ℕ, List, reverse, take}
use Rattle.bg_history.specs.declared.entry.Entry.{Entry}
use Rattle.bg_history.specs.Kept.{Opening}

-- an opening with this many seats, this name and these ports
abbrev pub opening_of : ℕ → List ℕ → List ℕ → Opening
opening_of seats name ports = record {
  seats = seats;
  template = record { name = name; ports = ports };
}

-- the oldest n entries of a past
abbrev pub oldest : ℕ → List Entry → List Entry
oldest n past = reverse (take n (reverse past))
