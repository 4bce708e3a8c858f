-- What the tokens own. A name is that of a ghost cell, of which a record's token has one half and a seat's token the
-- other. Both halves say what the cell contains, and it changes only when both are there.
use Rattle.std.specs.Prelude.{ℕ, List, [], ◌∷◌}
use base.Stored.{Coded, coded_ℕ, coded×}
use base.Fml.{Fml, ftrue, fsep, fobs, fauth}
use Rattle.bg_ledger.specs.declared.holding.Holding.{Holding}

-- the calls, the number, the revision and the port
abbrev pub Amounts : Type 0
Amounts = ℕ × (ℕ × (ℕ × ℕ))

abbrev pub zero : Amounts
zero = (0, (0, (0, 0)))

-- the quantities of a side without its index
abbrev pub amounts_of : Holding → Amounts
amounts_of h = (h.calls, (h.number, (h.revision, h.port)))

abbrev pub coded_amounts : Coded Amounts
coded_amounts = coded× coded_ℕ (coded× coded_ℕ (coded× coded_ℕ coded_ℕ))

abbrev pub record_owns : ℕ → Amounts → Fml
record_owns name amounts = fauth name (coded_amounts.code amounts)

abbrev pub seat_owns : ℕ → Amounts → Fml
seat_owns name amounts = fobs name (coded_amounts.code amounts)

-- both tokens of a new pair
abbrev pub both_own : ℕ → Fml
both_own name = fsep (seat_owns name zero) (record_owns name zero)

-- the tokens of all these names
abbrev pub all_own : List ℕ → Fml
all_own [] = ftrue
all_own (name ∷ names) = fsep (both_own name) (all_own names)
