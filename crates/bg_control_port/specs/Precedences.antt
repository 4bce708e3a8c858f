-- Whose line is next, and who is closed first if there is no room.
use Rattle.std.specs.Prelude.{◌≡◌, ℕ, ◌<◌, false, EachIndex, List, length, slice_set, Option, Some, None, ⊤}
use Rattle.bg_control_port.specs.Registers.{Register, at}
use Rattle.bg_control_port.specs.Stages.{place_of}
use Rattle.bg_control_port.specs.Steps.{asked, given_line}
use Rattle.bg_control_port.specs.Turns.{precedence_after, precedes, row_after}
use Rattle.bg_control_port.specs.declared.connection.Connection.{Connection}
use Rattle.bg_control_port.specs.declared.connections.turns.Asked.{Asked}
use Rattle.bg_control_port.specs.declared.turn.Precedence.{Precedence}
use Rattle.bg_control_port.specs.declared.turn.Place.{Place}

-- a place does not go before another one
abbrev pub IsNotBefore : Option Place → Place → Type 0
IsNotBefore None first = ⊤
IsNotBefore (Some other) first = precedes other first ≡ false

module _ {L : Type 0} where
  -- the place in an order of the connection at a place
  abbrev pub place_at : Precedence → Option (Connection L) → Option Place
  place_at order None = None
  place_at order (Some c) = place_of order c

  -- a key has this place in an order, and none goes before it
  pub record IsFirst (order : Precedence) (places : List (Option (Connection L))) (key : ℕ) (place : Place) : Type 0 where
    pub within : key < length places
    pub place_is : place_at order (at places key) ≡ Some place
    pub least : (other : ℕ) → other < length places → IsNotBefore (place_at order (at places other)) place

  -- the order of the next line
  abbrev pub next_order : Register L → Precedence
  next_order register = precedence_after register.urgent_in_a_row

  -- the line of this connection is given, and it is the next one
  pub record Gives (old new : Register L) (given : Asked L) : Type 0 where
    pub connection : Connection L
    pub place : Place
    pub was : at old.places given.asker.key ≡ Some connection
    pub first : IsFirst (next_order old) old.places given.asker.key place
    pub line_is : given_line connection ≡ Some given.line
    pub peer_is : given.asker.peer ≡ connection.peer
    pub now : new ≡ record old {
      places = slice_set old.places given.asker.key (Some (asked connection));
      urgent_in_a_row = row_after old.urgent_in_a_row place.is_ahead;
    }

  -- the next line, if one waits
  abbrev pub TakesTurn : Register L → Register L → Option (Asked L) → Type 0
  TakesTurn old new None =
      (new ≡ old) × EachIndex old.places (λ key. place_at (next_order old) (at old.places key) ≡ None)
  TakesTurn old new (Some given) = Gives old new given
