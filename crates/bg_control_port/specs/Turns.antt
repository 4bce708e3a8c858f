-- Which connection is next, and which one goes if there is no room.
use Rattle.std.specs.Prelude.{ℕ, ◌+◌, ◌-◌, Bool, ◌&&◌, ◌||◌, not, if◌then◌else◌, nat_le, nat_lt, Option, Some, None}
use Rattle.bg_control_port.specs.declared.turn.Precedence.{Precedence}
use Rattle.bg_control_port.specs.declared.turn.Precedence.TheVariants as order
use Rattle.bg_control_port.specs.declared.turn.Place.{Place}

-- Whether a line is answered before another one: an urgent line before one that is not urgent, and of two
-- equally urgent lines the one that came first. Each line is given by whether it is urgent, and its number in
-- the order in which the lines came.
abbrev pub goes_before : Bool → ℕ → Bool → ℕ → Bool
goes_before is_urgent number is_other_urgent other =
    (is_urgent && not is_other_urgent) || ((is_urgent || not is_other_urgent) && nat_lt number other)

-- the same of two places
abbrev pub precedes : Place → Place → Bool
precedes one other = goes_before one.is_ahead one.number other.is_ahead other.number

-- How many lines in a row were answered before others since they are urgent, after one more line. The count ends
-- with a line that is not, and begins again after sixteen.
abbrev pub row_after : ℕ → Bool → ℕ
row_after row is_urgent = if is_urgent && nat_lt row 16 then row + 1 else 0

-- the order in which the next line is looked for
abbrev pub precedence_after : ℕ → Precedence
precedence_after row = if nat_lt row 16 then order.Lines else order.Arrival

-- Whether a moment lies at least so many milliseconds after another one.
abbrev pub has_passed : ℕ → ℕ → ℕ → Bool
has_passed millis since now = nat_le millis (now - since)

-- of the first key so far, with its place, and another key, the one whose place goes first
abbrev pub first_so_far : Option (ℕ × Place) → ℕ → Option Place → Option (ℕ × Place)
first_so_far first key None = first
first_so_far None key (Some place) = Some (key, place)
first_so_far (Some first) key (Some place) = if precedes place first.1 then Some (key, place) else Some first

-- a connection with this silence has no whole line, and has been silent for two seconds
abbrev pub is_long : Place → ℕ → Bool
is_long silence now = silence.is_ahead && has_passed 2000 silence.number now
