-- The connections of a port, each at its key.
use Rattle.std.specs.Prelude.{◌≡◌, ℕ, ◌+◌, ◌<◌, Bool, List, [], length, min, slice_index_or, slice_set, Option, Some, None}
use Rattle.bg_control_port.specs.Bounds.{IsBounded}
use Rattle.bg_control_port.specs.Lines.{Whole}
use Rattle.bg_control_port.specs.Steps.{IsReadBy, came, ended, replied, wrote}
use Rattle.bg_control_port.specs.declared.connection.Connection.{Connection}
use Rattle.bg_control_port.specs.declared.connection.Moment.{Moment}
use Rattle.bg_control_port.specs.declared.connection.Stage.TheVariants as stage
use Rattle.bg_control_port.specs.declared.peer.Peer.{Peer}
use Rattle.bg_control_port.specs.declared.reply.AfterReply.{AfterReply}

-- the place of each key, the number of the next whole line, and how many lines in a row were given before others since
-- they are urgent
pub record Register (L : Type 0) : Type 0 where
  pub places : List (Option (Connection L))
  pub next_number : ℕ
  pub urgent_in_a_row : ℕ

abbrev pub number_after : ℕ → ℕ
number_after number = min (number + 1) 18446744073709551615

module _ {L : Type 0} where
  -- the connection that has a key
  abbrev pub at : List (Option (Connection L)) → ℕ → Option (Connection L)
  at places key = slice_index_or places key None

  -- a step changes the connection of a key, or ends it; the next line gets the next number
  abbrev pub changed_from : Option (Connection L) → (Moment → Connection L → Option (Connection L)) → ℕ → Register L → ℕ → Register L
  changed_from None step now old key = old
  changed_from (Some c) step now old key = record old {
    places = slice_set old.places key (step (record { now = now; number = old.next_number }) c);
    next_number = number_after old.next_number;
  }

  abbrev pub changed : (Moment → Connection L → Option (Connection L)) → ℕ → Register L → ℕ → Register L
  changed step now old key = changed_from (at old.places key) step now old key

  -- the steps
  abbrev pub came_by : List ℕ → Moment → Connection L → Option (Connection L)
  came_by bytes at c = Some (came bytes at c)

  abbrev pub ended_by : Moment → Connection L → Option (Connection L)
  ended_by at c = ended at.number c

  abbrev pub replied_by : List ℕ → AfterReply → ℕ → Moment → Connection L → Option (Connection L)
  replied_by bytes after count at c = replied bytes after count at c

  abbrev pub wrote_by : ℕ → Moment → Connection L → Option (Connection L)
  wrote_by count at c = wrote count at c

  abbrev pub leaves : Moment → Connection L → Option (Connection L)
  leaves at c = None

  -- the connection is this one then
  abbrev pub becomes : Connection L → Moment → Connection L → Option (Connection L)
  becomes c at old = Some c

  -- the line of the connection of a key was read, if there is one that came
  abbrev pub ReadsIn : (Whole → L → Type 0) → (L → Bool) → ℕ → Option (Connection L) → Register L → Register L → ℕ → Type 0
  ReadsIn reads puts_first now None old new key = new ≡ old
  ReadsIn reads puts_first now (Some c) old new key =
      (d : Connection L) × IsReadBy reads puts_first c d × (new ≡ changed (becomes d) now old key)

  -- the connection of a key has left
  abbrev pub without : Register L → ℕ → Register L
  without old key = record old { places = slice_set old.places key None }

  -- a connection that was accepted now has a key that was free
  pub record Enters (old new : Register L) (key : ℕ) (peer : Peer) (now : ℕ) : Type 0 where
    pub within : key < length old.places
    pub vacant : at old.places key ≡ None
    pub now_is : new ≡ record old {
      places = slice_set old.places key (Some (record { stage = stage.Awaits; input = []; peer = peer; moved = now }));
    }

  -- the connection of a key is out of its place, for a step
  pub record Takes (old new : Register L) (key now : ℕ) (c : Connection L) (moment : Moment) : Type 0 where
    pub within : key < length old.places
    pub was : at old.places key ≡ Some c
    pub bounded : IsBounded (Some c)
    pub moment_is : moment ≡ record { now = now; number = old.next_number }
    pub now_is : new ≡ record old {
      places = slice_set old.places key None;
      next_number = number_after old.next_number;
    }
