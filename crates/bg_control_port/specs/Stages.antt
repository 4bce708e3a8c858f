-- The stages of a connection.
use Rattle.std.specs.Prelude.{ℕ, true, false, if◌then◌else◌, List, Option, Some, None}
use Rattle.bg_control_port.specs.declared.connection.Connection.{Connection}
use Rattle.bg_control_port.specs.declared.connection.Interest.{Interest}
use Rattle.bg_control_port.specs.declared.connection.Interest.TheVariants as interest
use Rattle.bg_control_port.specs.declared.connection.Stage.{Stage}
use Rattle.bg_control_port.specs.declared.connection.Stage.TheVariants as stage
use Rattle.bg_control_port.specs.declared.reply.AfterReply.{AfterReply}
use Rattle.bg_control_port.specs.declared.turn.Precedence.{Precedence}
use Rattle.bg_control_port.specs.declared.turn.Precedence.TheVariants as order
use Rattle.bg_control_port.specs.declared.turn.Place.{Place}

-- a place that is not ahead
abbrev pub in_line : Option Place → Option Place
in_line None = None
in_line (Some place) = Some (record place { is_ahead = false })

module _ {L : Type 0} where
  -- what a stage waits for
  abbrev pub interest_of : Stage L → Option Interest
  interest_of stage.Awaits = Some interest.Input
  interest_of stage.Skips = Some interest.Input
  interest_of (stage.Came found number) = None
  interest_of (stage.Waits line place) = None
  interest_of stage.Asked = None
  interest_of (stage.Replies reply after) = Some interest.Output

  -- the rest of a reply, and what comes after it
  abbrev pub rest_at : Stage L → Option (List ℕ × AfterReply)
  rest_at stage.Awaits = None
  rest_at stage.Skips = None
  rest_at (stage.Came found number) = None
  rest_at (stage.Waits line place) = None
  rest_at stage.Asked = None
  rest_at (stage.Replies reply after) = Some (reply, after)

  -- the place of the line that waits
  abbrev pub turn_of : Stage L → Option Place
  turn_of stage.Awaits = None
  turn_of stage.Skips = None
  turn_of (stage.Came found number) = None
  turn_of (stage.Waits line place) = Some place
  turn_of stage.Asked = None
  turn_of (stage.Replies reply after) = None

  -- the place of a connection among those that are closed to make room, by the moment since which it is silent: without a
  -- whole line it is ahead; with an urgent line, and while it is being answered, it has none
  abbrev pub silence_at : Stage L → ℕ → Option Place
  silence_at stage.Awaits moved = Some (record { is_ahead = true; number = moved })
  silence_at stage.Skips moved = Some (record { is_ahead = true; number = moved })
  silence_at (stage.Came found number) moved = Some (record { is_ahead = false; number = moved })
  silence_at (stage.Waits line place) moved =
      if place.is_ahead then None else Some (record { is_ahead = false; number = moved })
  silence_at stage.Asked moved = None
  silence_at (stage.Replies reply after) moved = Some (record { is_ahead = true; number = moved })

  -- the place of a connection in an order
  abbrev pub place_of : Precedence → Connection L → Option Place
  place_of order.Lines c = turn_of c.stage
  place_of order.Arrival c = in_line (turn_of c.stage)
  place_of order.Silence c = silence_at c.stage c.moved
