-- What leads a connection from one stage to the next.
use Rattle.std.specs.Prelude.{◌≡◌, ℕ, Bool, true, false, ◌||◌, ◌==◌, ◌++◌, if◌then◌else◌, List, drop, length, nat_le, take, Option, Some, None}
use Rattle.bg_control_port.specs.Fronts.{front}
use Rattle.bg_control_port.specs.Lines.{Whole, Bytes, TooLong, after_break, has_break}
use Rattle.bg_control_port.specs.declared.connection.Connection.{Connection}
use Rattle.bg_control_port.specs.declared.connection.Moment.{Moment}
use Rattle.bg_control_port.specs.declared.connection.Stage.{Stage}
use Rattle.bg_control_port.specs.declared.connection.Stage.TheVariants as stage
use Rattle.bg_control_port.specs.declared.buffer.Found.{Found}
use Rattle.bg_control_port.specs.declared.buffer.Found.TheVariants as found_is
use Rattle.bg_control_port.specs.declared.reading.WholeLine.{WholeLine}
use Rattle.bg_control_port.specs.declared.reading.WholeLine.TheVariants as whole_line_is
use Rattle.bg_control_port.specs.declared.buffer.Front.{Front}
use Rattle.bg_control_port.specs.declared.buffer.Front.TheVariants as front_is
use Rattle.bg_control_port.specs.declared.reply.AfterReply.{AfterReply}
use Rattle.bg_control_port.specs.declared.reply.AfterReply.TheVariants as after_reply

-- a whole line as it is handed to its reader
abbrev pub whole_of : WholeLine → Whole
whole_of (whole_line_is.Bytes bytes) = Bytes bytes.now
whole_of whole_line_is.TooLong = TooLong

-- the line that was found at the front of the input, and what is left without it
abbrev pub line_in : Found → List ℕ → Whole
line_in (found_is.First count) input = Bytes (take count input)
line_in found_is.Skipped input = TooLong

abbrev pub left_by : Found → List ℕ → List ℕ
left_by (found_is.First count) input = drop count input
left_by found_is.Skipped input = input

module _ {L : Type 0} where
  -- what came of a line that is too long is skipped: up to its line break, or all
  abbrev pub skip : Bool → ℕ → Connection L → Connection L
  skip has_ended number c = record c {
    stage = if has_break c.input || has_ended then stage.Came found_is.Skipped number else stage.Skips;
    input = after_break c.input;
  }

  -- what the front of the input makes of a connection
  abbrev pub seen_from : Front → Bool → ℕ → Connection L → Connection L
  seen_from (front_is.Line count) has_ended number c = record c { stage = stage.Came (found_is.First count) number }
  seen_from front_is.Part has_ended number c = record c { stage = stage.Awaits }
  seen_from front_is.TooLong has_ended number c = skip has_ended number c

  abbrev pub seen : Bool → ℕ → Connection L → Connection L
  seen has_ended number c = seen_from (front has_ended c.input) has_ended number c

  -- bytes came
  abbrev pub came_at : Stage L → List ℕ → Moment → Connection L → Connection L
  came_at stage.Awaits bytes at c = seen false at.number (record c { input = c.input ++ bytes; moved = at.now })
  came_at stage.Skips bytes at c = skip false at.number (record c { input = c.input ++ bytes })
  came_at (stage.Came found number) bytes at c = c
  came_at (stage.Waits line place) bytes at c = c
  came_at stage.Asked bytes at c = c
  came_at (stage.Replies reply after) bytes at c = c

  abbrev pub came : List ℕ → Moment → Connection L → Connection L
  came bytes at c = came_at c.stage bytes at c

  -- the input ended
  abbrev pub ended_at : Stage L → ℕ → Connection L → Option (Connection L)
  ended_at stage.Awaits number c = if length c.input == 0 then None else Some (seen true number c)
  ended_at stage.Skips number c = Some (skip true number c)
  ended_at (stage.Came found at) number c = Some c
  ended_at (stage.Waits line place) number c = Some c
  ended_at stage.Asked number c = Some c
  ended_at (stage.Replies reply after) number c = Some c

  abbrev pub ended : ℕ → Connection L → Option (Connection L)
  ended number c = ended_at c.stage number c

  -- the line that came, and was not read yet
  abbrev pub whole_at : Stage L → List ℕ → Option Whole
  whole_at stage.Awaits input = None
  whole_at stage.Skips input = None
  whole_at (stage.Came found number) input = Some (line_in found input)
  whole_at (stage.Waits line place) input = None
  whole_at stage.Asked input = None
  whole_at (stage.Replies reply after) input = None

  abbrev pub whole_line : Connection L → Option Whole
  whole_line c = whole_at c.stage c.input

  -- the line that came was read so, and is urgent or not
  abbrev pub read_at : Stage L → L → Bool → Connection L → Connection L
  read_at stage.Awaits line is_urgent c = c
  read_at stage.Skips line is_urgent c = c
  read_at (stage.Came found number) line is_urgent c = record c {
    stage = stage.Waits line (record { is_ahead = is_urgent; number = number });
    input = left_by found c.input;
  }
  read_at (stage.Waits other place) line is_urgent c = c
  read_at stage.Asked line is_urgent c = c
  read_at (stage.Replies reply after) line is_urgent c = c

  abbrev pub read_as : L → Bool → Connection L → Connection L
  read_as line is_urgent c = read_at c.stage line is_urgent c

  -- the line that came was read as it may be, if one came
  abbrev pub IsReadFrom : Option Whole → (Whole → L → Type 0) → (L → Bool) → Connection L → Connection L → Type 0
  IsReadFrom None reads puts_first old new = new ≡ old
  IsReadFrom (Some whole) reads puts_first old new =
      (line : L) × reads whole line × (new ≡ read_as line (puts_first line) old)

  abbrev pub IsReadBy : (Whole → L → Type 0) → (L → Bool) → Connection L → Connection L → Type 0
  IsReadBy reads puts_first old new = IsReadFrom (whole_line old) reads puts_first old new

  -- the line that waits
  abbrev pub given_at : Stage L → Option L
  given_at stage.Awaits = None
  given_at stage.Skips = None
  given_at (stage.Came found number) = None
  given_at (stage.Waits line place) = Some line
  given_at stage.Asked = None
  given_at (stage.Replies reply after) = None

  abbrev pub given_line : Connection L → Option L
  given_line c = given_at c.stage

  -- the line that waits was taken
  abbrev pub asked_at : Stage L → Connection L → Connection L
  asked_at stage.Awaits c = c
  asked_at stage.Skips c = c
  asked_at (stage.Came found number) c = c
  asked_at (stage.Waits line place) c = record c { stage = stage.Asked }
  asked_at stage.Asked c = c
  asked_at (stage.Replies reply after) c = c

  abbrev pub asked : Connection L → Connection L
  asked c = asked_at c.stage c

  -- a reply was taken whole
  abbrev pub go_on : AfterReply → Moment → Connection L → Option (Connection L)
  go_on after_reply.Closes at c = None
  go_on after_reply.GoesOn at c = Some (seen false at.number (record c { moved = at.now }))

  -- the rest of a reply is kept, if it is not too long
  abbrev pub keep : List ℕ → AfterReply → Moment → Connection L → Option (Connection L)
  keep rest after at c =
      if nat_le (length rest) 65536 then Some (record c { stage = stage.Replies rest after; moved = at.now }) else None

  -- the line was answered, and so many bytes of the reply were taken at once
  abbrev pub replied_at : Stage L → List ℕ → AfterReply → ℕ → Moment → Connection L → Option (Connection L)
  replied_at stage.Awaits bytes after count at c = Some c
  replied_at stage.Skips bytes after count at c = Some c
  replied_at (stage.Came found number) bytes after count at c = Some c
  replied_at (stage.Waits line place) bytes after count at c = Some c
  replied_at stage.Asked bytes after count at c =
      if nat_le (length bytes) count then go_on after at c else keep (drop count bytes) after at c
  replied_at (stage.Replies reply last) bytes after count at c = Some c

  abbrev pub replied : List ℕ → AfterReply → ℕ → Moment → Connection L → Option (Connection L)
  replied bytes after count at c = replied_at c.stage bytes after count at c

  -- so many bytes of the rest of a reply were taken
  abbrev pub wrote_at : Stage L → ℕ → Moment → Connection L → Option (Connection L)
  wrote_at stage.Awaits count at c = Some c
  wrote_at stage.Skips count at c = Some c
  wrote_at (stage.Came found number) count at c = Some c
  wrote_at (stage.Waits line place) count at c = Some c
  wrote_at stage.Asked count at c = Some c
  wrote_at (stage.Replies reply after) count at c =
      if nat_le (length reply) count then go_on after at c
      else Some (record c {
        stage = stage.Replies (drop count reply) after;
        moved = if count == 0 then c.moved else at.now;
      })

  abbrev pub wrote : ℕ → Moment → Connection L → Option (Connection L)
  wrote count at c = wrote_at c.stage count at c
