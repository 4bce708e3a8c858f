-- The lines of a connection that will still be read, and the laws of its steps.
use Rattle.std.specs.Prelude.{◌≡◌, ℕ, Bool, List, [], ◌∷◌, ◌++◌, Option, Some, None}
use Rattle.bg_control_port.specs.Bounds.{IsBounded}
use Rattle.bg_control_port.specs.Lines.{Whole, TooLong, after_break, given}
use Rattle.bg_control_port.specs.Stages.{interest_of}
use Rattle.bg_control_port.specs.Steps.{asked, came, ended, given_line, left_by, line_in, read_as, replied, whole_line, wrote}
use Rattle.bg_control_port.specs.declared.connection.Connection.{Connection}
use Rattle.bg_control_port.specs.declared.connection.Interest.TheVariants as interest
use Rattle.bg_control_port.specs.declared.connection.Moment.{Moment}
use Rattle.bg_control_port.specs.declared.connection.Stage.{Stage}
use Rattle.bg_control_port.specs.declared.connection.Stage.TheVariants as stage
use Rattle.bg_control_port.specs.declared.reply.AfterReply.{AfterReply}

-- what happens to a connection before its input ends
pub data Event (L : Type 0) : Type 0 where
  -- these bytes came
  bytes_came : List ℕ → Moment → Event L
  -- the line that came was read so, and is urgent or not
  was_read : Whole → L → Bool → Event L
  -- this line was given
  was_given : L → Event L
  -- the line was answered by these bytes, of which so many were taken at once
  was_answered : List ℕ → AfterReply → ℕ → Moment → Event L
  -- so many bytes of the rest of a reply were taken
  was_taken : ℕ → Moment → Event L

module _ {L : Type 0} where
  -- what is still read from a stage on, if these bytes come, and then the input ends
  abbrev pub ahead_at : Stage L → List ℕ → List ℕ → List Whole
  ahead_at stage.Awaits input more = given (input ++ more)
  ahead_at stage.Skips input more = TooLong ∷ given (after_break (input ++ more))
  ahead_at (stage.Came found number) input more = line_in found input ∷ given (left_by found input ++ more)
  ahead_at (stage.Waits line place) input more = given (input ++ more)
  ahead_at stage.Asked input more = given (input ++ more)
  ahead_at (stage.Replies reply after) input more = given (input ++ more)

  abbrev pub ahead : Connection L → List ℕ → List Whole
  ahead c more = ahead_at c.stage c.input more

  -- the line that was read and waits, if there is one
  abbrev pub listed : Option L → List L
  listed None = []
  listed (Some line) = line ∷ []

  abbrev pub waiting : Connection L → List L
  waiting c = listed (given_line c)

  -- what an event makes of a connection that stays. Bytes come only if a line is awaited or skipped
  abbrev pub Steps : Event L → Connection L → Connection L → Type 0
  Steps (bytes_came bytes at) old new = (interest_of old.stage ≡ Some interest.Input) × (new ≡ came bytes at old)
  Steps (was_read whole line is_urgent) old new = (whole_line old ≡ Some whole) × (new ≡ read_as line is_urgent old)
  Steps (was_given line) old new = (given_line old ≡ Some line) × (new ≡ asked old)
  Steps (was_answered bytes after count at) old new = replied bytes after count at old ≡ Some new
  Steps (was_taken count at) old new = wrote count at old ≡ Some new

  -- the events lead from one connection to the other
  abbrev pub Runs : List (Event L) → Connection L → Connection L → Type 0
  Runs [] old new = new ≡ old
  Runs (event ∷ events) old new = (mid : Connection L) × Steps event old mid × Runs events mid new

  -- the bytes that an event brings
  abbrev pub bytes_in : Event L → List ℕ
  bytes_in (bytes_came bytes at) = bytes
  bytes_in (was_read whole line is_urgent) = []
  bytes_in (was_given line) = []
  bytes_in (was_answered bytes after count at) = []
  bytes_in (was_taken count at) = []

  abbrev pub bytes_of_all : List (Event L) → List ℕ
  bytes_of_all [] = []
  bytes_of_all (event ∷ events) = bytes_in event ++ bytes_of_all events

  -- the line that is read by an event
  abbrev pub lines_in : Event L → List Whole
  lines_in (bytes_came bytes at) = []
  lines_in (was_read whole line is_urgent) = whole ∷ []
  lines_in (was_given line) = []
  lines_in (was_answered bytes after count at) = []
  lines_in (was_taken count at) = []

  abbrev pub lines_of_all : List (Event L) → List Whole
  lines_of_all [] = []
  lines_of_all (event ∷ events) = lines_in event ++ lines_of_all events

  -- as what it is read
  abbrev pub read_in : Event L → List L
  read_in (bytes_came bytes at) = []
  read_in (was_read whole line is_urgent) = line ∷ []
  read_in (was_given line) = []
  read_in (was_answered bytes after count at) = []
  read_in (was_taken count at) = []

  abbrev pub read_of_all : List (Event L) → List L
  read_of_all [] = []
  read_of_all (event ∷ events) = read_in event ++ read_of_all events

  -- the line that is given by an event
  abbrev pub given_in : Event L → List L
  given_in (bytes_came bytes at) = []
  given_in (was_read whole line is_urgent) = []
  given_in (was_given line) = line ∷ []
  given_in (was_answered bytes after count at) = []
  given_in (was_taken count at) = []

  abbrev pub given_of_all : List (Event L) → List L
  given_of_all [] = []
  given_of_all (event ∷ events) = given_in event ++ given_of_all events

  -- THE LAWS

  -- The lines that were read, and those that are still read, are the lines of all bytes, in whatever pieces these came.
  abbrev pub LinesAreRead : List (Event L) → Connection L → Connection L → List ℕ → Type 0
  LinesAreRead events old new more =
      Runs events old new → lines_of_all events ++ ahead new more ≡ ahead old (bytes_of_all events ++ more)

  -- The lines that were given, and the one that waits, are those that were read, each as it was read, in this order, behind
  -- the one that waited at first.
  abbrev pub LinesAreGiven : List (Event L) → Connection L → Connection L → Type 0
  LinesAreGiven events old new =
      Runs events old new → given_of_all events ++ waiting new ≡ waiting old ++ read_of_all events

  -- when the input ends, what is still read is the same; and a connection leaves only if nothing is
  abbrev pub IsSameAtEnd : List Whole → Option (Connection L) → Type 0
  IsSameAtEnd still None = still ≡ []
  IsSameAtEnd still (Some new) = ahead new [] ≡ still

  abbrev pub EndKeepsLines : ℕ → Connection L → Type 0
  EndKeepsLines number old = IsBounded (Some old) → IsSameAtEnd (ahead old []) (ended number old)
