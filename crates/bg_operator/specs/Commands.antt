-- The command of a line of a script.
use Rattle.std.specs.Prelude.{◌≡◌, ℕ, Bool, ◌&&◌, List, [], ◌∷◌, map, find, length, if◌then◌else◌, nat_le, nat_lt, codes, bytes_eq, Option, Some, None, option_map, Result, Ok, Err, ⊤, ◌⊎◌}
use Rattle.std.specs.Option.{ok_or, option_and_then, option_map_or}
use Rattle.std.specs.List.{list_all}
use Rattle.std.specs.Str.Parse.{digits_value}
use Rattle.bg_history.specs.declared.control.Control.TheVariants.{Tick, Deploy, Available, Verdict, Promote, PromoteFull, Abort, Retry}
use Rattle.bg_operator.specs.declared.command.Command.{Command}
use Rattle.bg_operator.specs.declared.command.Command.TheVariants.{Open, Control, Before, Enter, Leave, Down, Ask, Compact, Quit}
use Rattle.bg_operator.specs.declared.line_fault.LineFault.{LineFault}
use Rattle.bg_operator.specs.declared.line_fault.LineFault.TheVariants.{TooLong, NotAscii, Empty, UnknownWord, WrongCount, BadWord, OutOfMemory}
use Rattle.bg_operator.specs.Words.{analyses, meaning_in, queries, results, services, Vocabulary, words_in, words_of}
use Rattle.bg_operator.specs.declared.query.Query.{Query}
use Rattle.bg_operator.specs.Shapes.{Shape, AnyWord, Number, OneOf, Exactly, AtMost, AndMore, AnyNumber, shape_fault, word_fault}

-- A row of the table of lines: the first word, the words that may follow, and their command. Words
-- that have a fault give no command.
pub record Row : Type 0 where
  pub first : List ℕ
  pub shape : Shape
  pub command : List (List ℕ) → Option Command

-- the command of a revision's name and its ports
abbrev pub with_template : (List ℕ → List ℕ → Command) → List (List ℕ) → Option Command
with_template command (name ∷ ports) = Some (command name (map (digits_value 10) ports))
with_template command [] = None

-- a revision's name, and one or more ports
abbrev pub template_shape : Shape
template_shape = AndMore (AnyWord ∷ []) (Number 16)

-- `open NAME PORT..`
abbrev pub open_row : Row
open_row = record {
  first = codes "open";
  shape = template_shape;
  command = with_template Open;
}

-- `deploy NAME PORT..`
abbrev pub deploy_row : Row
deploy_row = record {
  first = codes "deploy";
  shape = template_shape;
  command = with_template (λ name ports. Control (Deploy name ports));
}

abbrev pub tick_command : List (List ℕ) → Option Command
tick_command (moment ∷ []) = Some (Control (Tick (digits_value 10 moment)))
tick_command _ = None

-- `tick MOMENT`
abbrev pub tick_row : Row
tick_row = record {
  first = codes "tick";
  shape = Exactly (Number 64 ∷ []);
  command = tick_command;
}

abbrev pub available_command : List (List ℕ) → Option Command
available_command (revision ∷ size ∷ []) =
    Some (Control (Available (digits_value 10 revision) (digits_value 10 size)))
available_command _ = None

-- `available REVISION SIZE`
abbrev pub available_row : Row
available_row = record {
  first = codes "available";
  shape = Exactly (Number 64 ∷ Number 32 ∷ []);
  command = available_command;
}

abbrev pub verdict_command : List (List ℕ) → Option Command
verdict_command (analysis ∷ result ∷ []) =
    option_and_then (λ a. option_map (λ r. Control (Verdict a r)) (meaning_in results result))
    (meaning_in analyses analysis)
verdict_command _ = None

-- `verdict pre` or `verdict post`, and then `successful`, `failed` or `error`
abbrev pub verdict_row : Row
verdict_row = record {
  first = codes "verdict";
  shape = Exactly (OneOf (words_in analyses) ∷ OneOf (words_in results) ∷ []);
  command = verdict_command;
}

abbrev pub promote_command : List (List ℕ) → Option Command
promote_command [] = Some (Control Promote)
promote_command (full ∷ []) = Some (Control PromoteFull)
promote_command _ = None

-- `promote` or `promote full`
abbrev pub promote_row : Row
promote_row = record {
  first = codes "promote";
  shape = AtMost (OneOf (codes "full" ∷ []) ∷ []);
  command = promote_command;
}

abbrev pub enter_command : List (List ℕ) → Option Command
enter_command (seat ∷ service ∷ []) =
    option_map (Enter (digits_value 10 seat)) (meaning_in services service)
enter_command _ = None

-- `enter SEAT active` or `enter SEAT preview`
abbrev pub enter_row : Row
enter_row = record {
  first = codes "enter";
  shape = Exactly (Number 32 ∷ OneOf (words_in services) ∷ []);
  command = enter_command;
}

abbrev pub leave_command : List (List ℕ) → Option Command
leave_command (seat ∷ []) = Some (Leave (digits_value 10 seat))
leave_command _ = None

-- `leave SEAT`
abbrev pub leave_row : Row
leave_row = record {
  first = codes "leave";
  shape = Exactly (Number 32 ∷ []);
  command = leave_command;
}

abbrev pub down_command : List (List ℕ) → Option Command
down_command ports = Some (Down (map (digits_value 10) ports))

-- `down PORT..`, or `down`
abbrev pub down_row : Row
down_row = record {
  first = codes "down";
  shape = AnyNumber (Number 16);
  command = down_command;
}

-- a line of one word
abbrev pub single_word : List ℕ → Command → Row
single_word first command = record {
  first = first;
  shape = Exactly [];
  command = λ words. Some command;
}

-- the lines that ask a book for something
abbrev pub query_rows : Vocabulary Query → List Row
query_rows table = map (λ named. single_word named.0 (Ask named.1)) table

-- the table of lines
abbrev pub rows : List Row
rows =
    open_row ∷ deploy_row ∷ tick_row ∷ available_row ∷ verdict_row ∷ promote_row
    ∷ single_word (codes "abort") (Control Abort)
    ∷ single_word (codes "retry") (Control Retry)
    ∷ enter_row ∷ leave_row ∷ down_row
    ∷ single_word (codes "compact") Compact
    ∷ single_word (codes "quit") Quit
    ∷ query_rows queries

-- The result of reading the words after the first by a row: their fault, or else the command. Words
-- without a fault always have a command.
abbrev pub row_reading : Row → List (List ℕ) → Result Command LineFault
row_reading row words =
    option_map_or Err (shape_fault row.shape words) (ok_or (row.command words) WrongCount)

-- the result of reading words by the rows of a table
abbrev pub reading_in : List Row → List ℕ → List (List ℕ) → Result Command LineFault
reading_in table first words =
    option_map_or (λ row. row_reading row words) (find (λ row. bytes_eq first row.first) table)
    (Err UnknownWord)

-- the result of reading words by the table of lines
abbrev pub table_reading : List ℕ → List (List ℕ) → Result Command LineFault
table_reading first words = reading_in rows first words

-- whether a line with this first word has a time limit
abbrev pub is_before : List ℕ → Bool
is_before first = bytes_eq first (codes "before")

-- the result of reading the words of a line that follow a time limit, and are none with a second time limit
abbrev pub event_reading : List ℕ → List (List ℕ) → Result Command LineFault
event_reading first words = if is_before first then Err BadWord else table_reading first words

-- a line with this result, after a time limit: only a line that gives an event may follow it
abbrev pub with_time_limit : ℕ → Result Command LineFault → Result Command LineFault
with_time_limit milliseconds (Ok (Control event)) = Ok (Before milliseconds event)
with_time_limit milliseconds (Ok command) = Err BadWord
with_time_limit milliseconds (Err fault) = Err fault

-- the result of reading the words after `before`: a number of milliseconds, and then a line that gives an event
abbrev pub before_reading : List (List ℕ) → Result Command LineFault
before_reading (limit ∷ first ∷ words) =
    option_map_or Err (word_fault (Number 64) limit)
    (with_time_limit (digits_value 10 limit) (event_reading first words))
before_reading _ = Err WrongCount

-- the result of reading words
abbrev pub words_reading : List (List ℕ) → Result Command LineFault
words_reading [] = Err Empty
words_reading (first ∷ words) =
    if is_before first then before_reading words else table_reading first words

-- a byte from the space to the tilde
abbrev pub is_printable : ℕ → Bool
is_printable byte = nat_le 32 byte && nat_le byte 126

-- the fault of a line's bytes: there are too many, or one is not printable
abbrev pub text_fault : List ℕ → Option LineFault
text_fault line =
    if nat_lt 4096 (length line) then Some TooLong
    else if list_all is_printable line then None
    else Some NotAscii

-- the result of reading a line, unless an allocation fails: its first fault, or else the command
unfoldable pub line_reading : List ℕ → Result Command LineFault
line_reading line = option_map_or Err (text_fault line) (words_reading (words_of line))

-- the command has ports, and perhaps a name, which need memory
abbrev pub NeedsMemory : Result Command LineFault → Type 0
NeedsMemory (Ok (Open name ports)) = ⊤
NeedsMemory (Ok (Control (Deploy name ports))) = ⊤
NeedsMemory (Ok (Before milliseconds (Deploy name ports))) = ⊤
NeedsMemory (Ok (Down ports)) = ⊤
NeedsMemory _ = ⊥

-- a line was read as expected, or an allocation failed for a command that needs memory
abbrev pub IsReadAs : Result Command LineFault → Result Command LineFault → Type 0
IsReadAs expected read =
    (read ≡ expected) ⊎ ((read ≡ Err OutOfMemory) × NeedsMemory expected)
