-- How the lines of a script or of a control connection are read, one after the other.
use Rattle.std.specs.Prelude.{◌≡◌, ℕ, ◌-◌, ◌<◌, Bool, false, List, [], ◌∷◌, if◌then◌else◌, length, take, Option, Some, None, Result}
use Rattle.std.specs.Io.BufRead.{ends_with_byte, strip_last}
use Rattle.bg_operator.specs.Commands.{IsReadAs, line_reading}
use Rattle.bg_operator.specs.HttpLines.{speaks_http}
use Rattle.bg_operator.specs.Lines.{has_break, lines_of}
use Rattle.bg_operator.specs.declared.operator_lines.OperatorLines.{OperatorLines}
use Rattle.bg_operator.specs.declared.command.Command.{Command}
use Rattle.bg_operator.specs.declared.line_fault.LineFault.{LineFault}

-- the next line of the bytes xs, after which ys are unread: its command, or why it gives none, and
-- whether it gives no command and is a line of HTTP; none at the end
abbrev pub NextIs : Option (Result Command LineFault) → Bool → List ℕ → List ℕ → Type 0
NextIs (Some read) http xs ys =
    (line : List ℕ) × (lines_of xs ≡ line ∷ lines_of ys) × IsReadAs (line_reading line) read
    × (http ≡ speaks_http read line)
NextIs None http xs ys = (lines_of xs ≡ []) × (http ≡ false)

-- whether the last line gives no command and is a line of HTTP
abbrev pub last_speaks_http : OperatorLines → Bool
last_speaks_http lines = lines.speaks_http

-- a line, without its end, was read as expected, and this says whether it gives no command and is a line of HTTP
abbrev pub IsRead : List ℕ → Result Command LineFault → Bool → Type 0
IsRead line read http = IsReadAs (line_reading line) read × (http ≡ speaks_http read line)

-- the line of these bytes without its end: a break, and a CR directly before it
abbrev pub text_of : List ℕ → List ℕ
text_of bytes = if ends_with_byte 10 bytes then strip_last 13 (strip_last 10 bytes) else bytes

-- these are the bytes of one line: there are some, and only the last one may be a break
abbrev pub IsOneLine : List ℕ → Type 0
IsOneLine bytes = (0 < length bytes) × (has_break (take (length bytes - 1) bytes) ≡ false)
