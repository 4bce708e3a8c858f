-- As what the lines of operators are read.
use Rattle.std.specs.Prelude.{◌≡◌, false, [], Some, Err}
use Rattle.bg_control_port.specs.Lines.{Whole, Bytes, TooLong}
use Rattle.bg_operator.specs.OperatorLines.{IsOneLine, IsRead, NextIs, text_of}
use Rattle.bg_operator.specs.declared.line.Line.{Line}
use Rattle.bg_operator.specs.declared.line_fault.LineFault.TheVariants as line_fault

-- a whole line of the control port was read as this line: as it says of its text, and if its bytes are one line, as the next
-- line of these bytes
abbrev pub IsReadFor : Whole → Line → Type 0
IsReadFor (Bytes bytes) line =
    (line.text.items ≡ text_of bytes) × IsRead (text_of bytes) line.read line.speaks_http
    × (IsOneLine bytes → NextIs (Some line.read) line.speaks_http bytes [])
IsReadFor TooLong line = (line.text.items ≡ []) × (line.read ≡ Err line_fault.TooLong) × (line.speaks_http ≡ false)
