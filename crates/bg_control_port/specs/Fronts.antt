-- The lines at the front of an input.
use Rattle.std.specs.Prelude.{ℕ, ◌+◌, Bool, ◌&&◌, List, length, if◌then◌else◌, nat_le, nat_lt, Option, Some, None}
use Rattle.bg_control_port.specs.Lines.{break_at}
use Rattle.bg_control_port.specs.declared.buffer.Front.{Front}
use Rattle.bg_control_port.specs.declared.buffer.Front.TheVariants.{Line, Part, TooLong}

-- the number of bytes of the first line among bytes that have arrived, with its line break, LF; bytes without
-- a line break are the last line if the input has ended behind them
abbrev pub length_with : Option ℕ → Bool → List ℕ → Option ℕ
length_with None has_ended bytes = if has_ended && nat_lt 0 (length bytes) then Some (length bytes) else None
length_with (Some index) has_ended bytes = Some (index + 1)

abbrev pub line_length : Bool → List ℕ → Option ℕ
line_length has_ended bytes = length_with (break_at bytes) has_ended bytes

-- the number of bytes of which a line break has to be one, unless the line is too long: 4,096, and a line end
-- of two
abbrev pub longest_line : ℕ
longest_line = 4098

-- what is at the front of bytes: a line with its length, a part of a line, or a line that is too long
abbrev pub front_with : Option ℕ → List ℕ → Front
front_with None bytes = if nat_le longest_line (length bytes) then TooLong else Part
front_with (Some count) bytes = if nat_le count longest_line then Line count else TooLong

abbrev pub front : Bool → List ℕ → Front
front has_ended bytes = front_with (line_length has_ended bytes) bytes
