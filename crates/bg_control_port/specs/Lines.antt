-- The lines of a whole input, and as what each is read.
use Rattle.std.specs.Prelude.{ℕ, ◌+◌, Bool, List, [], ◌∷◌, ◌==◌, if◌then◌else◌, drop, is_some, length, map, nat_le, position, Option, Some, None}

-- a byte stands before these lines
abbrev pub with_first : ℕ → List (List ℕ) → List (List ℕ)
with_first byte [] = (byte ∷ []) ∷ []
with_first byte (line ∷ lines) = (byte ∷ line) ∷ lines

-- the lines of an input, each with its line break, LF; bytes behind the last line break are a line without one
abbrev pub lines : List ℕ → List (List ℕ)
lines [] = []
lines (byte ∷ bytes) = if byte == 10 then (byte ∷ []) ∷ lines bytes else with_first byte (lines bytes)

-- where the first line break stands
abbrev pub break_at : List ℕ → Option ℕ
break_at bytes = position (λ byte. byte == 10) bytes

abbrev pub has_break : List ℕ → Bool
has_break bytes = is_some (break_at bytes)

-- the bytes behind the first line break
abbrev pub behind : Option ℕ → List ℕ → List ℕ
behind None bytes = []
behind (Some index) bytes = drop (index + 1) bytes

abbrev pub after_break : List ℕ → List ℕ
after_break bytes = behind (break_at bytes) bytes

-- a whole line as it is read: its bytes, or that it was too long
pub data Whole : Type 0 where
  Bytes : (bytes : List ℕ) → Whole
  TooLong : Whole

-- what is read for a line: the line, or that it is too long if no line break is among its first 4,098 bytes
abbrev pub given_with : Option ℕ → List ℕ → Whole
given_with None line = if nat_le 4098 (length line) then TooLong else Bytes line
given_with (Some index) line = if nat_le 4098 index then TooLong else Bytes line

abbrev pub given_for : List ℕ → Whole
given_for line = given_with (break_at line) line

-- all that is read for an input
abbrev pub given : List ℕ → List Whole
given bytes = map given_for (lines bytes)
