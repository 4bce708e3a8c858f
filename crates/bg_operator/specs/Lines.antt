-- The lines of bytes.
use Rattle.std.specs.Prelude.{ℕ, Bool, true, false, ◌&&◌, List, [], ◌∷◌, ◌==◌, if◌then◌else◌}
use Rattle.std.specs.Io.BufRead.{strip_last}

-- whether the bytes begin with a line break, LF
abbrev pub at_break : List ℕ → Bool
at_break [] = false
at_break (x ∷ xs) = x == 10

-- one more byte at the front of the first line
abbrev pub onto_first : ℕ → List (List ℕ) → List (List ℕ)
onto_first x [] = (x ∷ []) ∷ []
onto_first x (line ∷ lines) = (x ∷ line) ∷ lines

-- The lines, each without its break. A CR directly before a break belongs to the break. The bytes
-- after the last break are a line if there are any.
abbrev pub lines_of : List ℕ → List (List ℕ)
lines_of [] = []
lines_of (x ∷ xs) =
    if x == 10 then [] ∷ lines_of xs
    else if x == 13 && at_break xs then lines_of xs
    else onto_first x (lines_of xs)

-- the bytes before the first break, or all of them
abbrev pub before_break : List ℕ → List ℕ
before_break [] = []
before_break (x ∷ xs) = if x == 10 then [] else x ∷ before_break xs

-- the bytes after the first break, or none
abbrev pub after_break : List ℕ → List ℕ
after_break [] = []
after_break (x ∷ xs) = if x == 10 then xs else after_break xs

-- whether there is a break
abbrev pub has_break : List ℕ → Bool
has_break [] = false
has_break (x ∷ xs) = if x == 10 then true else has_break xs

-- the first line, if there is a byte
abbrev pub line_of : List ℕ → List ℕ
line_of xs = if has_break xs then strip_last 13 (before_break xs) else before_break xs
