-- The unread bytes that are read, piece by piece.
use Rattle.std.specs.Prelude.{◌≡◌, ℕ, ◌≤◌, Bool, true, false, List, [], ◌∷◌, ◌++◌, length, Option, None, Some}
use Rattle.std.specs.Io.BufRead.{strip_last}
use Rattle.bg_operator.specs.Lines.{after_break, has_break}
use Rattle.bg_operator.specs.declared.taking.LineEnd.{LineEnd}
use Rattle.bg_operator.specs.declared.taking.LineEnd.TheVariants as line_end

-- some of the bytes xs were read as line, which has no break, and ys are unread
pub record TakesPieces (line xs ys : List ℕ) : Type 0 where
  pub all : xs ≡ line ++ ys
  pub no_break : has_break line ≡ false

-- a line of the bytes xs was read up to its break, to the end, or to this many bytes, and ys are
-- unread
abbrev pub TakesLine : ℕ → LineEnd → List ℕ → List ℕ → List ℕ → Type 0
TakesLine room line_end.Break line xs ys = TakesPieces line xs (10 ∷ ys)
TakesLine room line_end.End line xs ys = TakesPieces line xs [] × (ys ≡ [])
TakesLine room line_end.Room line xs ys = TakesPieces line xs ys × (room ≤ length line)

-- some of the bytes xs were appended to old, which gives new, and ys are unread
pub record Grows (old new xs ys : List ℕ) : Type 0 where
  pub all : old ++ xs ≡ new ++ ys
  pub no_break : has_break old ≡ false → has_break new ≡ false

-- the same for the next bytes of a line with this end; none means that more of the line may come
abbrev pub TakesPiece : Option LineEnd → List ℕ → List ℕ → List ℕ → List ℕ → Type 0
TakesPiece None old new xs ys = Grows old new xs ys
TakesPiece (Some line_end.Break) old new xs ys = Grows old new xs (10 ∷ ys)
TakesPiece (Some line_end.End) old new xs ys = Grows old new xs [] × (ys ≡ [])
TakesPiece (Some line_end.Room) old new xs ys = ⊥

-- some of the bytes xs were appended to old, which gives new, and ys are unread; at the end none
-- are unread
pub record Gathers (at_end : Bool) (old new xs ys : List ℕ) : Type 0 where
  pub all : old ++ xs ≡ new ++ ys
  pub none_left : at_end ≡ true → ys ≡ []

-- the rest of a line of the bytes xs was skipped, with its break, and ys are unread
abbrev pub PassesLine : List ℕ → List ℕ → Type 0
PassesLine xs ys = ys ≡ after_break xs

-- the same for the next bytes of a line; ended says whether they were skipped up to its break, or
-- to the end
abbrev pub PassesPiece : Bool → List ℕ → List ℕ → Type 0
PassesPiece true xs ys = PassesLine xs ys
PassesPiece false xs ys = after_break xs ≡ after_break ys

-- the text of a line with this end: a CR before a break belongs to the break
abbrev pub line_text : LineEnd → List ℕ → List ℕ
line_text line_end.Break line = strip_last 13 line
line_text _ line = line
