-- The bytes of the strategy: those before the line `---`, or all of them.
use Rattle.std.specs.Prelude.{◌≡◌, ℕ, ◌<◌, ◌≤◌, Bool, true, ◌&&◌, List, [], ◌∷◌, length, ◌==◌, if◌then◌else◌, codes, bytes_eq}
use Rattle.bg_operator.specs.Lines.{line_of, after_break}
use Rattle.bg_operator.specs.declared.strategy_part.StrategyPart.{StrategyPart}
use Rattle.bg_operator.specs.declared.strategy_part.StrategyPart.TheVariants.{Whole, TooLarge}

-- the maximum length in bytes of the text of a strategy
abbrev pub largest_strategy : ℕ
largest_strategy = 1048576

-- whether the first line is `---`
abbrev pub at_mark : List ℕ → Bool
at_mark xs = bytes_eq (line_of xs) (codes "---")

-- the bytes before the first line that is `---`; starts says whether a line starts here
abbrev pub part_from : Bool → List ℕ → List ℕ
part_from starts [] = []
part_from starts (x ∷ xs) =
    if starts && at_mark (x ∷ xs) then [] else x ∷ part_from (x == 10) xs

-- the bytes after that line; starts says whether a line starts here
abbrev pub rest_from : Bool → List ℕ → List ℕ
rest_from starts [] = []
rest_from starts (x ∷ xs) =
    if starts && at_mark (x ∷ xs) then after_break (x ∷ xs) else rest_from (x == 10) xs

-- the bytes before the first line that is `---`, or all of them
abbrev pub part_of : List ℕ → List ℕ
part_of xs = part_from true xs

-- the bytes after the first line that is `---`, or none
abbrev pub rest_of : List ℕ → List ℕ
rest_of xs = rest_from true xs

-- this text was read, and ys, which are the rest, are still unread; or the text is longer than a strategy may be
abbrev pub WasRead : StrategyPart → List ℕ → List ℕ → List ℕ → Type 0
WasRead (Whole part) text rest ys =
    (part.items ≡ text) × (ys ≡ rest) × (length part.items ≤ largest_strategy)
WasRead TooLarge text rest ys = largest_strategy < length text

-- the bytes xs were read up to the line `---`, and ys are still unread
abbrev pub IsPart : StrategyPart → List ℕ → List ℕ → Type 0
IsPart part xs ys = WasRead part (part_of xs) (rest_of xs) ys

-- all of the bytes xs were read
abbrev pub IsWhole : StrategyPart → List ℕ → List ℕ → Type 0
IsWhole part xs ys = WasRead part xs [] ys
