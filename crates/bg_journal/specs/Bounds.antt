-- The bounds of request numbers: texts of a journal that are those of no entries.
use Rattle.std.specs.Prelude.{ℕ, ◌==◌, List, [], ◌∷◌, ◌++◌, codes, reverse, if◌then◌else◌, Option, Some, None, unwrap_or}
use Rattle.std.specs.Fmt.{decimal}
use Rattle.std.specs.Option.{option_and_then}
use Rattle.bg_journal.specs.Words.{number_in}

-- the text of a bound: no request got a greater number than this one
abbrev pub bound_text : ℕ → List ℕ
bound_text n = codes "requests " ++ decimal n

-- what follows these bytes, if the text begins with them
abbrev pub text_after : List ℕ → List ℕ → Option (List ℕ)
text_after [] text = Some text
text_after (b ∷ bytes) [] = None
text_after (b ∷ bytes) (c ∷ text) = if b == c then text_after bytes text else None

-- the bound that a text says, if it says one
abbrev pub bound_in : List ℕ → Option ℕ
bound_in text = option_and_then (number_in 64) (text_after (codes "requests ") text)

-- the newest bound that texts say, the newest text first; 0 if they say none
abbrev pub newest_bound : List (List ℕ) → ℕ
newest_bound [] = 0
newest_bound (text ∷ older) = unwrap_or (bound_in text) (newest_bound older)

-- the newest bound that texts say, the oldest text first
abbrev pub last_bound : List (List ℕ) → ℕ
last_bound texts = newest_bound (reverse texts)
