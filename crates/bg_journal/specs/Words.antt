-- The words of a line, and words that are numbers.
use Rattle.std.specs.Prelude.{ℕ, ◌^◌, Bool, ◌&&◌, List, [], ◌∷◌, length, ◌==◌, if◌then◌else◌, nat_le, nat_lt, Option, Some, None}
use Rattle.std.specs.List.{list_all, slice_split}
use Rattle.std.specs.Option.{option_map_or}
use Rattle.std.specs.Char.{is_ascii_digit}
use Rattle.std.specs.Str.Parse.{digits_value}
use Rattle.bg_journal.specs.declared.words.Words.{Words}

-- the parts between the spaces of a line
unfoldable pub words_of : List ℕ → List (List ℕ)
words_of line = slice_split (λ byte. byte == 32) line

-- the remaining words
abbrev pub words_ahead : Words → List (List ℕ)
words_ahead words = option_map_or (λ rest. words_of rest.now) words.rest []

-- 1 to 20 digits, whose value is below 2 ^ bits
abbrev pub is_number : ℕ → List ℕ → Bool
is_number bits word =
    nat_le 1 (length word) && nat_le (length word) 20 && list_all is_ascii_digit word
    && nat_lt (digits_value 10 word) (2 ^ bits)

-- the number of a word
abbrev pub number_in : ℕ → List ℕ → Option ℕ
number_in bits word = if is_number bits word then Some (digits_value 10 word) else None

-- the only word
abbrev pub only : List (List ℕ) → Option (List ℕ)
only (word ∷ []) = Some word
only _ = None

-- the two words
abbrev pub both : List (List ℕ) → Option (List ℕ × List ℕ)
both (first ∷ second ∷ []) = Some (first, second)
both _ = None
