-- Which words may follow the first word of a line, and the fault of those that may not.
use Rattle.std.specs.Prelude.{ℕ, List, ◌∷◌, ◌++◌, map, length, ◌==◌, if◌then◌else◌, nat_le, nat_lt, bytes_eq, Option, Some, None}
use Rattle.std.specs.Option.{option_or}
use Rattle.std.specs.List.{list_any}
use Rattle.bg_operator.specs.Words.{is_number}
use Rattle.bg_operator.specs.declared.line_fault.LineFault.{LineFault}
use Rattle.bg_operator.specs.declared.line_fault.LineFault.TheVariants.{WrongCount, BadWord, BadNumber}

-- the required kind of a word: anything, a number below 2 ^ bits, or one of these words
pub data WordKind : Type 0 where
  AnyWord : WordKind
  Number : (bits : ℕ) → WordKind
  OneOf : (words : List (List ℕ)) → WordKind

-- the words that follow: one of each kind, in order; the same, where the last ones may be missing;
-- one of each kind and then one or more of a further kind; or any number of one kind
pub data Shape : Type 0 where
  Exactly : (kinds : List WordKind) → Shape
  AtMost : (kinds : List WordKind) → Shape
  AndMore : (kinds : List WordKind) (further : WordKind) → Shape
  AnyNumber : (kind : WordKind) → Shape

-- the fault of a word that must be of this kind
abbrev pub word_fault : WordKind → List ℕ → Option LineFault
word_fault AnyWord word = None
word_fault (Number bits) word = if is_number bits word then None else Some BadNumber
word_fault (OneOf words) word = if list_any (bytes_eq word) words then None else Some BadWord

-- the fault of the first word from the left that does not have its kind
abbrev pub first_wrong : List WordKind → List (List ℕ) → Option LineFault
first_wrong (kind ∷ kinds) (word ∷ words) =
    option_or (word_fault kind word) (first_wrong kinds words)
first_wrong _ _ = None

-- the fault of the words that follow: a wrong count comes before a wrong word
abbrev pub shape_fault : Shape → List (List ℕ) → Option LineFault
shape_fault (Exactly kinds) words =
    if length words == length kinds then first_wrong kinds words else Some WrongCount
shape_fault (AtMost kinds) words =
    if nat_le (length words) (length kinds) then first_wrong kinds words else Some WrongCount
shape_fault (AndMore kinds further) words =
    if nat_lt (length kinds) (length words)
    then first_wrong (kinds ++ map (λ word. further) words) words
    else Some WrongCount
shape_fault (AnyNumber kind) words = first_wrong (map (λ word. kind) words) words
