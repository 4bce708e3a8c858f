-- The first word of a line, and the words after it.
use Rattle.std.proofs.Common.{◌≡◌, ℕ, ◌<◌, false, List, [], ◌∷◌, ◌++◌, length, get_or, cond, refl, ap, ◌∙◌, arith}
use Rattle.std.specs.Prelude.{◌==◌, ◌≢◌, nat_lt, filter}
use Rattle.std.specs.List.{All}
use Rattle.std.proofs.lemmas.Bool.{cond-false, cond-true, le-ltb, lt-ltb, ne_eqb}
use Rattle.std.proofs.lemmas.List.Elements.{All-from_get_or}
use Rattle.std.proofs.lemmas.List.Splits.{slice_split_at, slice_split_none}
use Rattle.bg_operator.specs.Words.{words_of}

-- no byte is a space
abbrev pub NoSpace : List ℕ → Type 0
NoSpace bytes = (i : ℕ) → i < length bytes → get_or bytes i 0 ≢ 32

no_space_passes : (bytes : List ℕ) → NoSpace bytes → All (λ byte. (byte == 32) ≡ false) bytes
no_space_passes bytes free = All-from_get_or (λ byte. (byte == 32) ≡ false) bytes 0 (λ i inside. ne_eqb (get_or bytes i 0) 32 (free i inside))

-- a part before a space is the first word, if it is not empty
pub word_before_space : (line part rest : List ℕ) → line ≡ part ++ (32 ∷ rest) → NoSpace part
    → words_of line ≡ cond (nat_lt 0 (length part)) (part ∷ words_of rest) (words_of rest)
unfolding words_of
word_before_space line part rest is free =
    ap words_of is ∙ ap (filter (λ p. nat_lt 0 (length p)))
    (slice_split_at (λ byte. byte == 32) part 32 rest (no_space_passes part free) refl)

-- a line without a space is its only word, if it is not empty
pub last_word : (line : List ℕ) → NoSpace line → words_of line ≡ cond (nat_lt 0 (length line)) (line ∷ []) []
unfolding words_of
last_word line free =
    ap (filter (λ p. nat_lt 0 (length p))) (slice_split_none (λ byte. byte == 32) line (no_space_passes line free))

-- a part before a space that is not empty is the first word
pub first_word : (line word rest : List ℕ) → line ≡ word ++ (32 ∷ rest) → NoSpace word → 0 < length word
    → words_of line ≡ word ∷ words_of rest
first_word line word rest is free some =
    word_before_space line word rest is free ∙ cond-true _ _ _ (lt-ltb 0 (length word) some)

-- an empty part is not a word
pub no_first_word : (line part rest : List ℕ) → line ≡ part ++ (32 ∷ rest) → NoSpace part → length part ≡ 0
    → words_of line ≡ words_of rest
no_first_word line part rest is free none =
    word_before_space line part rest is free ∙ cond-false _ _ _ (le-ltb 0 (length part) (omega arith))

-- a line without a space that is not empty is its only word
pub only_word : (line : List ℕ) → NoSpace line → 0 < length line → words_of line ≡ line ∷ []
only_word line free some = last_word line free ∙ cond-true _ _ _ (lt-ltb 0 (length line) some)

-- an empty line has no words
pub no_word : (line : List ℕ) → NoSpace line → length line ≡ 0 → words_of line ≡ []
no_word line free none = last_word line free ∙ cond-false _ _ _ (le-ltb 0 (length line) (omega arith))

pub none_left : words_of [] ≡ []
unfolding words_of
none_left = refl
