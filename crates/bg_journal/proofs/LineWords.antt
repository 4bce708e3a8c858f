-- The words of a line, by the first space in it.
use Rattle.std.proofs.Common.{◌≡◌, ℕ, ◌<◌, false, List, [], ◌∷◌, ◌++◌, length, get_or, refl, ap, ◌∙◌}
use Rattle.std.specs.Prelude.{◌==◌, ◌≢◌}
use Rattle.std.specs.List.{All}
use Rattle.std.proofs.lemmas.Bool.{ne_eqb}
use Rattle.std.proofs.lemmas.List.Elements.{All-from_get_or}
use Rattle.std.proofs.lemmas.List.Splits.{slice_split_at, slice_split_none}
use Rattle.bg_journal.specs.Words.{words_of}

-- no byte is a space
abbrev pub NoSpace : List ℕ → Type 0
NoSpace bytes = (i : ℕ) → i < length bytes → get_or bytes i 0 ≢ 32

no_space_passes : (bytes : List ℕ) → NoSpace bytes → All (λ byte. (byte == 32) ≡ false) bytes
no_space_passes bytes free = All-from_get_or (λ byte. (byte == 32) ≡ false) bytes 0 (λ i inside. ne_eqb (get_or bytes i 0) 32 (free i inside))

-- the first space ends the first word
pub first_word : (line word rest : List ℕ) → line ≡ word ++ (32 ∷ rest) → NoSpace word → words_of line ≡ word ∷ words_of rest
unfolding words_of
first_word line word rest is free =
    ap words_of is ∙ slice_split_at (λ byte. byte == 32) word 32 rest (no_space_passes word free) refl

-- a line without a space is its only word
pub only_word : (line : List ℕ) → NoSpace line → words_of line ≡ line ∷ []
unfolding words_of
only_word line free = slice_split_none (λ byte. byte == 32) line (no_space_passes line free)
