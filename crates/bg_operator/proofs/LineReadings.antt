-- The result of reading a line, by its bytes and its words.
use Rattle.std.proofs.Common.{◌≡◌, ℕ, suc, ◌<◌, Bool, true, false, List, [], ◌∷◌, map, length, Some, None, Err, if◌then◌else◌, refl, ap, ◌∙◌, arith}
use Rattle.std.specs.Prelude.{◌&&◌, bytes_eq, find, nat_lt}
use Rattle.std.specs.List.{list_all}
use Rattle.std.specs.Option.{option_or, option_map_or}
use Rattle.std.proofs.lemmas.Bool.Decides.{nat_tests}
use Rattle.bg_operator.specs.declared.line_fault.LineFault.{LineFault}
use Rattle.bg_operator.specs.declared.line_fault.LineFault.TheVariants.{BadNumber, UnknownWord, WrongCount}
use Rattle.bg_operator.specs.declared.command.Command.TheVariants.{Ask}
use Rattle.bg_operator.specs.declared.query.Query.{Query}
use Rattle.bg_operator.specs.Words.{is_number, meaning_in, Vocabulary, words_of}
use Rattle.bg_operator.specs.Shapes.{AnyNumber, first_wrong, Number, shape_fault, word_fault}
use Rattle.bg_operator.specs.Commands.{line_reading, query_rows, reading_in, row_reading, single_word, template_shape, text_fault, words_reading}

-- a fault of the bytes is that of the line
pub read_by_bytes : (line : List ℕ) (fault : LineFault) → text_fault line ≡ Some fault → line_reading line ≡ Err fault
unfolding line_reading
read_by_bytes line fault e = ap (λ o. option_map_or Err o (words_reading (words_of line))) e

-- a line of good bytes is read by its words
pub read_by_words : (line : List ℕ) (words : List (List ℕ)) → text_fault line ≡ None → words_of line ≡ words
    → line_reading line ≡ words_reading words
unfolding line_reading
read_by_words line words e is =
    ap (λ o. option_map_or Err o (words_reading (words_of line))) e ∙ ap words_reading is

-- the fault of one word more that has to be a port
one_more_port : (word : List ℕ) (words : List (List ℕ))
    → option_or (word_fault (Number 16) word) (if list_all (is_number 16) words then None else Some BadNumber) ≡ (if list_all (is_number 16) (word ∷ words) then None else Some BadNumber)
one_more_port word words =
    elim (is_number 16 word) as (λ t. option_or (if t then None else Some BadNumber) (if list_all (is_number 16) words then None else Some BadNumber) ≡ (if t && list_all (is_number 16) words then None else Some BadNumber)) [ true ↦ refl | false ↦ refl ]

-- the first wrong word among those that have to be ports
wrong_port : (words : List (List ℕ))
    → first_wrong (Number 16 ∷ map (λ word. Number 16) words) words ≡ (if list_all (is_number 16) words then None else Some BadNumber)
wrong_port [] = refl
wrong_port (word ∷ words) = ap (option_or (word_fault (Number 16) word)) (wrong_port words) ∙ one_more_port word words

-- the fault of any number of words that have to be ports
pub fault_of_any_ports : (words : List (List ℕ))
    → shape_fault (AnyNumber (Number 16)) words ≡ (if list_all (is_number 16) words then None else Some BadNumber)
fault_of_any_ports [] = refl
fault_of_any_ports (word ∷ words) = ap (option_or (word_fault (Number 16) word)) (fault_of_any_ports words) ∙ one_more_port word words

more_than_one : (n : ℕ) → 0 < n → nat_lt 1 (suc n) ≡ true
more_than_one n some = grind (arith, nat_tests)

-- the fault of a name and one or more words
pub fault_of_ports : (name : List ℕ) (words : List (List ℕ)) → 0 < length words
    → shape_fault template_shape (name ∷ words) ≡ (if list_all (is_number 16) words then None else Some BadNumber)
fault_of_ports name words some =
    ap (λ t. if t then first_wrong (Number 16 ∷ map (λ word. Number 16) words) words else Some WrongCount) (more_than_one (length words) some)
    ∙ wrong_port words

-- a line that asks a book for something is read by the meaning of its word
abbrev ByMeaning : List ℕ → List (List ℕ) → Vocabulary Query → Type 0
ByMeaning first words table =
    reading_in (query_rows table) first words ≡ option_map_or (λ query. row_reading (single_word [] (Ask query)) words) (meaning_in table first) (Err UnknownWord)

pub reading_of_query : (first : List ℕ) (words : List (List ℕ)) (table : Vocabulary Query) → ByMeaning first words table
reading_of_query first words [] = refl
reading_of_query first words ((text, query) ∷ table) = by_test (bytes_eq first text) (reading_of_query first words table)
  where
    by_test : (t : Bool) → ByMeaning first words table
        → option_map_or (λ row. row_reading row words) (if t then Some (single_word text (Ask query)) else find (λ row. bytes_eq first row.first) (query_rows table)) (Err UnknownWord)
        ≡ option_map_or (λ q. row_reading (single_word [] (Ask q)) words) (if t then Some query else meaning_in table first) (Err UnknownWord)
    by_test true later = refl
    by_test false later = later
