-- The result of `parse` for a word of 1 to 20 digits.
use Rattle.std.proofs.Common.{◌≡◌, ℕ, ◌^◌, ◌<◌, ◌≤◌, Bool, true, false, cond, List, length, refl, sym, ap, ◌∙◌, rules}
use Rattle.std.specs.Prelude.{is_ok, MatchResult, Result, Ok, Err}
use Rattle.std.specs.List.{list_all}
use Rattle.std.specs.Char.{is_ascii_digit}
use Rattle.std.specs.Str.Parse.{digits_value, ParsesUnsigned}
use Rattle.std.proofs.lemmas.Bool.{and_from, and_parts, cond-true, le-leb, lt-ltb, ltb-true, leb-true}
use Rattle.std.proofs.lemmas.Str.Parse.{IsNumeralModel, numerals_by_value, parse_digits}
use Rattle.bg_operator.specs.declared.line_fault.LineFault.TheVariants.{BadNumber}
use Rattle.bg_operator.specs.Words.{is_number, number_reading}

-- the test of the definition is a test for texts of digits
numeral : IsNumeralModel (λ ds. list_all is_ascii_digit ds ≡ true) (digits_value 10)
numeral = numerals_by_value _ (search rules)

is_number_from : (bits : ℕ) (word : List ℕ) → 0 < length word → length word ≤ 20
    → list_all is_ascii_digit word ≡ true → digits_value 10 word < 2 ^ bits → is_number bits word ≡ true
is_number_from bits word some short digits small =
    and_from _ _ (and_from _ _ (and_from _ _ (le-leb 1 (length word) some) (le-leb (length word) 20 short)) digits) (lt-ltb (digits_value 10 word) (2 ^ bits) small)

-- a word that is a number is not empty, and its value is small enough
number_parts : (bits : ℕ) (word : List ℕ) → is_number bits word ≡ true → (0 < length word) × (digits_value 10 word < 2 ^ bits)
number_parts bits word e =
    let outer = and_parts _ _ e in
    let inner = and_parts _ _ outer.0 in
    let lengths = and_parts _ _ inner.0 in
    (leb-true 1 (length word) lengths.0, ltb-true (digits_value 10 word) (2 ^ bits) outer.1)

-- the result of `parse` for digits is the number of the definition, and if it fails there is none
pub parsed_number : {E : Type 0} (word : List ℕ) (r : Result ℕ E) → ParsesUnsigned 64 10 word r → length word ≤ 20
    → list_all is_ascii_digit word ≡ true → MatchResult r (λ n. number_reading 64 word ≡ Ok n) (λ e. number_reading 64 word ≡ Err BadNumber)
parsed_number {E} word (Ok n) h short digits =
    let read = parse_digits numeral {E = E} 64 word (Ok n) h digits in
    cond-true _ _ _ (is_number_from 64 word read.0.0 short digits read.0.1) ∙ ap Ok (sym read.1)
parsed_number {E} word (Err e) h short digits = by_test (is_number 64 word) refl
  where
    by_test : (t : Bool) → is_number 64 word ≡ t → cond t (Ok (digits_value 10 word)) (Err BadNumber) ≡ Err BadNumber
    by_test true is = absurd (parse_digits numeral {E = E} 64 word (Err e) h digits (number_parts 64 word is))
    by_test false is = refl

-- a number is read exactly if the word is one
pub is_ok_number : (bits : ℕ) (word : List ℕ) → is_ok (number_reading bits word) ≡ is_number bits word
is_ok_number bits word = by_test (is_number bits word) refl
  where
    by_test : (t : Bool) → is_number bits word ≡ t → is_ok (cond t (Ok (digits_value 10 word)) (Err BadNumber)) ≡ t
    by_test true is = refl
    by_test false is = refl
