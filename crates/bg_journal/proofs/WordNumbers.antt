-- The number of a word, and that of the digits that are written for a number.
use Rattle.std.proofs.Common.{◌≡◌, ℕ, ◌^◌, ◌<◌, ◌≤◌, Bool, true, false, cond, List, length, Some, None, refl, sym, ap, ◌∙◌, arith, rules, lit<}
use Rattle.std.specs.Prelude.{Result, Ok, Err, is_some}
use Rattle.std.specs.Result.{result_ok}
use Rattle.std.specs.List.{list_all}
use Rattle.std.specs.Char.{is_ascii_digit}
use Rattle.std.specs.Fmt.{decimal}
use Rattle.std.specs.Str.Parse.{digits_value, ParsesUnsigned}
use Rattle.std.proofs.lemmas.Bool.{and_from, and_parts, cond-true, le-leb, lt-ltb, ltb-true, leb-true}
use Rattle.std.proofs.lemmas.Fmt.{decimal_nonempty, digits_decimal, digits_value-decimal, length-decimal-le}
use Rattle.std.proofs.lemmas.Str.Parse.{IsNumeralModel, numerals_by_value, parse_digits}
use Rattle.bg_journal.specs.Words.{is_number, number_in}

-- the test of the definition is a test for texts of digits
numeral : IsNumeralModel (λ ds. list_all is_ascii_digit ds ≡ true) (digits_value 10)
numeral = numerals_by_value _ (search rules)

is_number_from : (bits : ℕ) (word : List ℕ) → 0 < length word → length word ≤ 20
    → list_all is_ascii_digit word ≡ true → digits_value 10 word < 2 ^ bits → is_number bits word ≡ true
is_number_from bits word some short digits small =
    and_from _ _ (and_from _ _ (and_from _ _ (le-leb 1 (length word) some) (le-leb (length word) 20 short)) digits) (lt-ltb (digits_value 10 word) (2 ^ bits) small)

-- a word that is a number is not empty, and its value is small enough
number_parts : (bits : ℕ) (word : List ℕ) → is_number bits word ≡ true → (0 < length word) × (digits_value 10 word < 2 ^ bits)
number_parts bits word e =
    let outer = and_parts _ _ e in
    let inner = and_parts _ _ outer.0 in
    let lengths = and_parts _ _ inner.0 in
    (leb-true 1 (length word) lengths.0, ltb-true (digits_value 10 word) (2 ^ bits) outer.1)

-- what `parse` gives for digits is the number of the definition
pub parsed_number : {E : Type 0} (word : List ℕ) (r : Result ℕ E) → ParsesUnsigned 64 10 word r → length word ≤ 20
    → list_all is_ascii_digit word ≡ true → result_ok r ≡ number_in 64 word
parsed_number {E} word (Ok n) h short digits =
    let read = parse_digits numeral {E = E} 64 word (Ok n) h digits in
    sym (cond-true _ _ _ (is_number_from 64 word read.0.0 short digits read.0.1) ∙ ap Some (sym read.1))
parsed_number {E} word (Err e) h short digits = by_test (is_number 64 word) refl
  where
    by_test : (t : Bool) → is_number 64 word ≡ t → None ≡ cond t (Some (digits_value 10 word)) None
    by_test true is = absurd (parse_digits numeral {E = E} 64 word (Err e) h digits (number_parts 64 word is))
    by_test false is = refl

-- a word has a number exactly if it is one
pub has_number : (bits : ℕ) (word : List ℕ) → is_some (number_in bits word) ≡ is_number bits word
has_number bits word = by_test (is_number bits word) refl
  where
    by_test : (t : Bool) → is_number bits word ≡ t → is_some (cond t (Some (digits_value 10 word)) None) ≡ t
    by_test true is = refl
    by_test false is = refl

-- the digits of a number are digits
pub digits_only : (n : ℕ) → n < 2 ^ 64 → list_all is_ascii_digit (decimal n) ≡ true
digits_only n small = digits_decimal numeral n small

-- their value is the number
pub value_of_digits : (n : ℕ) → n < 2 ^ 64 → digits_value 10 (decimal n) ≡ n
value_of_digits n small = digits_value-decimal numeral n small

-- they are a number of as many bits
pub is_number_decimal : (bits n : ℕ) → n < 2 ^ bits → n < 2 ^ 64 → is_number bits (decimal n) ≡ true
is_number_decimal bits n fits small =
    let few : n < 10 ^ 20 = omega (arith, small) in
    is_number_from bits (decimal n) (decimal_nonempty n small) (length-decimal-le 20 n (lit< tt) few small) (digits_only n small)
    (rw (value_of_digits n small) fits)

-- they are read as the number
pub number_decimal : (bits n : ℕ) → n < 2 ^ bits → n < 2 ^ 64 → number_in bits (decimal n) ≡ Some n
number_decimal bits n fits small =
    cond-true _ _ _ (is_number_decimal bits n fits small) ∙ ap Some (value_of_digits n small)
