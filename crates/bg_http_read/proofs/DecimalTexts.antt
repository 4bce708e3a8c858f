-- What is written of a number of any size is digits.
use Rattle.std.proofs.Common.{ℕ, zero, suc, ◌%◌, ◌/◌, ◌<◌, Bool, true, false, List, [], ◌∷◌, arith}
use Rattle.std.specs.Prelude.{◌==◌, if◌then◌else◌}
use Rattle.std.specs.Char.{digit_value}
use Rattle.std.specs.Fmt.{decimal, digit_glyph, digits, digits_onto}
use Rattle.std.specs.Str.Parse.{AllDigits, IsNumeral}
use Rattle.std.proofs.lemmas.Bool.Decides.{nat_tests}

glyph_is_digit : (d : ℕ) → d < 10 → digit_value (digit_glyph false d) < 10
glyph_is_digit d small = grind (arith, nat_tests)

either : (t : Bool) (one other : List ℕ) → IsNumeral 10 one → IsNumeral 10 other → IsNumeral 10 (if t then one else other)
either true one other h k = h
either false one other h k = k

numeral_onto : (k n : ℕ) (onto : List ℕ) → AllDigits 10 onto → IsNumeral 10 (digits_onto (suc k) 10 false n onto)
numeral_onto zero n onto all =
    let next = digit_glyph false (n % 10) ∷ onto in
    let here : IsNumeral 10 next = (omega arith, (glyph_is_digit (n % 10) (omega arith), all)) in
    either (n / 10 == 0) next next here here
numeral_onto (suc k) n onto all =
    let next = digit_glyph false (n % 10) ∷ onto in
    let here : IsNumeral 10 next = (omega arith, (glyph_is_digit (n % 10) (omega arith), all)) in
    either (n / 10 == 0) next (digits_onto (suc k) 10 false (n / 10) next) here (numeral_onto k (n / 10) next here.1)

pub decimal_has_digits : (n : ℕ) → IsNumeral 10 (decimal n)
unfolding digits
decimal_has_digits n = numeral_onto 63 n [] tt
