-- Texts of digits, and their numbers.
use Rattle.std.proofs.Common.{arith, zero, suc, ◌-◌, ◌*◌, ◌≡◌, ℕ, true, ◌+◌, ◌<◌, ◌≤◌, length, take, get_or, List, [], ◌∷◌, refl}
use Rattle.std.specs.Prelude.{nat_le}
use Rattle.std.proofs.lemmas.Bool.{leb-true, and_parts}
use Rattle.std.specs.List.{list_all}
use Rattle.std.specs.Char.{is_ascii_digit, digit_value}
use Rattle.std.specs.Str.Parse.{digits_value}
use Rattle.std.proofs.lemmas.Str.{digit_value_digit}
use Rattle.std.proofs.lemmas.Int.Digits.{digits_value_more}

-- each byte of a text of digits is a digit
digit_at : (ds : List ℕ) (i : ℕ) → i < length ds → list_all is_ascii_digit ds ≡ true → is_ascii_digit (get_or ds i 0) ≡ true
digit_at [] i below all = absurd (omega arith)
digit_at (d ∷ ds) zero below all = (and_parts (is_ascii_digit d) (list_all is_ascii_digit ds) all).0
digit_at (d ∷ ds) (suc i) below all = digit_at ds i (omega arith) (and_parts (is_ascii_digit d) (list_all is_ascii_digit ds) all).1

-- a digit is a byte from `0` to `9`
in_range : (c : ℕ) → is_ascii_digit c ≡ true → (48 ≤ c) × (c ≤ 57)
in_range c h =
    let both = and_parts (nat_le 48 c) (nat_le c 57) h in
    (leb-true 48 c both.0, leb-true c 57 both.1)

-- the number with one more digit
pub next_number : (ds : List ℕ) (i n r : ℕ) → i < length ds → list_all is_ascii_digit ds ≡ true → n ≡ digits_value 10 (take i ds) → r ≡ get_or ds i 0 - 48
    → n * 10 + r ≡ digits_value 10 (take (i + 1) ds)
next_number ds i n r below all e f =
    let more = digits_value_more 10 ds i below in
    let digit : digit_value (get_or ds i 0) + 48 ≡ get_or ds i 0 = digit_value_digit (get_or ds i 0) (in_range (get_or ds i 0) (digit_at ds i below all)) in
    let value : r ≡ digit_value (get_or ds i 0) = omega arith in
    rw (more, e, value) refl
