-- The length that Content-Length fields give (RFC 9110 section 8.6).
use Rattle.std.specs.Prelude.{ℕ, Bool, not, if◌then◌else◌, ◌==◌, ◌&&◌, nat_le, List, [], ◌∷◌, length, codes, Option, Some, None}
use Rattle.std.specs.List.{list_all}
use Rattle.std.specs.Char.{is_ascii_digit}
use Rattle.std.specs.Str.{bytes_eq}
use Rattle.std.specs.Str.Parse.{digits_value}
use Rattle.bg_http.specs.Elements.{Field, elements_named}

-- one or more digits
abbrev pub is_digits : List ℕ → Bool
is_digits text = not (length text == 0) && list_all is_ascii_digit text

-- a number without its leading zeros
abbrev pub without_zeros : List ℕ → List ℕ
without_zeros [] = []
without_zeros (digit ∷ more) = if digit == 48 then without_zeros more else digit ∷ more

-- the element is a number with these digits, without its leading zeros
abbrev pub has_digits : List ℕ → List ℕ → Bool
has_digits digits element = is_digits element && bytes_eq (without_zeros element) digits

-- the result of reading the fields: no length, one length by its digits, or an invalid length
pub data Length : Type 0 where
  absent : Length
  is : List ℕ → Length
  wrong : Length

-- one length if each element is a number and all are equal without their leading zeros
abbrev pub length_of : List (List ℕ) → Length
length_of [] = absent
length_of (element ∷ more) =
    if list_all (has_digits (without_zeros element)) (element ∷ more)
    then is (without_zeros element) else wrong

-- the result of reading all Content-Length fields together
abbrev pub content_length : List Field → Length
content_length fields = length_of (elements_named (codes "content-length") fields)

-- the number that the digits stand for, if it is at most `most`
abbrev pub number_within : ℕ → List ℕ → Option ℕ
number_within most digits =
    if nat_le (digits_value 10 digits) most then Some (digits_value 10 digits) else None
