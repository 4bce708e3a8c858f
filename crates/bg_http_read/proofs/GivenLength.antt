-- A length that is written is read as this length.
use Rattle.std.proofs.Common.{◌≡◌, ℕ, ◌<◌, ◌≤◌, ◌^◌, Bool, true, false, not, ◌==◌, IsTrue, cond, List, [], ◌∷◌, ◌++◌, length, map, reverse, refl, ap, sym, ◌∙◌, arith, subst, Some, None}
use Rattle.std.specs.Prelude.{codes, All, nat_le, if◌then◌else◌}
use Rattle.std.specs.Fmt.{decimal}
use Rattle.std.specs.Char.{digit_value, is_ascii_digit}
use Rattle.std.specs.List.{list_all}
use Rattle.std.specs.Str.{bytes_eq}
use Rattle.std.specs.Str.Parse.{AllDigits, digits_value}
use Rattle.std.proofs.lemmas.Bool.{and_from, eqb-true, le-leb, or_parts}
use Rattle.std.proofs.lemmas.Bool.Decides.{nat_tests}
use Rattle.std.proofs.lemmas.Fmt.{decimal_is_IsNumeral}
use Rattle.std.proofs.lemmas.List.{reverse-reverse}
use Rattle.std.proofs.lemmas.List.Elements.{All-cons, All-head}
use Rattle.std.proofs.lemmas.List.Splits.{slice_split_none}
use Rattle.std.proofs.lemmas.Slice.Eq.{bytes_eq-Decides}
use Rattle.httparse.specs.Grammar.{AllPass}
use Rattle.httparse.proofs.TrimLemmas.{AllPass-reverse}
use Rattle.bg_http.specs.Elements.{Field, elements, elements_named, has_field, is_blank, is_comma, is_named, trimmed, without_blanks}
use Rattle.bg_http.specs.Lengths.{has_digits, is, is_digits, length_of, number_within, without_zeros, wrong}

digit_is_digit : (c : ℕ) → digit_value c < 10 → is_ascii_digit c ≡ true
digit_is_digit c small = grind (arith, nat_tests)

digit_is_no_comma : (c : ℕ) → digit_value c < 10 → is_comma c ≡ false
digit_is_no_comma c small = grind (arith, nat_tests)

abbrev pub no_blank : ℕ → Bool
no_blank b = not (is_blank b)

digit_is_no_blank : (c : ℕ) → digit_value c < 10 → no_blank c ≡ true
digit_is_no_blank c small = grind (arith, nat_tests)

all_digits : (ds : List ℕ) → AllDigits 10 ds → list_all is_ascii_digit ds ≡ true
all_digits [] h = refl
all_digits (c ∷ ds) h = and_from _ _ (digit_is_digit c h.0) (all_digits ds h.1)

no_commas : (ds : List ℕ) → AllDigits 10 ds → All (λ c. is_comma c ≡ false) ds
no_commas [] h = λ k d inside. absurd (omega (arith, inside))
no_commas (c ∷ ds) h = All-cons (λ c. is_comma c ≡ false) c ds (digit_is_no_comma c h.0) (no_commas ds h.1)

no_blanks : (ds : List ℕ) → AllDigits 10 ds → AllPass no_blank ds
no_blanks [] h = λ k d inside. absurd (omega (arith, inside))
no_blanks (c ∷ ds) h = All-cons (λ c. IsTrue (no_blank c)) c ds (digit_is_no_blank c h.0) (no_blanks ds h.1)

unblanked : (v : List ℕ) → AllPass no_blank v → without_blanks v ≡ v
unblanked [] h = refl
unblanked (b ∷ v) h = by_test (is_blank b) refl (All-head (λ x. IsTrue (no_blank x)) b v h)
  where
    by_test : (t : Bool) → is_blank b ≡ t → IsTrue (no_blank b) → without_blanks (b ∷ v) ≡ b ∷ v
    by_test true e h = let wrong : not true ≡ true = subst (λ t. not t ≡ true) e h in cc
    by_test false e h = ap (λ t. cond t (without_blanks v) (b ∷ v)) e

untrimmed : (v : List ℕ) → AllPass no_blank v → trimmed v ≡ v
untrimmed v h =
    ap (λ l. reverse (without_blanks (reverse l))) (unblanked v h)
    ∙ ap reverse (unblanked (reverse v) (AllPass-reverse no_blank v h)) ∙ reverse-reverse v

-- digits are one element
pub one_element : (digits : List ℕ) → AllDigits 10 digits → elements digits ≡ digits ∷ []
one_element digits numbers =
    ap (map trimmed) (slice_split_none is_comma digits (no_commas digits numbers))
    ∙ ap (λ v. v ∷ []) (untrimmed digits (no_blanks digits numbers))

-- fields without the name give no elements
pub no_elements : (name : List ℕ) (fields : List Field) → has_field name fields ≡ false → elements_named name fields ≡ []
no_elements name [] h = refl
no_elements name (f ∷ fields) h =
    let parts = or_parts (is_named name f) (has_field name fields) h in
    ap (λ t. (if t then elements f.1 else []) ++ elements_named name fields) parts.0 ∙ no_elements name fields parts.1

-- fields without a Content-Length give none
pub no_lengths : (fields : List Field) → has_field (codes "content-length") fields ≡ false
    → elements_named (codes "content-length") fields ≡ []
no_lengths fields h = no_elements (codes "content-length") fields h

value_without_zeros : (ds : List ℕ) → digits_value 10 (without_zeros ds) ≡ digits_value 10 ds
value_without_zeros [] = refl
value_without_zeros (d ∷ ds) = by_test (d == 48) refl (value_without_zeros ds)
  where
    by_test : (t : Bool) → (d == 48) ≡ t → digits_value 10 (without_zeros ds) ≡ digits_value 10 ds
        → digits_value 10 (without_zeros (d ∷ ds)) ≡ digits_value 10 (d ∷ ds)
    by_test true e later =
        let zero : d ≡ 48 = eqb-true d 48 e in
        ap (λ t. digits_value 10 (cond t (without_zeros ds) (d ∷ ds))) e ∙ later
        ∙ ap (λ x. digits_value 10 (x ∷ ds)) (sym zero)
    by_test false e later = ap (λ t. digits_value 10 (cond t (without_zeros ds) (d ∷ ds))) e

some_number : (n : ℕ) → 0 < n → not (n == 0) ≡ true
some_number n some = grind (arith, nat_tests)

-- digits are one length
pub one_length : (digits : List ℕ) → 0 < length digits → AllDigits 10 digits
    → length_of (digits ∷ []) ≡ is (without_zeros digits)
one_length digits some numbers =
    let z = without_zeros digits in
    let number : is_digits digits ≡ true = and_from _ _ (some_number (length digits) some) (all_digits digits numbers) in
    let same : bytes_eq z z ≡ true = (bytes_eq-Decides z z).1 refl in
    let all : list_all (has_digits z) (digits ∷ []) ≡ true = and_from _ _ (and_from _ _ number same) refl in
    ap (λ t. if t then is z else wrong) all

-- the length of a body within the limit is read as this length
pub length_within_is : (most n : ℕ) → n < 2 ^ 64 → n ≤ most
    → number_within most (without_zeros (decimal n)) ≡ Some n
length_within_is most n small fits =
    let value : digits_value 10 (without_zeros (decimal n)) ≡ n =
    value_without_zeros (decimal n) ∙ (decimal_is_IsNumeral n small).1 in
    ap (λ m. if nat_le m most then Some m else None) value
    ∙ ap (λ t. if t then Some n else None) (le-leb n most fits)
