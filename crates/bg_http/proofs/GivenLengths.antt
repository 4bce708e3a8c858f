-- The length that the elements of Content-Length fields give.
use Rattle.std.proofs.Common.{◌≡◌, ℕ, Bool, true, false, cond, ◌&&◌, List, [], ◌∷◌, refl, ap, sym, ◌∙◌}
use Rattle.std.specs.Prelude.{nat_eq}
use Rattle.std.specs.List.{list_all}
use Rattle.std.specs.Char.{is_ascii_digit}
use Rattle.std.proofs.lemmas.Bool.{and_parts}
use Rattle.bg_http.specs.Lengths.{is_digits, has_digits, without_zeros, Length, length_of, is, wrong}

-- the elements give one length if each is a number with the digits of the first
pub length_of_all : (elements more : List (List ℕ)) (first digits : List ℕ) (t : Bool) → elements ≡ first ∷ more → digits ≡ without_zeros first
    → t ≡ list_all (has_digits digits) elements → length_of elements ≡ cond t (is digits) wrong
length_of_all elements more first digits t e f g =
    let found : List ℕ → Length = λ d. cond (list_all (has_digits d) (first ∷ more)) (is d) wrong in
    ap length_of e ∙ ap found (sym f) ∙ ap (λ b. cond b (is digits) wrong) (sym (g ∙ ap (list_all (has_digits digits)) e))

-- a text of digits without its leading zeros is a text of digits
digits_without_zeros : (text : List ℕ) → list_all is_ascii_digit text ≡ true → list_all is_ascii_digit (without_zeros text) ≡ true
digits_without_zeros [] all = refl
digits_without_zeros (d ∷ ds) all = by_test (nat_eq d 48) (digits_without_zeros ds (and_parts (is_ascii_digit d) (list_all is_ascii_digit ds) all).1)
  where
    by_test : (t : Bool) → list_all is_ascii_digit (without_zeros ds) ≡ true → list_all is_ascii_digit (cond t (without_zeros ds) (d ∷ ds)) ≡ true
    by_test true below = below
    by_test false below = all

-- the length that the elements give consists of digits
pub length_has_digits : (elements : List (List ℕ)) (digits : List ℕ) → is digits ≡ length_of elements → list_all is_ascii_digit digits ≡ true
length_has_digits [] digits e = cc
length_has_digits (x ∷ es) digits e = by_test (has_digits (without_zeros x) x && list_all (has_digits (without_zeros x)) es) refl e
  where
    by_test : (t : Bool) → (has_digits (without_zeros x) x && list_all (has_digits (without_zeros x)) es) ≡ t → is digits ≡ cond t (is (without_zeros x)) wrong → list_all is_ascii_digit digits ≡ true
    by_test true holds f =
        let same : digits ≡ without_zeros x = cc in
        let here = (and_parts (has_digits (without_zeros x) x) _ holds).0 in
        let number = (and_parts (is_digits x) _ here).0 in
        let all = (and_parts _ (list_all is_ascii_digit x) number).1 in
        ap (list_all is_ascii_digit) same ∙ digits_without_zeros x all
    by_test false holds f = cc
