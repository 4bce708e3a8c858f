-- Fields that are read as they are written.
use Rattle.std.proofs.Common.{◌≡◌, ℕ, ◌<◌, ◌≤◌, ◌^◌, Bool, true, false, not, IsTrue, List, [], ◌∷◌, ◌++◌, length, map, reverse, refl, ap, ap₂, sym, ◌∙◌, arith, subst, append_assoc}
use Rattle.std.specs.Prelude.{codes, flat_map, All}
use Rattle.std.specs.Fmt.{decimal}
use Rattle.std.specs.Char.{digit_value}
use Rattle.std.specs.List.{list_all}
use Rattle.std.specs.Str.Parse.{AllDigits}
use Rattle.std.proofs.lemmas.Bool.Decides.{nat_tests}
use Rattle.std.proofs.lemmas.Fmt.{decimal_is_IsNumeral}
use Rattle.std.proofs.lemmas.List.{reverse-append, reverse-reverse}
use Rattle.std.proofs.lemmas.List.Elements.{All-append, All-cons, All-head, All-map, All-tail}
use Rattle.std.proofs.lemmas.List.Sums.{AllPass-from_list_all}
use Rattle.httparse.specs.Ascii.{crlf_bytes, space}
use Rattle.httparse.specs.Grammar as grammar
use Rattle.httparse.specs.Grammar.{AllPass, IsField, IsToken, crlf, is_ows, is_token_byte, is_value_byte, print_field, skip_ows, trim_ows}
use Rattle.httparse.specs.Spans.{name_and_value}
use Rattle.httparse.proofs.TrimLemmas.{AllPass-reverse, AllPass-trim_ows, trim_ows_space}
use Rattle.bg_http.specs.Elements.{Field}
use Rattle.bg_http.specs.Texts.{field_line}
use Rattle.bg_http_read.specs.ForwardedRequests.{closing_fields}
use Rattle.bg_http_read.specs.PlainHeads.{IsPlainField}

-- a field's line as a tree
abbrev pub as_field : Field → grammar.Field
as_field f = record { name = f.0; raw = space ∷ f.1; end = crlf }

one_line_is : (f : Field) → print_field (as_field f) ≡ field_line f
one_line_is f = ap (λ l. l ++ crlf_bytes) (sym (append_assoc f.0 (58 ∷ 32 ∷ []) f.1))

pub lines_are : (fs : List Field) → flat_map print_field (map as_field fs) ≡ flat_map field_line fs
lines_are [] = refl
lines_are (f ∷ fs) = ap₂ (λ a b. a ++ b) (one_line_is f) (lines_are fs)

pub good_is_field : (f : Field) → IsPlainField f → IsField (as_field f)
good_is_field f h = record {
  name = h.name;
  raw = All-cons (λ b. IsTrue (is_value_byte b)) space f.1 refl h.value;
}

pub good_is_read : (f : Field) → IsPlainField f → name_and_value (as_field f) ≡ f
good_is_read f h = ap (λ v. (f.0, v)) (trim_ows_space f.1 h.front h.back)

pub goods_are_fields : (fs : List Field) → All IsPlainField fs → All IsField (map as_field fs)
goods_are_fields fs h =
    All-map IsField as_field fs (λ k d inside. good_is_field _ (h k d inside))

pub goods_are_read : (fs : List Field) → All IsPlainField fs → map name_and_value (map as_field fs) ≡ fs
goods_are_read [] h = refl
goods_are_read (f ∷ fs) h =
    ap₂ (λ x xs. x ∷ xs) (good_is_read f (All-head IsPlainField f fs h)) (goods_are_read fs (All-tail IsPlainField f fs h))

-- what has no white space at its front stays as it is
skip_twice : (v : List ℕ) → skip_ows (skip_ows v) ≡ skip_ows v
skip_twice [] = refl
skip_twice (b ∷ v) = by_test (is_ows b) refl (skip_twice v)
  where
    by_test : (t : Bool) → is_ows b ≡ t → skip_ows (skip_ows v) ≡ skip_ows v
        → skip_ows (skip_ows (b ∷ v)) ≡ skip_ows (b ∷ v)
    by_test true e later = rw e later
    by_test false e later = rw (e, e) refl

-- the white space that is skipped is a front
skipped : (v : List ℕ) → (front : List ℕ) × (v ≡ front ++ skip_ows v)
skipped [] = ([], refl)
skipped (b ∷ v) = by_test (is_ows b) refl (skipped v)
  where
    by_test : (t : Bool) → is_ows b ≡ t → (front : List ℕ) × (v ≡ front ++ skip_ows v)
        → (front : List ℕ) × (b ∷ v ≡ front ++ skip_ows (b ∷ v))
    by_test true e later = (b ∷ later.0, rw e (ap (λ l. b ∷ l) later.1))
    by_test false e later = ([], rw e refl)

length_skip : (v : List ℕ) → length (skip_ows v) ≤ length v
length_skip [] = omega arith
length_skip (b ∷ v) = by_test (is_ows b) refl (length_skip v)
  where
    by_test : (t : Bool) → is_ows b ≡ t → length (skip_ows v) ≤ length v
        → length (skip_ows (b ∷ v)) ≤ length (b ∷ v)
    by_test true e later = rw e (omega (arith, later))
    by_test false e later = rw e (omega arith)

-- a front of what begins with no white space begins with none
front_stays : (a b : List ℕ) → skip_ows (a ++ b) ≡ a ++ b → skip_ows a ≡ a
front_stays [] b h = refl
front_stays (x ∷ a) b h = by_test (is_ows x) refl h
  where
    by_test : (t : Bool) → is_ows x ≡ t → skip_ows (x ∷ (a ++ b)) ≡ x ∷ (a ++ b) → skip_ows (x ∷ a) ≡ x ∷ a
    by_test true e h =
        let same : skip_ows (a ++ b) ≡ x ∷ (a ++ b) = rw e at h in
        let short = length_skip (a ++ b) in
        absurd (omega (arith, short, ap length same))
    by_test false e h = rw e refl

pub trimmed_front : (v : List ℕ) → skip_ows (trim_ows v) ≡ trim_ows v
unfolding trim_ows
trimmed_front v =
    let a = skip_ows v in
    let parts = skipped (reverse a) in
    let whole : a ≡ reverse (skip_ows (reverse a)) ++ reverse parts.0 =
    sym (reverse-reverse a) ∙ ap reverse parts.1 ∙ reverse-append parts.0 (skip_ows (reverse a)) in
    front_stays (reverse (skip_ows (reverse a))) (reverse parts.0)
    (subst (λ l. skip_ows l ≡ l) whole (skip_twice v))

pub trimmed_back : (v : List ℕ) → skip_ows (reverse (trim_ows v)) ≡ reverse (trim_ows v)
unfolding trim_ows
trimmed_back v =
    let b = skip_ows (reverse (skip_ows v)) in
    subst (λ l. skip_ows l ≡ l) (sym (reverse-reverse b)) (skip_twice (reverse (skip_ows v)))

-- a field that was read is good
pub read_is_good : (t : grammar.Field) → IsField t → IsPlainField (name_and_value t)
read_is_good t h = record {
  name = h.name;
  value = AllPass-trim_ows is_value_byte t.raw h.raw;
  front = trimmed_front t.raw;
  back = trimmed_back t.raw;
}

pub reads_are_good : (ts : List grammar.Field) → All IsField ts → All IsPlainField (map name_and_value ts)
reads_are_good ts h = All-map IsPlainField name_and_value ts (λ k d inside. read_is_good _ (h k d inside))

-- bytes without white space
abbrev pub no_ows : ℕ → Bool
no_ows b = not (is_ows b)

unskipped : (v : List ℕ) → AllPass no_ows v → skip_ows v ≡ v
unskipped [] h = refl
unskipped (b ∷ v) h = by_test (is_ows b) refl (All-head (λ x. IsTrue (no_ows x)) b v h)
  where
    by_test : (t : Bool) → is_ows b ≡ t → IsTrue (no_ows b) → skip_ows (b ∷ v) ≡ b ∷ v
    by_test true e h = let wrong : not true ≡ true = subst (λ t. not t ≡ true) e h in cc
    by_test false e h = rw e refl

-- a value without white space
pub solid : (name v : List ℕ) → IsToken name → AllPass is_value_byte v → AllPass no_ows v → IsPlainField (name, v)
solid name v token value h = record {
  name = token;
  value = value;
  front = unskipped v h;
  back = unskipped (reverse v) (AllPass-reverse no_ows v h);
}

-- digits
digit_is_value : (c : ℕ) → digit_value c < 10 → is_value_byte c ≡ true
digit_is_value c small = grind (arith, nat_tests)

digit_is_solid : (c : ℕ) → digit_value c < 10 → no_ows c ≡ true
digit_is_solid c small = grind (arith, nat_tests)

digits_are_values : (ds : List ℕ) → AllDigits 10 ds → AllPass is_value_byte ds
digits_are_values [] h = AllPass-from_list_all is_value_byte [] refl
digits_are_values (c ∷ ds) h =
    All-cons (λ b. IsTrue (is_value_byte b)) c ds (digit_is_value c h.0) (digits_are_values ds h.1)

digits_are_solid : (ds : List ℕ) → AllDigits 10 ds → AllPass no_ows ds
digits_are_solid [] h = AllPass-from_list_all no_ows [] refl
digits_are_solid (c ∷ ds) h =
    All-cons (λ b. IsTrue (no_ows b)) c ds (digit_is_solid c h.0) (digits_are_solid ds h.1)

pub decimal_digits : (n : ℕ) → n < 2 ^ 64 → AllDigits 10 (decimal n)
decimal_digits n fits = (decimal_is_IsNumeral n fits).0.1

token : (name : List ℕ) → 0 < length name → list_all is_token_byte name ≡ true → IsToken name
token name some all = (some, AllPass-from_list_all is_token_byte name all)

-- a value of visible bytes and digits
pub good_number : (name front digits : List ℕ) → 0 < length name → list_all is_token_byte name ≡ true
    → list_all is_value_byte front ≡ true → list_all no_ows front ≡ true → AllDigits 10 digits
    → IsPlainField (name, front ++ digits)
good_number name front digits some all values solids numbers =
    solid name (front ++ digits) (token name some all)
    (All-append (λ b. IsTrue (is_value_byte b)) front digits (AllPass-from_list_all is_value_byte front values) (digits_are_values digits numbers))
    (All-append (λ b. IsTrue (no_ows b)) front digits (AllPass-from_list_all no_ows front solids) (digits_are_solid digits numbers))

pub good_length : (digits : List ℕ) → AllDigits 10 digits → IsPlainField (codes "Content-Length", digits)
unfolding is_token_byte
good_length digits numbers = good_number (codes "Content-Length") [] digits (omega arith) refl refl refl numbers

-- a value of visible bytes and spaces
pub good_text : (name value : List ℕ) → 0 < length name → list_all is_token_byte name ≡ true
    → list_all is_value_byte value ≡ true → skip_ows value ≡ value → skip_ows (reverse value) ≡ reverse value
    → IsPlainField (name, value)
good_text name value some all values front back = record {
  name = token name some all;
  value = AllPass-from_list_all is_value_byte value values;
  front = front;
  back = back;
}

pub nothing_good : All IsPlainField []
nothing_good = λ k d inside. absurd (omega (arith, inside))

pub one_good : (f : Field) → IsPlainField f → All IsPlainField (f ∷ [])
one_good f h = All-cons IsPlainField f [] h nothing_good

pub good_closing : (keeps : Bool) → All IsPlainField (closing_fields keeps)
unfolding is_token_byte
good_closing true = nothing_good
good_closing false =
    one_good (codes "Connection", codes "close")
    (good_text (codes "Connection") (codes "close") (omega arith) refl refl refl refl)
