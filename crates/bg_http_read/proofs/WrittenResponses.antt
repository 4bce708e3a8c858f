-- A response that was read, and a refusal, are read as they are written.
use Rattle.std.proofs.Common.{◌≡◌, ◌⊎◌, inl, inr, ℕ, ◌<◌, ◌≤◌, Bool, true, false, not, ◌&&◌, ◌||◌, ◌==◌, IsFalse, IsTrue, List, [], ◌∷◌, length, refl, ap, sym, ◌∙◌, arith, subst, Option, Some, None, Ok, Err}
use Rattle.std.specs.Prelude.{codes, All, nat_le, nat_lt, if◌then◌else◌}
use Rattle.std.specs.Char.{digit_value, is_ascii_digit}
use Rattle.std.specs.Fmt.{decimal}
use Rattle.std.specs.List.{list_all}
use Rattle.std.specs.Str.Parse.{AllDigits, digits_value}
use Rattle.std.proofs.lemmas.Bool.{and_parts, eqb-true}
use Rattle.std.proofs.lemmas.Bool.Decides.{nat_tests}
use Rattle.std.proofs.lemmas.Fmt.{decimal-digits_value, decimal_digit, decimal_is_IsNumeral}
use Rattle.std.proofs.lemmas.List.Elements.{All-head, All-tail}
use Rattle.std.proofs.lemmas.List.Sums.{AllPass-from_list_all}
use Rattle.std.proofs.lemmas.Str.Parse.{numerals_by_value, tells_digits}
use Rattle.httparse.specs.Grammar.{AllPass, is_value_byte}
use Rattle.bg_http.specs.Codings.{codings}
use Rattle.bg_http.specs.Elements.{elements_named, has_field}
use Rattle.bg_http.specs.Lengths.{Length, absent, content_length, has_digits, is, is_digits, length_of, number_within, without_zeros, wrong}
use Rattle.bg_http.specs.ResponseRules.{digits_or_zero, framing_by_codings, framing_by_length, has_no_body, is_bad_code, is_chunked_only, is_interim, length_told, or_too_large, response_framing_within, valid_length}
use Rattle.bg_http.specs.Statuses.{is_refusal}
use Rattle.bg_http.specs.Texts.{reason_of}
use Rattle.bg_http.specs.declared.request.Request.{Request}
use Rattle.bg_http.specs.declared.response.Response.{Response}
use Rattle.bg_http.specs.declared.response.ResponseHead.{ResponseHead}
use Rattle.bg_http.specs.declared.response_fault.ResponseFault.TheVariants as fault
use Rattle.bg_http.specs.declared.response_rules.ResponseFraming.{ResponseFraming}
use Rattle.bg_http.specs.declared.response_rules.ResponseFraming.TheVariants as framing
use Rattle.bg_http_read.specs.AnsweredRequests.{refusal}
use Rattle.bg_http_read.specs.Heads.{ReadsResponseHead}
use Rattle.bg_http_read.specs.Responses.{IsResponse, ReadsResponse, ReadsResponseBody, length_of_response, most_response_body, names_another}
use Rattle.bg_http_read.specs.WrittenHeads.{HasHeadOf, IsLengthOf}
use Rattle.bg_http_read.proofs.AnsweredHeads.{IsHeadWritable, IsNumber, IsTold, IsWritable}
use Rattle.bg_http_read.proofs.AnsweredRules.{framing_behind, framing_behind_within}
use Rattle.bg_http_read.proofs.DecimalTexts.{decimal_has_digits}
use Rattle.bg_http_read.specs.PlainHeads.{IsPlainField}
use Rattle.bg_http_read.proofs.FieldTexts.{nothing_good, reads_are_good}

-- ---- digits

digit_is_small : (c : ℕ) → is_ascii_digit c ≡ true → digit_value c < 10
digit_is_small c e = grind (arith, nat_tests)

digits_in : (ds : List ℕ) → list_all is_ascii_digit ds ≡ true → AllDigits 10 ds
digits_in [] h = tt
digits_in (c ∷ ds) h =
    let parts = and_parts (is_ascii_digit c) (list_all is_ascii_digit ds) h in
    (digit_is_small c parts.0, digits_in ds parts.1)

pub passed_digits : (ds : List ℕ) → AllPass is_ascii_digit ds → AllDigits 10 ds
passed_digits [] h = tt
passed_digits (c ∷ ds) h =
    (digit_is_small c (All-head (λ b. IsTrue (is_ascii_digit b)) c ds h), passed_digits ds (All-tail (λ b. IsTrue (is_ascii_digit b)) c ds h))

-- three digits of a number of at least 200 are what is written for it
pub three_digits : (ds : List ℕ) → length ds ≡ 3 → AllDigits 10 ds → 100 ≤ digits_value 10 ds
    → decimal (digits_value 10 ds) ≡ ds
three_digits [] e d high = absurd (omega (arith, e))
three_digits (a ∷ []) e d high = absurd (omega (arith, e))
three_digits (a ∷ b ∷ []) e d high = absurd (omega (arith, e))
three_digits (a ∷ b ∷ c ∷ []) e (da, (db, (dc, end))) high =
    decimal-digits_value (numerals_by_value (AllDigits 10) tells_digits) (a ∷ b ∷ c ∷ []) (da, (db, (dc, end))) (omega arith)
    (λ zero. let none : digit_value a ≡ digit_value 48 = ap digit_value zero in absurd (omega (arith, none, db, dc, high)))
    (omega (arith, da, db, dc))
three_digits (a ∷ b ∷ c ∷ f ∷ ds) e d high = absurd (omega (arith, e))

-- ---- a length that is told

abbrev pub IsCanonical : List ℕ → Type 0
IsCanonical digits =
    (0 < length (digits_or_zero digits)) × AllDigits 10 (digits_or_zero digits)
    × (digits_or_zero (without_zeros (digits_or_zero digits)) ≡ digits_or_zero digits)

canonical : (ds : List ℕ) → list_all is_ascii_digit ds ≡ true → IsCanonical (without_zeros ds)
canonical [] h = (omega arith, (digit_is_small 48 refl, tt), refl)
canonical (d ∷ ds) h =
    by_test (d == 48) refl (canonical ds (and_parts (is_ascii_digit d) (list_all is_ascii_digit ds) h).1)
  where
    by_test : (t : Bool) → (d == 48) ≡ t → IsCanonical (without_zeros ds) → IsCanonical (without_zeros (d ∷ ds))
    by_test true e later =
        subst (λ t. IsCanonical (if t then without_zeros ds else d ∷ ds)) (sym e) later
    by_test false e later =
        subst (λ t. IsCanonical (if t then without_zeros ds else d ∷ ds)) (sym e) (
          omega arith,
          digits_in (d ∷ ds) h,
          ap (λ t. digits_or_zero (if t then without_zeros ds else d ∷ ds)) e,
        )

given_canonical : (es : List (List ℕ))
    → IsNumber (valid_length (length_of es)) × IsTold (valid_length (length_of es))
given_canonical [] = (tt, tt)
given_canonical (e ∷ more) = by_test (list_all (has_digits (without_zeros e)) (e ∷ more)) refl
  where
    by_test : (t : Bool) → list_all (has_digits (without_zeros e)) (e ∷ more) ≡ t
        → IsNumber (valid_length (length_of (e ∷ more))) × IsTold (valid_length (length_of (e ∷ more)))
    by_test true all =
        let first = and_parts (has_digits (without_zeros e) e) (list_all (has_digits (without_zeros e)) more) all in
        let number = and_parts (is_digits e) _ first.0 in
        let digits = and_parts (not (length e == 0)) (list_all is_ascii_digit e) number.0 in
        let found = canonical e digits.1 in
        subst (λ t. IsNumber (valid_length (if t then is (without_zeros e) else wrong))
        × IsTold (valid_length (if t then is (without_zeros e) else wrong))) (sym all)
        ((found.0, found.1), found.2)
    by_test false none =
        subst (λ t. IsNumber (valid_length (if t then is (without_zeros e) else wrong))
        × IsTold (valid_length (if t then is (without_zeros e) else wrong))) (sym none) (tt, tt)

told_canonical : (head : ResponseHead) → IsNumber (length_told head) × IsTold (length_told head)
told_canonical head = by_test ((head.code == 204) || has_field (codes "transfer-encoding") head.fields)
  where
    by_test : (t : Bool)
        → IsNumber (if t then None else valid_length (content_length head.fields))
        × IsTold (if t then None else valid_length (content_length head.fields))
    by_test true = (tt, tt)
    by_test false = given_canonical (elements_named (codes "content-length") head.fields)

-- ---- how a response was judged

pub judged_code : (most : ℕ) (request : Request) (head : ResponseHead) (named : ResponseFraming)
    → response_framing_within most request head ≡ Ok named → IsFalse (names_another named)
    → (is_bad_code head.code ≡ false) × (is_interim head.code ≡ false)
    × (framing_behind_within most head (has_no_body request head.code) ≡ Ok named)
judged_code most request head named judged last = by_tests (is_bad_code head.code) refl (is_interim head.code) refl judged
  where
    another : IsFalse true → ⊥
    another e = cc

    by_tests : (bad : Bool) → is_bad_code head.code ≡ bad → (interim : Bool) → is_interim head.code ≡ interim
        → (if bad then Err fault.Bad else (if interim then Ok framing.Interim
        else framing_behind_within most head (has_no_body request head.code))) ≡ Ok named
        → (is_bad_code head.code ≡ false) × (is_interim head.code ≡ false)
        × (framing_behind_within most head (has_no_body request head.code) ≡ Ok named)
    by_tests true b interim i e = cc
    by_tests false b true i e =
        let same : named ≡ framing.Interim = cc in
        absurd (another (subst (λ n. IsFalse (names_another n)) same last))
    by_tests false b false i e = (b, i, e)

-- the framing of a body that is there
length_is_within : (given : Length) (size : ℕ) → framing_by_length given ≡ Ok (framing.Length size) → size ≤ most_response_body
length_is_within absent size e = cc
length_is_within (is digits) size e = by_test (nat_le (digits_value 10 digits) most_response_body) refl e
  where
    by_test : (t : Bool) → nat_le (digits_value 10 digits) most_response_body ≡ t
        → or_too_large (if t then Some (digits_value 10 digits) else None) ≡ Ok (framing.Length size) → size ≤ most_response_body
    by_test true small e =
        let same : digits_value 10 digits ≡ size = cc in
        let fits : digits_value 10 digits ≤ most_response_body = grind (arith, nat_tests) in
        subst (λ n. n ≤ most_response_body) same fits
    by_test false small e = cc
length_is_within wrong size e = cc

never_none : (given : Length) → framing_by_length given ≡ Ok framing.NoBody → ⊥
never_none absent e = cc
never_none (is digits) e = by_number (number_within most_response_body digits) e
  where
    by_number : (found : Option ℕ) → or_too_large found ≡ Ok framing.NoBody → ⊥
    by_number None e = cc
    by_number (Some size) e = cc
never_none wrong e = cc

-- a coding gives chunks or a fault
coded : (head : ResponseHead) (named : ResponseFraming) → framing_by_codings head ≡ Ok named → named ≡ framing.Chunks
coded head named e = by_test (not (head.minor == 0) && is_chunked_only (codings head.fields)) e
  where
    by_test : (t : Bool) → (if t then Ok framing.Chunks else Err fault.Bad) ≡ Ok named → named ≡ framing.Chunks
    by_test true e = cc
    by_test false e = cc

sized_size : (head : ResponseHead) (size : ℕ) → framing_behind head false ≡ Ok (framing.Length size) → size ≤ most_response_body
sized_size head size e = by_test (has_field (codes "transfer-encoding") head.fields) e
  where
    by_test : (t : Bool)
        → (if t then framing_by_codings head else framing_by_length (content_length head.fields)) ≡ Ok (framing.Length size)
        → size ≤ most_response_body
    by_test true e = let same = coded head (framing.Length size) e in cc
    by_test false e = length_is_within (content_length head.fields) size e

sized_some : (head : ResponseHead) → framing_behind head false ≡ Ok framing.NoBody → ⊥
sized_some head e = by_test (has_field (codes "transfer-encoding") head.fields) e
  where
    by_test : (t : Bool)
        → (if t then framing_by_codings head else framing_by_length (content_length head.fields)) ≡ Ok framing.NoBody → ⊥
    by_test true e = let same = coded head framing.NoBody e in cc
    by_test false e = never_none (content_length head.fields) e

body_sized : (head : ResponseHead) (named : ResponseFraming) (after body rest : List ℕ) (given : Option (List ℕ))
    → framing_behind head false ≡ Ok named → ReadsResponseBody named after body rest
    → given ≡ length_of_response named head body
    → (given ≡ Some (decimal (length body))) × (length body ≤ most_response_body)
body_sized head framing.Interim after body rest given e reads given_is = absurd reads
body_sized head framing.NoBody after body rest given e reads given_is = absurd (sized_some head e)
body_sized head framing.Chunks after body rest given e reads given_is = (given_is, reads.1)
body_sized head (framing.Length size) after body rest given e reads given_is =
    let fits = sized_size head size e in
    (given_is, omega (arith, reads.0, fits))
body_sized head framing.ToTheEnd after body rest given e reads given_is = (given_is, reads.2)

no_content : (a b c : Bool) → b ≡ true → (a || b || c) ≡ true
no_content true b c e = refl
no_content false true c e = refl
no_content false false c e = cc

-- ---- a response that was read

-- the head of a response that was read
pub came_is_writable : (request : Request) (response : Response) → HasHeadOf request response → IsNumber response.length
    → IsHeadWritable response
came_is_writable request response h number = record {
  digits = subst (λ d. (length d ≡ 3) × AllPass is_ascii_digit d) (sym same) reads.reads.0.digits;
  value = ap (digits_value 10) same ∙ sym code;
  reason = subst (AllPass is_value_byte) (sym (h.reason_is ∙ ap (λ t. t.reason) reads.head_is)) reads.reads.0.reason;
  fields = subst (All IsPlainField) (sym (h.fields_are ∙ ap (λ t. t.fields) reads.head_is)) (reads_are_good reads.tree.fields reads.reads.0.fields);
  number = number;
}
  where
    reads : ReadsResponseHead h.came.after h.head h.after
    reads = h.came.holds.0.reads

    judged : (is_bad_code h.head.code ≡ false) × (is_interim h.head.code ≡ false)
        × (framing_behind_within h.most h.head (has_no_body request h.head.code) ≡ Ok h.named)
    judged = judged_code h.most request h.head h.named h.came.holds.0.judged h.came.holds.1

    code : response.code ≡ digits_value 10 reads.tree.digits
    code = h.code_is ∙ ap (λ t. t.code) reads.head_is

    high : 200 ≤ digits_value 10 reads.tree.digits
    high =
        let late : nat_lt (digits_value 10 reads.tree.digits) 200 ≡ false =
        subst (λ c. is_interim c ≡ false) (ap (λ t. t.code) reads.head_is) judged.1 in
        grind (arith, nat_tests)

    same : decimal response.code ≡ reads.tree.digits
    same =
        ap decimal code
        ∙ three_digits reads.tree.digits reads.reads.0.digits.0 (passed_digits reads.tree.digits reads.reads.0.digits.1) (omega (arith, high))

-- the length that is told is a number
none_or : (given other : Option (List ℕ)) → (given ≡ None) ⊎ (given ≡ other) → IsNumber other → IsNumber given
none_or given other (inl none) number = subst IsNumber (sym none) tt
none_or given other (inr same) number = subst IsNumber (sym same) number

pub length_is_number : (named : ResponseFraming) (head : ResponseHead) (given : Option (List ℕ))
    → IsLengthOf named head given → IsNumber given
length_is_number (framing.Length size) head given told = none_or given (Some (decimal size)) told (decimal_has_digits size)
length_is_number framing.Interim head given told = none_or given (length_told head) told (told_canonical head).0
length_is_number framing.NoBody head given told = none_or given (length_told head) told (told_canonical head).0
length_is_number framing.Chunks head given told = none_or given (length_told head) told (told_canonical head).0
length_is_number framing.ToTheEnd head given told = none_or given (length_told head) told (told_canonical head).0

pub received_is_writable : (request : Request) (response : Response) (input : List ℕ)
    → ReadsResponse request response input → IsWritable request response
received_is_writable request response input (rest, h) = record {
  digits = written.digits;
  value = written.value;
  reason = written.reason;
  fields = written.fields;
  sound = subst (λ c. is_bad_code c ≡ false) (sym of.code_is) judged.0;
  final = subst (λ c. is_interim c ≡ false) (sym of.code_is) judged.1;
  number = written.number;
  empty = λ e. (subst (λ n. ReadsResponseBody n after response.body rest) (none e) of.body).0;
  told = λ e. subst IsTold (sym (length_none e)) (told_canonical head).1;
  untold = λ e. length_none (no_content _ (response.code == 204) _ e)
      ∙ ap (λ t. if t || has_field (codes "transfer-encoding") head.fields then None else valid_length (content_length head.fields))
      (ap (λ c. c == 204) (sym of.code_is) ∙ e);
  sized = sized;
}
  where
    head : ResponseHead
    head = h.holds.0

    named : ResponseFraming
    named = h.holds.1

    after : List ℕ
    after = h.holds.2

    of : IsResponse response head named after rest
    of = h.holds.4

    judged : (is_bad_code head.code ≡ false) × (is_interim head.code ≡ false)
        × (framing_behind head (has_no_body request head.code) ≡ Ok named)
    judged = judged_code most_response_body request head named h.holds.3.0.judged h.holds.3.1

    behind : framing_behind head (has_no_body request response.code) ≡ Ok named
    behind = subst (λ c. framing_behind head (has_no_body request c) ≡ Ok named) (sym of.code_is) judged.2

    none : has_no_body request response.code ≡ true → named ≡ framing.NoBody
    none e =
        let both : Ok framing.NoBody ≡ Ok named = subst (λ t. framing_behind head t ≡ Ok named) e behind in
        cc

    length_none : has_no_body request response.code ≡ true → response.length ≡ length_told head
    length_none e = subst (λ n. response.length ≡ length_of_response n head response.body) (none e) of.length_is

    sized : has_no_body request response.code ≡ false
        → (response.length ≡ Some (decimal (length response.body))) × (length response.body ≤ most_response_body)
    sized e =
        body_sized head named after response.body rest response.length
        (subst (λ t. framing_behind head t ≡ Ok named) e behind) of.body of.length_is

    number : (t : Bool) → has_no_body request response.code ≡ t → IsNumber response.length
    number true e = subst IsNumber (sym (length_none e)) (told_canonical head).0
    number false e =
        let size = sized e in
        subst IsNumber (sym size.0) (decimal_is_IsNumeral (length response.body) (omega (arith, size.1))).0

    written : IsHeadWritable response
    written =
        came_is_writable request response (record {
          most = most_response_body;
          input = input;
          head = head;
          named = named;
          after = after;
          came = record { count = h.count; few = h.few; after = h.after; skips = h.skips; holds = h.holds.3 };
          code_is = of.code_is;
          reason_is = of.reason_is;
          fields_are = of.fields_are;
        }) (number (has_no_body request response.code) refl)

-- ---- a refusal

refusal_with : (request : Request) (status : ℕ) (text : List ℕ) → length text ≡ 3
    → list_all is_ascii_digit text ≡ true → digits_value 10 text ≡ status
    → list_all is_value_byte (reason_of status) ≡ true → is_bad_code status ≡ false
    → is_interim status ≡ false → (status == 204) ≡ false → IsWritable request (refusal status)
refusal_with request status text three digits value reason sound final content = record {
  digits = subst (λ d. (length d ≡ 3) × AllPass is_ascii_digit d) (sym same)
      (three, AllPass-from_list_all is_ascii_digit text digits);
  value = ap (digits_value 10) same ∙ value;
  reason = AllPass-from_list_all is_value_byte (reason_of status) reason;
  fields = nothing_good;
  sound = sound;
  final = final;
  number = (omega arith, (digit_is_small 48 refl, tt));
  empty = λ e. refl;
  told = λ e. refl;
  untold = λ e. let both : true ≡ false = sym e ∙ content in cc;
  sized = λ e. (ap Some (sym (decimal_digit 0 (omega arith))), omega arith);
}
  where
    high : 200 ≤ digits_value 10 text
    high =
        let late : nat_lt (digits_value 10 text) 200 ≡ false = subst (λ c. is_interim c ≡ false) (sym value) final in
        grind (arith, nat_tests)

    same : decimal status ≡ text
    same = ap decimal (sym value) ∙ three_digits text three (digits_in text digits) (omega (arith, high))

-- what holds of each status of a refusal
pub by_status : (P : ℕ → Type 0) → P 400 → P 413 → P 431 → P 501 → P 502 → P 503 → (status : ℕ)
    → IsTrue (is_refusal status) → P status
by_status P bad large many undone gateway away status refuses =
    by_tests (status == 400) refl (status == 413) refl (status == 431) refl (status == 501) refl (status == 502) refl (status == 503) refl refuses
  where
    at : (code : ℕ) → (status == code) ≡ true → P code → P status
    at code e h = subst P (sym (eqb-true status code e)) h

    by_tests : (a : Bool) → (status == 400) ≡ a → (b : Bool) → (status == 413) ≡ b → (c : Bool) → (status == 431) ≡ c
        → (d : Bool) → (status == 501) ≡ d → (e : Bool) → (status == 502) ≡ e → (f : Bool) → (status == 503) ≡ f
        → (a || b || c || d || e || f) ≡ true → P status
    by_tests true ia b ib c ic d id e ie f ig some = at 400 ia bad
    by_tests false ia true ib c ic d id e ie f ig some = at 413 ib large
    by_tests false ia false ib true ic d id e ie f ig some = at 431 ic many
    by_tests false ia false ib false ic true id e ie f ig some = at 501 id undone
    by_tests false ia false ib false ic false id true ie f ig some = at 502 ie gateway
    by_tests false ia false ib false ic false id false ie true ig some = at 503 ig away
    by_tests false ia false ib false ic false id false ie false ig some = cc

pub refusal_is_writable : (request : Request) (status : ℕ) → IsTrue (is_refusal status)
    → IsWritable request (refusal status)
refusal_is_writable request =
    by_status (λ status. IsWritable request (refusal status))
    (refusal_with request 400 (codes "400") refl refl refl refl refl refl refl)
    (refusal_with request 413 (codes "413") refl refl refl refl refl refl refl)
    (refusal_with request 431 (codes "431") refl refl refl refl refl refl refl)
    (refusal_with request 501 (codes "501") refl refl refl refl refl refl refl)
    (refusal_with request 502 (codes "502") refl refl refl refl refl refl refl)
    (refusal_with request 503 (codes "503") refl refl refl refl refl refl refl)
