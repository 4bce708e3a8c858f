-- Heads are read as they are written.
use Rattle.std.proofs.Common.{◌≡◌, ℕ, ◌<◌, ◌≤◌, Bool, true, not, IsTrue, List, ◌∷◌, ◌++◌, length, [], map, refl, ap, ap₂, sym, ◌∙◌, arith, append_assoc, subst, Some}
use Rattle.std.specs.Prelude.{codes, flat_map, All, IsUtf8}
use Rattle.std.specs.Char.{is_ascii_alphanumeric, is_ascii_digit}
use Rattle.std.specs.Fmt.{decimal}
use Rattle.std.specs.List.{list_all}
use Rattle.std.specs.Str.Parse.{digits_value}
use Rattle.std.proofs.lemmas.Bool.{and_parts, or_left}
use Rattle.std.proofs.lemmas.Bool.Decides.{nat_tests}
use Rattle.std.proofs.lemmas.List.Elements.{All-cons}
use Rattle.std.proofs.lemmas.List.Sums.{AllPass-from_list_all}
use Rattle.httparse.specs.Ascii.{crlf_bytes}
use Rattle.httparse.specs.Grammar as grammar
use Rattle.httparse.specs.Grammar.{AllPass, IsToken, crlf, is_token_byte, is_uri_byte, is_value_byte, print_request, print_response}
use Rattle.bg_http.specs.Codings.{is_empty}
use Rattle.bg_http.specs.Elements.{Field}
use Rattle.bg_http.specs.Texts.{field_line}
use Rattle.bg_http.specs.declared.request.RequestHead.{RequestHead}
use Rattle.bg_http.specs.declared.response.ResponseHead.{ResponseHead}
use Rattle.bg_http.specs.declared.response_fault.ResponseFault.{ResponseFault}
use Rattle.bg_http.specs.declared.response_fault.ResponseFault.TheVariants as fault
use Rattle.bg_http_read.specs.Heads.{HeadGrammar, HeadLaws, request_heads, response_heads}
use Rattle.bg_http_read.specs.PlainHeads.{HasOneHead, HasPlainRequestFields, HasPlainResponseFields, IsPlainField, IsPlainOfWords, IsReadOnlyAs, IsReadWithFields, IsResponseReadWithFields, NeverHasHeadAt, request_lines, request_with, response_lines, response_with}
use Rattle.bg_http_read.specs.declared.message_fault.MessageFault.TheVariants as message_fault
use Rattle.bg_http_read.proofs.FieldTexts.{as_field, goods_are_fields, goods_are_read, lines_are, no_ows, reads_are_good, solid}
use Rattle.bg_http_read.proofs.HeadsFound.{head_fails_more, head_more, not_large, not_malformed, one_head, request_laws, response_laws}
use Rattle.bg_http_read.proofs.WrittenResponses.{passed_digits, three_digits}

-- ---- the fields of a head that was read

pub request_fields_plain : (input : List ℕ) (head : RequestHead) (rest : List ℕ) → HasPlainRequestFields input head rest
request_fields_plain input head rest h =
    subst (All IsPlainField) (sym (ap (λ t. t.fields) h.head_is)) (reads_are_good h.tree.fields h.reads.0.fields)

pub response_fields_plain : (input : List ℕ) (head : ResponseHead) (rest : List ℕ) → HasPlainResponseFields input head rest
response_fields_plain input head rest h =
    subst (All IsPlainField) (sym (ap (λ t. t.fields) h.head_is)) (reads_are_good h.tree.fields h.reads.0.fields)

-- ---- the fields that are written

letter_is_token : (b : ℕ) → is_ascii_alphanumeric b ≡ true → is_token_byte b ≡ true
unfolding is_token_byte
letter_is_token b h = or_left (is_ascii_alphanumeric b) _ h

letter_is_value : (b : ℕ) → is_ascii_alphanumeric b ≡ true → is_value_byte b ≡ true
letter_is_value b h = grind (arith, nat_tests)

letter_is_solid : (b : ℕ) → is_ascii_alphanumeric b ≡ true → no_ows b ≡ true
letter_is_solid b h = grind (arith, nat_tests)

-- letters pass a test that each letter passes
letters_pass : (test : ℕ → Bool) → ((b : ℕ) → is_ascii_alphanumeric b ≡ true → test b ≡ true) → (bytes : List ℕ)
    → list_all is_ascii_alphanumeric bytes ≡ true → AllPass test bytes
letters_pass test each [] all = AllPass-from_list_all test [] refl
letters_pass test each (b ∷ bytes) all =
    let parts = and_parts (is_ascii_alphanumeric b) (list_all is_ascii_alphanumeric bytes) all in
    All-cons (λ x. IsTrue (test x)) b bytes (each b parts.0) (letters_pass test each bytes parts.1)

not_empty : (bytes : List ℕ) → not (is_empty bytes) ≡ true → 0 < length bytes
not_empty [] h = cc
not_empty (b ∷ bytes) h = omega arith

pub words_plain : (name value : List ℕ) → IsPlainOfWords name value
words_plain name value word other =
    let named = and_parts (not (is_empty name)) (list_all is_ascii_alphanumeric name) word in
    let all = (and_parts (not (is_empty value)) (list_all is_ascii_alphanumeric value) other).1 in
    solid name value (not_empty name named.0, letters_pass is_token_byte letter_is_token name named.1)
    (letters_pass is_value_byte letter_is_value value all) (letters_pass no_ows letter_is_solid value all)

-- ---- a head with plain fields

-- bytes that are read as a head are read as no other
only_as : {Head : Type 0} (heads : HeadGrammar Head) (laws : HeadLaws heads) (bytes : List ℕ) (head : Head) (rest : List ℕ)
    → (tree : heads.Tree) × heads.Reads bytes tree rest × (heads.parts tree ≡ head) → IsReadOnlyAs heads bytes head rest
only_as heads laws bytes head rest found = (
  found,
  λ tree left reads.
      let same = laws.one bytes tree found.0 left rest reads found.1 in
      (ap heads.parts same.0 ∙ found.2, same.1),
)

abbrev request_tree : RequestHead → List Field → grammar.RequestHead
request_tree head fields = record {
  blank = [];
  method = head.method;
  target = head.target;
  minor = 1;
  line_end = crlf;
  fields = map as_field fields;
  last = crlf;
}

regroup_request : (m a t c f e : List ℕ)
    → m ++ a ++ t ++ (a ++ c ++ e) ++ f ++ e ≡ m ++ (a ++ t) ++ (a ++ c) ++ e ++ (f ++ e)
regroup_request m a t c f e = simp append_assoc

request_text_is : (head : RequestHead) (fields : List Field)
    → request_lines (request_with head fields) ≡ print_request (request_tree head fields)
unfolding print_request
request_text_is head fields =
    regroup_request head.method (32 ∷ []) head.target (codes "HTTP/1.1") (flat_map field_line fields) crlf_bytes
    ∙ ap (λ l. head.method ++ 32 ∷ head.target ++ 32 ∷ codes "HTTP/1.1" ++ crlf_bytes ++ (l ++ crlf_bytes)) (sym (lines_are fields))

pub request_is_read : (input : List ℕ) (head : RequestHead) (rest : List ℕ) (fields : List Field) (more : List ℕ)
    → IsReadWithFields input head rest fields more
request_is_read input head rest fields more h plain =
    let method : head.method ≡ h.tree.method = ap (λ t. t.method) h.head_is in
    let target : head.target ≡ h.tree.target = ap (λ t. t.target) h.head_is in
    only_as request_heads request_laws (request_lines (request_with head fields) ++ more) (request_with head fields) more (
      request_tree head fields,
      (
        record {
          method = subst IsToken (sym method) h.reads.0.method;
          target = subst (λ l. (0 < length l) × AllPass is_uri_byte l) (sym target) h.reads.0.target;
          target_text = subst IsUtf8 (sym target) h.reads.0.target_text;
          minor = omega arith;
          fields = goods_are_fields fields plain;
        },
        ap (λ l. l ++ more) (request_text_is head fields),
      ),
      ap (request_with head) (goods_are_read fields plain),
    )

abbrev response_tree : ResponseHead → List Field → grammar.ResponseHead
response_tree head fields = record {
  blank = [];
  minor = 1;
  digits = decimal head.code;
  reason = Some head.reason;
  line_end = crlf;
  fields = map as_field fields;
  last = crlf;
}

regroup_response : (v s d r e f : List ℕ)
    → (v ++ s) ++ d ++ s ++ r ++ e ++ f ++ e ≡ v ++ (s ++ d) ++ (s ++ r) ++ e ++ (f ++ e)
regroup_response v s d r e f = simp append_assoc

response_text_is : (head : ResponseHead) (fields : List Field)
    → response_lines (response_with head fields) ≡ print_response (response_tree head fields)
unfolding print_response
response_text_is head fields =
    regroup_response (codes "HTTP/1.1") (32 ∷ []) (decimal head.code) head.reason crlf_bytes (flat_map field_line fields)
    ∙ ap (λ l. codes "HTTP/1.1" ++ 32 ∷ decimal head.code ++ 32 ∷ head.reason ++ crlf_bytes ++ (l ++ crlf_bytes))
    (sym (lines_are fields))

pub response_is_read : (input : List ℕ) (head : ResponseHead) (rest : List ℕ) (fields : List Field) (more : List ℕ)
    → IsResponseReadWithFields input head rest fields more
response_is_read input head rest fields more h high plain =
    let code : head.code ≡ digits_value 10 h.tree.digits = ap (λ t. t.code) h.head_is in
    let reason : head.reason ≡ grammar.reason_phrase h.tree.reason = ap (λ t. t.reason) h.head_is in
    let same : decimal head.code ≡ h.tree.digits =
    ap decimal code
    ∙ three_digits h.tree.digits h.reads.0.digits.0 (passed_digits h.tree.digits h.reads.0.digits.1)
    (subst (λ n. 100 ≤ n) code high) in
    only_as response_heads response_laws (response_lines (response_with head fields) ++ more) (response_with head fields) more (
      response_tree head fields,
      (
        record {
          minor = omega arith;
          digits = subst (λ d. (length d ≡ 3) × AllPass is_ascii_digit d) (sym same) h.reads.0.digits;
          reason = subst (AllPass is_value_byte) (sym reason) h.reads.0.reason;
          fields = goods_are_fields fields plain;
        },
        ap (λ l. l ++ more) (response_text_is head fields),
      ),
      ap₂ (head_of head) (ap (digits_value 10) same ∙ sym code) (goods_are_read fields plain),
    )
  where
    head_of : ResponseHead → ℕ → List Field → ResponseHead
    head_of head code fields = record { minor = 1; code = code; reason = head.reason; fields = fields }

-- ---- one head

pub one_response_head : (input more : List ℕ) (head other : ResponseHead) (rest left : List ℕ)
    → HasOneHead input more head other rest left
one_response_head input more head other rest left h k =
    one_head response_heads response_laws (input ++ more) other head left (rest ++ more) k
    (head_more response_heads response_laws input more head rest h)

pub no_response_head : (input more : List ℕ) (named : ResponseFault) (head : ResponseHead) (rest : List ℕ)
    → NeverHasHeadAt input more named head rest
no_response_head input more fault.ReadFailed head rest h e k = cc
no_response_head input more fault.HeadTooLarge head rest h e k =
    not_large response_heads response_laws (input ++ more) head rest k
    (head_fails_more response_heads response_laws input more message_fault.HeadTooLarge h)
no_response_head input more fault.Bad head rest h e k =
    not_malformed response_heads response_laws (input ++ more) head rest k
    (head_fails_more response_heads response_laws input more message_fault.Bad h)
no_response_head input more fault.TooLarge head rest h e k = cc
no_response_head input more fault.Closed head rest h e k = cc
no_response_head input more fault.OutOfMemory head rest h e k = cc
