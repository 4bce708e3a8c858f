-- The head of an answer is read as it was written.
use Rattle.std.proofs.Common.{◌≡◌, ℕ, ◌<◌, ◌≤◌, Bool, true, false, not, ◌==◌, List, [], ◌∷◌, ◌++◌, length, map, refl, ap, ap₂, sym, ◌∙◌, arith, append_assoc, subst, Option, Some, None}
use Rattle.std.specs.Prelude.{codes, flat_map, All, ⊤}
use Rattle.std.specs.Char.{is_ascii_digit}
use Rattle.std.specs.Fmt.{decimal}
use Rattle.std.specs.Str.Parse.{AllDigits, digits_value}
use Rattle.std.proofs.lemmas.Grind.{flat_map-append}
use Rattle.std.proofs.lemmas.List.{append-nil}
use Rattle.std.proofs.lemmas.List.Elements.{All-append, All-filter}
use Rattle.httparse.specs.Ascii.{crlf_bytes}
use Rattle.httparse.specs.Grammar as grammar
use Rattle.httparse.specs.Grammar.{AllPass, crlf, is_token_byte, is_value_byte, print_field, print_response}
use Rattle.bg_http.specs.Elements.{Field}
use Rattle.bg_http.specs.Removed.{is_removed, kept_in_response}
use Rattle.bg_http.specs.ResponseRules.{digits_or_zero, has_no_body, is_bad_code, is_interim}
use Rattle.bg_http.specs.Lengths.{without_zeros}
use Rattle.bg_http.specs.Texts.{body_end_line, body_sent, field_line, length_line, response_head_text, response_text, status_line}
use Rattle.bg_http.specs.declared.body_end.BodyEnd.{BodyEnd}
use Rattle.bg_http.specs.declared.body_end.BodyEnd.TheVariants as ends
use Rattle.bg_http.specs.declared.request.Request.{Request}
use Rattle.bg_http.specs.declared.response.Response.{Response}
use Rattle.bg_http.specs.declared.response.ResponseHead.{ResponseHead}
use Rattle.bg_http_read.specs.AnsweredRequests.{length_fields}
use Rattle.bg_http_read.specs.ForwardedRequests.{closing_fields}
use Rattle.bg_http_read.specs.Heads.{response_parts}
use Rattle.bg_http_read.specs.Responses.{most_response_body}
use Rattle.bg_http_read.specs.WrittenHeads.{end_fields, written_fields, written_head}
use Rattle.bg_http_read.specs.PlainHeads.{IsPlainField}
use Rattle.bg_http_read.proofs.FieldTexts.{as_field, good_closing, good_length, good_text, goods_are_fields, goods_are_read, lines_are, nothing_good, one_good}
use Rattle.bg_http_read.proofs.ForwardedHeads.{end_is}

-- the length is a number
abbrev pub IsNumber : Option (List ℕ) → Type 0
IsNumber None = ⊤
IsNumber (Some digits) = (0 < length digits) × AllDigits 10 digits

-- the length is written as it is read
abbrev pub IsTold : Option (List ℕ) → Type 0
IsTold None = ⊤
IsTold (Some digits) = digits_or_zero (without_zeros digits) ≡ digits

-- a response that is read as it is written
pub record IsWritable (request : Request) (response : Response) : Type 0 where
  pub digits : (length (decimal response.code) ≡ 3) × AllPass is_ascii_digit (decimal response.code)
  pub value : digits_value 10 (decimal response.code) ≡ response.code
  pub reason : AllPass is_value_byte response.reason
  pub fields : All IsPlainField response.fields
  pub sound : is_bad_code response.code ≡ false
  pub final : is_interim response.code ≡ false
  pub number : IsNumber response.length
  pub empty : has_no_body request response.code ≡ true → response.body ≡ []
  pub told : has_no_body request response.code ≡ true → IsTold response.length
  pub untold : (response.code == 204) ≡ true → response.length ≡ None
  pub sized : has_no_body request response.code ≡ false
      → (response.length ≡ Some (decimal (length response.body)))
      × (length response.body ≤ most_response_body)

-- a head that is read as it is written
pub record IsHeadWritable (response : Response) : Type 0 where
  pub digits : (length (decimal response.code) ≡ 3) × AllPass is_ascii_digit (decimal response.code)
  pub value : digits_value 10 (decimal response.code) ≡ response.code
  pub reason : AllPass is_value_byte response.reason
  pub fields : All IsPlainField response.fields
  pub number : IsNumber response.length

head_of : (request : Request) (response : Response) → IsWritable request response → IsHeadWritable response
head_of request response w = record {
  digits = w.digits;
  value = w.value;
  reason = w.reason;
  fields = w.fields;
  number = w.number;
}

abbrev pub fields_of : Bool → Response → List Field
fields_of keeps response = written_fields keeps ends.Length response

good_given : (given : Option (List ℕ)) → IsNumber given → All IsPlainField (length_fields given)
good_given None h = nothing_good
good_given (Some digits) h = one_good (codes "Content-Length", digits) (good_length digits h.1)

good_end : (named : BodyEnd) (given : Option (List ℕ)) → IsNumber given → All IsPlainField (end_fields named given)
unfolding is_token_byte
good_end ends.Length given h = good_given given h
good_end ends.Chunks given h =
    one_good (codes "Transfer-Encoding", codes "chunked")
    (good_text (codes "Transfer-Encoding") (codes "chunked") (omega arith) refl refl refl refl)

good_fields : (keeps : Bool) (named : BodyEnd) (response : Response) → IsHeadWritable response
    → All IsPlainField (written_fields keeps named response)
good_fields keeps named response w =
    All-append IsPlainField (kept_in_response response.fields) _
    (All-filter (λ field. not (is_removed response.fields field)) IsPlainField response.fields w.fields)
    (All-append IsPlainField (end_fields named response.length) _ (good_end named response.length w.number) (good_closing keeps))

given_is : (given : Option (List ℕ)) → flat_map field_line (length_fields given) ≡ length_line given
given_is None = refl
given_is (Some digits) = append-nil (field_line (codes "Content-Length", digits))

end_line_is : (named : BodyEnd) (given : Option (List ℕ)) → flat_map field_line (end_fields named given) ≡ body_end_line named given
end_line_is ends.Length given = given_is given
end_line_is ends.Chunks given = append-nil (field_line (codes "Transfer-Encoding", codes "chunked"))

fields_text : (keeps : Bool) (named : BodyEnd) (response : Response)
    → flat_map print_field (map as_field (written_fields keeps named response))
    ≡ flat_map field_line (kept_in_response response.fields)
    ++ (body_end_line named response.length ++ flat_map field_line (closing_fields keeps))
fields_text keeps named response =
    lines_are (written_fields keeps named response)
    ∙ flat_map-append field_line (kept_in_response response.fields) _
    ∙ ap (λ l. flat_map field_line (kept_in_response response.fields) ++ l)
    (flat_map-append field_line (end_fields named response.length) (closing_fields keeps)
    ∙ ap (λ l. l ++ flat_map field_line (closing_fields keeps)) (end_line_is named response.length))

abbrev pub tree_of : Bool → BodyEnd → Response → grammar.ResponseHead
tree_of keeps named response = record {
  blank = [];
  minor = 1;
  digits = decimal response.code;
  reason = Some response.reason;
  line_end = crlf;
  fields = map as_field (written_fields keeps named response);
  last = crlf;
}

regroup_of : (a s d r e k l c : List ℕ)
    → (a ++ s ++ d ++ s ++ r ++ e) ++ k ++ l ++ (c ++ e)
    ≡ a ++ (s ++ d) ++ (s ++ r) ++ e ++ ((k ++ (l ++ c)) ++ e)
regroup_of a s d r e k l c = simp append_assoc

text_is : (keeps : Bool) (named : BodyEnd) (response : Response)
    → response_head_text keeps named response ≡ print_response (tree_of keeps named response)
unfolding print_response
text_is keeps named response =
    ap (λ e. status_line response ++ flat_map field_line (kept_in_response response.fields)
    ++ body_end_line named response.length ++ e) (sym (end_is keeps))
    ∙ regroup_of (codes "HTTP/1.1") (32 ∷ []) (decimal response.code) response.reason crlf_bytes
    (flat_map field_line (kept_in_response response.fields)) (body_end_line named response.length)
    (flat_map field_line (closing_fields keeps))
    ∙ ap (λ l. codes "HTTP/1.1" ++ 32 ∷ decimal response.code ++ 32 ∷ response.reason ++ crlf_bytes ++ (l ++ crlf_bytes))
    (sym (fields_text keeps named response))

-- whatever follows the text of a head, it is read as this head
pub head_is_read : (keeps : Bool) (named : BodyEnd) (response : Response) (more : List ℕ) → IsHeadWritable response
    → (tree : grammar.ResponseHead)
    × grammar.ReadsResponse (response_head_text keeps named response ++ more) tree more
    × (written_head keeps named response ≡ response_parts tree)
head_is_read keeps named response more w =
    let goods = good_fields keeps named response w in (
      tree_of keeps named response,
      (
        record {
          minor = omega arith;
          digits = w.digits;
          reason = w.reason;
          fields = goods_are_fields (written_fields keeps named response) goods;
        },
        ap (λ l. l ++ more) (text_is keeps named response),
      ),
      ap₂ (head_with response) (sym w.value) (sym (goods_are_read (written_fields keeps named response) goods)),
    )
  where
    head_with : Response → ℕ → List Field → ResponseHead
    head_with response code fields =
        record { minor = 1; code = code; reason = response.reason; fields = fields }

-- the head that is written
abbrev pub answered_head : Bool → Response → ResponseHead
answered_head keeps response = written_head keeps ends.Length response

-- whatever follows an answer, its text begins with this head, behind which is its body
pub one_head_is_answered : (keeps : Bool) (request : Request) (response : Response) (more : List ℕ)
    → IsWritable request response
    → (tree : grammar.ResponseHead)
    × grammar.ReadsResponse (response_text keeps request response ++ more) tree (body_sent request response ++ more)
    × (answered_head keeps response ≡ response_parts tree)
one_head_is_answered keeps request response more w =
    let found = head_is_read keeps ends.Length response (body_sent request response ++ more) (head_of request response w) in (
      found.0,
      subst (λ l. grammar.ReadsResponse l found.0 (body_sent request response ++ more))
          (sym (append_assoc (response_head_text keeps ends.Length response) (body_sent request response) more)) found.1,
      found.2,
    )
