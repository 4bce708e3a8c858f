-- The head of a forwarded request is read as it was forwarded.
use Rattle.std.proofs.Common.{◌≡◌, ℕ, ◌<◌, ◌^◌, Bool, true, false, not, ◌&&◌, ◌==◌, List, [], ◌∷◌, ◌++◌, length, map, refl, ap, ap₂, sym, ◌∙◌, arith, subst, append_assoc, Option, Some, None}
use Rattle.std.specs.Prelude.{codes, flat_map, All, IsUtf8, if◌then◌else◌}
use Rattle.std.specs.Fmt.{decimal}
use Rattle.std.proofs.lemmas.Grind.{flat_map-append}
use Rattle.std.proofs.lemmas.List.{append-nil}
use Rattle.std.proofs.lemmas.List.Elements.{All-append, All-cons, All-filter}
use Rattle.httparse.specs.Ascii.{crlf_bytes}
use Rattle.httparse.specs.Grammar as grammar
use Rattle.httparse.specs.Grammar.{AllPass, IsToken, crlf, is_token_byte, is_uri_byte, print_field, print_request}
use Rattle.httparse.specs.Spans.{name_and_value}
use Rattle.bg_http.specs.Elements.{Field, has_field}
use Rattle.bg_http.specs.Removed.{is_removed_from_request, kept_in_request}
use Rattle.bg_http.specs.Texts.{bytes_of, end_of_head, field_line, host_line, request_line, request_text, size_line, via_line}
use Rattle.bg_http.specs.declared.request.Request.{Request}
use Rattle.bg_http.specs.declared.request.RequestHead.{RequestHead}
use Rattle.bg_http_read.specs.AnySize.{head_of}
use Rattle.bg_http_read.specs.ForwardedRequests.{closing_fields, forwarded, forwarded_fields, host_fields, size_fields, via_field}
use Rattle.bg_http_read.specs.Heads.{request_parts}
use Rattle.bg_http_read.specs.Requests.{ReadsRequest}
use Rattle.bg_http_read.specs.PlainHeads.{IsPlainField}
use Rattle.bg_http_read.proofs.FieldTexts.{as_field, decimal_digits, good_closing, good_length, good_number, good_text, goods_are_fields, goods_are_read, lines_are, nothing_good, one_good, reads_are_good}

-- ---- the fields that are forwarded

pub good_hosts : (request : Request) (port : ℕ) → port < 2 ^ 16 → All IsPlainField (host_fields request port)
unfolding is_token_byte
good_hosts request port small = by_test ((request.minor == 0) && not (has_field (codes "host") request.fields))
  where
    by_test : (t : Bool) → All IsPlainField (if t then (codes "Host", codes "127.0.0.1:" ++ decimal port) ∷ [] else [])
    by_test true =
        one_good (codes "Host", codes "127.0.0.1:" ++ decimal port)
        (good_number (codes "Host") (codes "127.0.0.1:") (decimal port) (omega arith) refl refl refl
        (decimal_digits port (omega (arith, small))))
    by_test false = nothing_good

pub good_via : (request : Request) → IsPlainField (via_field request)
unfolding is_token_byte
good_via request = by_test (request.minor == 0)
  where
    by_test : (t : Bool) → IsPlainField (if t then (codes "Via", codes "1.0 bg-switch") else (codes "Via", codes "1.1 bg-switch"))
    by_test true = good_text (codes "Via") (codes "1.0 bg-switch") (omega arith) refl refl refl refl
    by_test false = good_text (codes "Via") (codes "1.1 bg-switch") (omega arith) refl refl refl refl

good_sizes : (body : Option (List ℕ)) → length (bytes_of body) < 2 ^ 64 → All IsPlainField (size_fields body)
good_sizes None fits = nothing_good
good_sizes (Some body) fits =
    one_good (codes "Content-Length", decimal (length body))
    (good_length (decimal (length body)) (decimal_digits (length body) fits))

good_kept : (input rest : List ℕ) (request : Request) → ReadsRequest input request rest
    → All IsPlainField (kept_in_request request.fields)
good_kept input rest request r =
    let fields : request.fields ≡ map name_and_value r.begins.reads.tree.fields =
    r.fields_are ∙ ap (λ h. h.fields) r.begins.reads.head_is in
    All-filter (λ field. not (is_removed_from_request request.fields field)) IsPlainField request.fields
    (subst (All IsPlainField) (sym fields) (reads_are_good r.begins.reads.tree.fields r.begins.reads.reads.0.fields))

good_fields : (keeps : Bool) (input rest : List ℕ) (request : Request) (port : ℕ)
    → ReadsRequest input request rest → port < 2 ^ 16 → length (bytes_of request.body) < 2 ^ 64
    → All IsPlainField (forwarded_fields keeps request port)
good_fields keeps input rest request port r small fits =
    All-append IsPlainField (host_fields request port) _ (good_hosts request port small)
    (All-append IsPlainField (kept_in_request request.fields) _ (good_kept input rest request r)
    (All-cons IsPlainField (via_field request) _ (good_via request)
    (All-append IsPlainField (size_fields request.body) _ (good_sizes request.body fits)
    (good_closing keeps))))

-- ---- their text

pub host_is : (request : Request) (port : ℕ) → flat_map field_line (host_fields request port) ≡ host_line request port
host_is request port = by_test ((request.minor == 0) && not (has_field (codes "host") request.fields))
  where
    by_test : (t : Bool) → flat_map field_line (if t then (codes "Host", codes "127.0.0.1:" ++ decimal port) ∷ [] else [])
        ≡ (if t then codes "Host: 127.0.0.1:" ++ decimal port ++ codes "\r\n" else [])
    by_test true = append-nil (field_line (codes "Host", codes "127.0.0.1:" ++ decimal port))
    by_test false = refl

pub via_is : (request : Request) → field_line (via_field request) ≡ via_line request
via_is request = by_test (request.minor == 0)
  where
    by_test : (t : Bool) → field_line (if t then (codes "Via", codes "1.0 bg-switch") else (codes "Via", codes "1.1 bg-switch"))
        ≡ (if t then codes "Via: 1.0 bg-switch\r\n" else codes "Via: 1.1 bg-switch\r\n")
    by_test true = refl
    by_test false = refl

size_is : (body : Option (List ℕ)) → flat_map field_line (size_fields body) ≡ size_line body
size_is None = refl
size_is (Some body) = append-nil (field_line (codes "Content-Length", decimal (length body)))

pub end_is : (keeps : Bool) → flat_map field_line (closing_fields keeps) ++ crlf_bytes ≡ end_of_head keeps
end_is true = refl
end_is false = refl

abbrev pub tree_of : Bool → Request → ℕ → grammar.RequestHead
tree_of keeps request port = record {
  blank = [];
  method = request.method;
  target = request.target;
  minor = 1;
  line_end = crlf;
  fields = map as_field (forwarded_fields keeps request port);
  last = crlf;
}

fields_text : (keeps : Bool) (request : Request) (port : ℕ) → flat_map print_field (map as_field (forwarded_fields keeps request port))
    ≡ host_line request port ++ (flat_map field_line (kept_in_request request.fields)
    ++ (via_line request ++ (size_line request.body ++ flat_map field_line (closing_fields keeps))))
fields_text keeps request port =
    let sizes = flat_map-append field_line (size_fields request.body) (closing_fields keeps)
    ∙ ap (λ l. l ++ flat_map field_line (closing_fields keeps)) (size_is request.body) in
    let vias = ap₂ (λ a b. a ++ b) (via_is request) sizes in
    lines_are (forwarded_fields keeps request port)
    ∙ flat_map-append field_line (host_fields request port) _
    ∙ ap₂ (λ a b. a ++ b) (host_is request port)
    (flat_map-append field_line (kept_in_request request.fields) _
    ∙ ap (λ l. flat_map field_line (kept_in_request request.fields) ++ l) vias)

regroup_of : (m a t c h f v s d e b : List ℕ)
    → m ++ a ++ t ++ (a ++ c ++ e) ++ h ++ f ++ v ++ s ++ (d ++ e) ++ b
    ≡ m ++ (a ++ t) ++ (a ++ c) ++ e ++ (h ++ (f ++ (v ++ (s ++ d))) ++ e) ++ b
regroup_of m a t c h f v s d e b = simp append_assoc

text_is : (keeps : Bool) (request : Request) (port : ℕ)
    → request_text keeps request port ≡ print_request (tree_of keeps request port) ++ bytes_of request.body
unfolding print_request
text_is keeps request port =
    ap (λ e. request_line request ++ host_line request port ++ flat_map field_line (kept_in_request request.fields)
    ++ via_line request ++ size_line request.body ++ e ++ bytes_of request.body) (sym (end_is keeps))
    ∙ regroup_of request.method (32 ∷ []) request.target (codes "HTTP/1.1") (host_line request port)
    (flat_map field_line (kept_in_request request.fields)) (via_line request) (size_line request.body)
    (flat_map field_line (closing_fields keeps)) crlf_bytes (bytes_of request.body)
    ∙ ap (λ l. request.method ++ 32 ∷ request.target ++ 32 ∷ codes "HTTP/1.1" ++ crlf_bytes ++ (l ++ crlf_bytes) ++ bytes_of request.body)
    (sym (fields_text keeps request port))

-- the head that is forwarded
abbrev pub forwarded_head : Bool → Request → ℕ → RequestHead
forwarded_head keeps request port =
    head_of (forwarded port (record { request = request; keeps = keeps }))

-- whatever follows a forwarded request, its text begins with this head, behind which is its body
pub one_head_is_forwarded : (keeps : Bool) (input rest more : List ℕ) (request : Request) (port : ℕ)
    → ReadsRequest input request rest → port < 2 ^ 16 → length (bytes_of request.body) < 2 ^ 64
    → (tree : grammar.RequestHead)
    × grammar.ReadsRequest (request_text keeps request port ++ more) tree (bytes_of request.body ++ more)
    × (request_parts tree ≡ forwarded_head keeps request port)
one_head_is_forwarded keeps input rest more request port r small fits =
    let goods = good_fields keeps input rest request port r small fits in
    let head = r.begins.reads in
    let method : request.method ≡ head.tree.method = r.method_is ∙ ap (λ h. h.method) head.head_is in
    let target : request.target ≡ head.tree.target = r.target_is ∙ ap (λ h. h.target) head.head_is in (
      tree_of keeps request port,
      (
        record {
          method = subst IsToken (sym method) head.reads.0.method;
          target = subst (λ l. (0 < length l) × AllPass is_uri_byte l) (sym target) head.reads.0.target;
          target_text = subst IsUtf8 (sym target) head.reads.0.target_text;
          minor = omega arith;
          fields = goods_are_fields (forwarded_fields keeps request port) goods;
        },
        ap (λ l. l ++ more) (text_is keeps request port)
            ∙ append_assoc (print_request (tree_of keeps request port)) (bytes_of request.body) more,
      ),
      ap (head_with request) (goods_are_read (forwarded_fields keeps request port) goods),
    )
  where
    head_with : Request → List Field → RequestHead
    head_with request fields =
        record { method = request.method; target = request.target; minor = 1; fields = fields }
