-- The head of a request that is written before its body is whole is read as it was written, and judged so.
use Rattle.std.proofs.Common.{◌≡◌, ℕ, ◌<◌, ◌≤◌, ◌-◌, ◌^◌, Bool, true, false, not, ◌&&◌, ◌||◌, ◌==◌, List, [], ◌∷◌, ◌++◌, length, refl, ap, ap₂, sym, ◌∙◌, arith, subst, append_assoc, Option, None, Some, Ok}
use Rattle.std.specs.Prelude.{codes, flat_map, filter, nat_lt, All, if◌then◌else◌}
use Rattle.std.specs.Fmt.{decimal}
use Rattle.std.specs.Result.{result_err}
use Rattle.std.proofs.lemmas.Fmt.{decimal_is_IsNumeral}
use Rattle.std.proofs.lemmas.Grind.{flat_map-append}
use Rattle.std.proofs.lemmas.List.{append-nil}
use Rattle.std.proofs.lemmas.List.Elements.{All-append, All-cons, All-filter}
use Rattle.std.proofs.lemmas.List.Folds.{list_any-append}
use Rattle.httparse.specs.Ascii.{crlf_bytes}
use Rattle.httparse.specs.Grammar.{is_token_byte}
use Rattle.bg_http.specs.Codings.{codings as codings_in, ends_in_chunked, is_empty}
use Rattle.bg_http.specs.Elements.{Field, elements, elements_named, has_field, is_named}
use Rattle.bg_http.specs.Lengths.{length_of}
use Rattle.bg_http.specs.Removed.{is_removed_from_request, kept_in_request}
use Rattle.bg_http.specs.RequestRules.{body_length_within, coding_fault, connect_fault, first_broken, framing_fault, framing_of_length, framing_within, host_fault, length_fault_within, length_within, or_later, rules_within, size_or_too_large, unless_broken}
use Rattle.bg_http.specs.Texts.{field_line, framed_head_text, framing_line, host_line, request_line, via_line}
use Rattle.bg_http.specs.declared.request.Request.{Request}
use Rattle.bg_http.specs.declared.request.RequestHead.{RequestHead}
use Rattle.bg_http.specs.declared.request_fault.RequestFault.{RequestFault}
use Rattle.bg_http.specs.declared.request_fault.RequestFault.TheVariants as fault
use Rattle.bg_http.specs.declared.request_rules.Framing.{Framing}
use Rattle.bg_http.specs.declared.request_rules.Framing.TheVariants as framing
use Rattle.bg_http_read.specs.AnySize.{head_of}
use Rattle.bg_http_read.specs.ForwardedRequests.{closing_fields, host_fields, via_field}
use Rattle.bg_http_read.specs.FramedHeads.{IsJudgedAsFramed, IsJudgedWithin, IsReadBeforeBody, IsWithin, framed_fields, framed_head, framing_fields}
use Rattle.bg_http_read.specs.Heads.{request_heads}
use Rattle.bg_http_read.specs.PlainHeads.{IsPlainField, IsReadOnlyAs, request_lines}
use Rattle.bg_http_read.proofs.FieldTexts.{decimal_digits, good_closing, good_length, good_text, nothing_good, one_good}
use Rattle.bg_http_read.proofs.ForwardedHeads.{end_is, good_hosts, good_via, host_is, via_is}
use Rattle.bg_http_read.proofs.ForwardedRules.{NoneGoesOn, framed_within, has_none, hosts, hosts-append, hosts_kept, hosts_of, limits, no_coding_in_hosts, or_none, sum_of, unbroken}
use Rattle.bg_http_read.proofs.GivenLength.{length_within_is, no_elements, one_element, one_length}
use Rattle.bg_http_read.proofs.PlainHeads.{request_fields_plain, request_is_read}

-- ---- it is read

good_framing : (named : Framing) → IsWithin (2 ^ 64 - 1) named → All IsPlainField (framing_fields named)
unfolding is_token_byte
good_framing framing.NoBody fits = nothing_good
good_framing framing.Chunks fits =
    one_good (codes "Transfer-Encoding", codes "chunked")
    (good_text (codes "Transfer-Encoding") (codes "chunked") (omega arith) refl refl refl refl)
good_framing (framing.Length size) fits =
    one_good (codes "Content-Length", decimal size) (good_length (decimal size) (decimal_digits size (omega (arith, fits))))

good_fields : (keeps : Bool) (named : Framing) (request : Request) (port : ℕ) → All IsPlainField request.fields → port < 2 ^ 16
    → IsWithin (2 ^ 64 - 1) named → All IsPlainField (framed_fields keeps named request port)
good_fields keeps named request port came small fits =
    All-append IsPlainField (host_fields request port) _ (good_hosts request port small)
    (All-append IsPlainField (kept_in_request request.fields) _
    (All-filter (λ field. not (is_removed_from_request request.fields field)) IsPlainField request.fields came)
    (All-cons IsPlainField (via_field request) _ (good_via request)
    (All-append IsPlainField (framing_fields named) _ (good_framing named fits) (good_closing keeps))))

framing_is : (named : Framing) → flat_map field_line (framing_fields named) ≡ framing_line named
framing_is framing.NoBody = refl
framing_is framing.Chunks = refl
framing_is (framing.Length size) = append-nil (field_line (codes "Content-Length", decimal size))

fields_are : (keeps : Bool) (named : Framing) (request : Request) (port : ℕ)
    → flat_map field_line (framed_fields keeps named request port)
    ≡ host_line request port ++ (flat_map field_line (kept_in_request request.fields)
    ++ (via_line request ++ (framing_line named ++ flat_map field_line (closing_fields keeps))))
fields_are keeps named request port =
    let ends = flat_map-append field_line (framing_fields named) (closing_fields keeps)
    ∙ ap (λ l. l ++ flat_map field_line (closing_fields keeps)) (framing_is named) in
    let vias = ap₂ (λ a b. a ++ b) (via_is request) ends in
    flat_map-append field_line (host_fields request port) _
    ∙ ap₂ (λ a b. a ++ b) (host_is request port)
    (flat_map-append field_line (kept_in_request request.fields) _
    ∙ ap (λ l. flat_map field_line (kept_in_request request.fields) ++ l) vias)

regroup : (m a t l h f v s d e : List ℕ)
    → (m ++ a ++ t ++ l) ++ h ++ f ++ v ++ s ++ (d ++ e) ≡ m ++ a ++ t ++ l ++ (h ++ (f ++ (v ++ (s ++ d)))) ++ e
regroup m a t l h f v s d e = simp append_assoc

text_is : (keeps : Bool) (named : Framing) (request : Request) (port : ℕ)
    → framed_head_text keeps named request port ≡ request_lines (framed_head keeps named request port)
text_is keeps named request port =
    ap (λ e. request_line request ++ host_line request port ++ flat_map field_line (kept_in_request request.fields)
    ++ via_line request ++ framing_line named ++ e) (sym (end_is keeps))
    ∙ regroup request.method (codes " ") request.target (codes " HTTP/1.1\r\n") (host_line request port)
    (flat_map field_line (kept_in_request request.fields)) (via_line request) (framing_line named)
    (flat_map field_line (closing_fields keeps)) crlf_bytes
    ∙ ap (λ l. request.method ++ codes " " ++ request.target ++ codes " HTTP/1.1\r\n" ++ l ++ crlf_bytes)
    (sym (fields_are keeps named request port))

pub read_before_body : (keeps : Bool) (named : Framing) (request : Request) (port : ℕ) (input rest more : List ℕ)
    → IsReadBeforeBody keeps named request port input rest more
read_before_body keeps named request port input rest more h small fits =
    subst (λ l. IsReadOnlyAs request_heads (l ++ more) (framed_head keeps named request port) more)
    (sym (text_is keeps named request port))
    (request_is_read input (head_of request) rest (framed_fields keeps named request port) more h
    (good_fields keeps named request port (request_fields_plain input (head_of request) rest h) small fits))

-- ---- the fields behind those that are kept

abbrev tail_of : Bool → Bool → Framing → List Field
tail_of keeps t named =
    (if t then (codes "Via", codes "1.0 bg-switch") else (codes "Via", codes "1.1 bg-switch"))
    ∷ (framing_fields named ++ closing_fields keeps)

abbrev in_chunks : Framing → Bool
in_chunks framing.NoBody = false
in_chunks framing.Chunks = true
in_chunks (framing.Length size) = false

abbrev lengths_of : Framing → List (List ℕ)
lengths_of framing.NoBody = []
lengths_of framing.Chunks = []
lengths_of (framing.Length size) = decimal size ∷ []

record Tail (keeps t : Bool) (named : Framing) : Type 0 where
  no_host : has_field (codes "host") (tail_of keeps t named) ≡ false
  coding : has_field (codes "transfer-encoding") (tail_of keeps t named) ≡ in_chunks named

tail : (keeps t : Bool) (named : Framing) → Tail keeps t named
tail true true framing.NoBody = record { no_host = refl; coding = refl }
tail true true framing.Chunks = record { no_host = refl; coding = refl }
tail true true (framing.Length size) = record { no_host = refl; coding = refl }
tail true false framing.NoBody = record { no_host = refl; coding = refl }
tail true false framing.Chunks = record { no_host = refl; coding = refl }
tail true false (framing.Length size) = record { no_host = refl; coding = refl }
tail false true framing.NoBody = record { no_host = refl; coding = refl }
tail false true framing.Chunks = record { no_host = refl; coding = refl }
tail false true (framing.Length size) = record { no_host = refl; coding = refl }
tail false false framing.NoBody = record { no_host = refl; coding = refl }
tail false false framing.Chunks = record { no_host = refl; coding = refl }
tail false false (framing.Length size) = record { no_host = refl; coding = refl }

one_size : (n : ℕ) → n < 2 ^ 64 → elements (decimal n) ≡ decimal n ∷ []
one_size n fits = one_element (decimal n) (decimal_is_IsNumeral n fits).0.1

lengths_in_tail : (keeps t : Bool) (named : Framing) → IsWithin (2 ^ 64 - 1) named
    → elements_named (codes "content-length") (tail_of keeps t named) ≡ lengths_of named
lengths_in_tail true true framing.NoBody fits = refl
lengths_in_tail true true framing.Chunks fits = refl
lengths_in_tail true true (framing.Length size) fits = append-nil (elements (decimal size)) ∙ one_size size (omega (arith, fits))
lengths_in_tail true false framing.NoBody fits = refl
lengths_in_tail true false framing.Chunks fits = refl
lengths_in_tail true false (framing.Length size) fits = append-nil (elements (decimal size)) ∙ one_size size (omega (arith, fits))
lengths_in_tail false true framing.NoBody fits = refl
lengths_in_tail false true framing.Chunks fits = refl
lengths_in_tail false true (framing.Length size) fits = append-nil (elements (decimal size)) ∙ one_size size (omega (arith, fits))
lengths_in_tail false false framing.NoBody fits = refl
lengths_in_tail false false framing.Chunks fits = refl
lengths_in_tail false false (framing.Length size) fits = append-nil (elements (decimal size)) ∙ one_size size (omega (arith, fits))

coded_in_tail : (keeps t : Bool) → elements_named (codes "transfer-encoding") (tail_of keeps t framing.Chunks) ≡ codes "chunked" ∷ []
coded_in_tail true true = refl
coded_in_tail true false = refl
coded_in_tail false true = refl
coded_in_tail false false = refl

no_length_in_tail : (keeps t : Bool) → has_field (codes "content-length") (tail_of keeps t framing.Chunks) ≡ false
no_length_in_tail true true = refl
no_length_in_tail true false = refl
no_length_in_tail false true = refl
no_length_in_tail false false = refl

no_length_in_hosts : (t : Bool) (port : ℕ) → has_field (codes "content-length") (hosts_of t port) ≡ false
no_length_in_hosts true port = refl
no_length_in_hosts false port = refl

-- of a name that no other field has, what is said of all fields is what is said of those behind
record IsBehind (name : List ℕ) (fields rest : List Field) : Type 0 where
  has : has_field name fields ≡ has_field name rest
  elements_are : elements_named name fields ≡ elements_named name rest

behind : (name : List ℕ) (keeps : Bool) (named : Framing) (request : Request) (port : ℕ)
    → has_field name (host_fields request port) ≡ false → has_field name (kept_in_request request.fields) ≡ false
    → IsBehind name (framed_fields keeps named request port) (tail_of keeps (request.minor == 0) named)
behind name keeps named request port hosted kept = record {
  has = list_any-append (is_named name) (host_fields request port) (fields ++ rest)
      ∙ ap₂ (λ a b. a || b) hosted (list_any-append (is_named name) fields rest ∙ ap (λ b. b || has_field name rest) kept);
  elements_are = flat_map-append g (host_fields request port) (fields ++ rest)
      ∙ ap₂ (λ a b. a ++ b) (no_elements name (host_fields request port) hosted)
      (flat_map-append g fields rest ∙ ap (λ l. l ++ elements_named name rest) (no_elements name fields kept));
}
  where
    rest : List Field
    rest = tail_of keeps (request.minor == 0) named

    fields : List Field
    fields = kept_in_request request.fields

    g : Field → List (List ℕ)
    g field = if is_named name field then elements field.1 else []

-- the head has one Host
one_host : (keeps : Bool) (named : Framing) (request : Request) (port : ℕ) → hosts request.fields ≤ 1
    → ((request.minor == 0) ≡ false → 1 ≤ hosts request.fields)
    → hosts (framed_fields keeps named request port) ≡ 1
one_host keeps named request port few some =
    let rest = tail_of keeps (request.minor == 0) named in
    let none = has_none rest (tail keeps (request.minor == 0) named).no_host in
    let kept = hosts_kept request.fields request.fields in
    let all = hosts-append (host_fields request port) (kept_in_request request.fields ++ rest) in
    let last = hosts-append (kept_in_request request.fields) rest in
    let added = sum_of request port few some in
    omega (arith, all, last, none, kept, added)

-- ---- it is judged

-- what the rules that speak of the end of a body say
record Ends (most : ℕ) (named : Framing) (head : RequestHead) : Type 0 where
  framed : framing_fault head ≡ None
  coded : coding_fault head ≡ None
  short : length_fault_within most head ≡ None
  named_is : framing_within most head ≡ named

uncoded : (most : ℕ) (named : Framing) (size : Option ℕ) (head : RequestHead) → has_field (codes "transfer-encoding") head.fields ≡ false
    → body_length_within most head ≡ Ok size → framing_of_length (Ok size) ≡ named → Ends most named head
uncoded most named size head none sized is = record {
  framed = ap (λ t. if t && (has_field (codes "content-length") head.fields || (head.minor == 0)) then Some fault.Bad else None) none;
  coded = ap (λ t. if not t then None else (if not (ends_in_chunked (codings_in head.fields)) then Some fault.Bad
      else (if nat_lt 1 (length (codings_in head.fields)) then Some fault.NotDone else None))) none;
  short = ap result_err sized;
  named_is = ap (λ t. if t then framing.Chunks else framing_of_length (body_length_within most head)) none
      ∙ ap framing_of_length sized ∙ is;
}

coded_so : (most : ℕ) (head : RequestHead) → (head.minor == 0) ≡ false → has_field (codes "transfer-encoding") head.fields ≡ true
    → has_field (codes "content-length") head.fields ≡ false
    → elements_named (codes "transfer-encoding") head.fields ≡ codes "chunked" ∷ []
    → elements_named (codes "content-length") head.fields ≡ [] → Ends most framing.Chunks head
coded_so most head later some none chunked lengths = record {
  framed = ap₂ (λ a b. if has_field (codes "transfer-encoding") head.fields && (a || b) then Some fault.Bad else None) none later
      ∙ ap (λ t. if t && false then Some fault.Bad else None) some;
  coded = ap (λ t. if not t then None else (if not (ends_in_chunked (codings_in head.fields)) then Some fault.Bad
      else (if nat_lt 1 (length (codings_in head.fields)) then Some fault.NotDone else None))) some
      ∙ ap by_codings chunked;
  short = ap (λ l. result_err (length_within most (length_of l))) lengths;
  named_is = ap (λ t. if t then framing.Chunks else framing_of_length (body_length_within most head)) some;
}
  where
    by_codings : List (List ℕ) → Option RequestFault
    by_codings l =
        (λ (found : List (List ℕ)). if not (ends_in_chunked found) then Some fault.Bad
        else (if nat_lt 1 (length found) then Some fault.NotDone else None))
        (filter (λ element. not (is_empty element)) l)

-- a length is read as it was written
length_read : (most size : ℕ) → size ≤ most → most < 2 ^ 64
    → length_within most (length_of (decimal size ∷ [])) ≡ Ok (Some size)
length_read most size fits small =
    let whole : size < 2 ^ 64 = omega (arith, fits, small) in
    let numeral = (decimal_is_IsNumeral size whole).0 in
    ap (length_within most) (one_length (decimal size) numeral.0 numeral.1)
    ∙ ap size_or_too_large (length_within_is most size whole fits)

ends : NoneGoesOn (codes "transfer-encoding") → NoneGoesOn (codes "content-length") → (keeps : Bool) (named : Framing)
    (request : Request) (port most : ℕ) → IsWithin most named → most < 2 ^ 64 → Ends most named (framed_head keeps named request port)
ends codings lengths keeps named request port most fits small = by_framing named fits
  where
    t : Bool
    t = (request.minor == 0) && not (has_field (codes "host") request.fields)

    coding : (n : Framing) → IsBehind (codes "transfer-encoding") (framed_fields keeps n request port) (tail_of keeps (request.minor == 0) n)
    coding n = behind (codes "transfer-encoding") keeps n request port (no_coding_in_hosts t port) (codings request.fields).0

    lasting : (n : Framing) → IsBehind (codes "content-length") (framed_fields keeps n request port) (tail_of keeps (request.minor == 0) n)
    lasting n = behind (codes "content-length") keeps n request port (no_length_in_hosts t port) (lengths request.fields).0

    none_coded : (n : Framing) → in_chunks n ≡ false → has_field (codes "transfer-encoding") (framed_fields keeps n request port) ≡ false
    none_coded n e = (coding n).has ∙ (tail keeps (request.minor == 0) n).coding ∙ e

    by_framing : (n : Framing) → IsWithin most n → Ends most n (framed_head keeps n request port)
    by_framing framing.NoBody within =
        uncoded most framing.NoBody None (framed_head keeps framing.NoBody request port) (none_coded framing.NoBody refl)
        (ap (λ l. length_within most (length_of l)) ((lasting framing.NoBody).elements_are
        ∙ lengths_in_tail keeps (request.minor == 0) framing.NoBody tt)) refl
    by_framing framing.Chunks within =
        coded_so most (framed_head keeps framing.Chunks request port) refl
        ((coding framing.Chunks).has ∙ (tail keeps (request.minor == 0) framing.Chunks).coding)
        ((lasting framing.Chunks).has ∙ no_length_in_tail keeps (request.minor == 0))
        ((coding framing.Chunks).elements_are ∙ coded_in_tail keeps (request.minor == 0))
        ((lasting framing.Chunks).elements_are ∙ lengths_in_tail keeps (request.minor == 0) framing.Chunks tt)
    by_framing (framing.Length size) within =
        uncoded most (framing.Length size) (Some size) (framed_head keeps (framing.Length size) request port)
        (none_coded (framing.Length size) refl)
        (ap (λ l. length_within most (length_of l)) ((lasting (framing.Length size)).elements_are
        ∙ lengths_in_tail keeps (request.minor == 0) (framing.Length size) (omega (arith, within, small)))
        ∙ length_read most size within small) refl

pub judged_as_framed : NoneGoesOn (codes "transfer-encoding") → NoneGoesOn (codes "content-length") → (keeps : Bool) (named : Framing)
    (request : Request) (port own : ℕ) (came : Framing) (most : ℕ) → IsJudgedAsFramed keeps named request port own came most
judged_as_framed codings lengths keeps named request port own came most e fits small =
    let from = head_of request in
    let head = framed_head keeps named request port in
    let of_ends = framing_fault ∷ coding_fault ∷ length_fault_within own ∷ [] in
    let none = unbroken (first_broken (rules_within own) from) (framing_within own from) came e in
    let one = or_none (connect_fault from) (first_broken (host_fault ∷ of_ends) from) none in
    let two = or_none (host_fault from) (first_broken of_ends from) one.1 in
    let bounds = limits (hosts request.fields) (request.minor == 0) two.0 in
    let host : host_fault head ≡ None =
    ap (λ n. if nat_lt 1 n || (n == 0 && not (head.minor == 0)) then Some fault.Bad else None)
    (one_host keeps named request port bounds.0 bounds.1) in
    let end = ends codings lengths keeps named request port most fits small in
    let rest = framing_fault ∷ coding_fault ∷ length_fault_within most ∷ [] in
    let broken : first_broken (rules_within most) head ≡ None =
    ap (λ x. or_later x (first_broken (host_fault ∷ rest) head)) one.0
    ∙ ap (λ x. or_later x (first_broken rest head)) host
    ∙ ap (λ x. or_later x (first_broken (coding_fault ∷ length_fault_within most ∷ []) head)) end.framed
    ∙ ap (λ x. or_later x (first_broken (length_fault_within most ∷ []) head)) end.coded
    ∙ ap (λ x. or_later x None) end.short in
    ap (λ x. unless_broken x (framing_within most head)) broken ∙ ap Ok end.named_is

pub judged_within : (most : ℕ) (head : RequestHead) (named : Framing) → IsJudgedWithin most head named
judged_within most head framing.NoBody e = tt
judged_within most head framing.Chunks e = tt
judged_within most head (framing.Length size) e = framed_within most head size e
