-- The heads of an upgrade are read as they are written.
use Rattle.std.proofs.Common.{◌≡◌, ℕ, Bool, true, false, not, if◌then◌else◌, ◌==◌, List, [], ◌∷◌, ◌++◌, refl, ap, ap₂, sym, ◌∙◌, arith, subst, append_assoc}
use Rattle.std.specs.Prelude.{codes, flat_map, All}
use Rattle.std.proofs.lemmas.Bool.{eqb-true}
use Rattle.std.proofs.lemmas.Grind.{flat_map-append}
use Rattle.std.proofs.lemmas.List.Elements.{All-append, All-cons, All-filter}
use Rattle.bg_http.specs.Elements.{Field, is_named}
use Rattle.bg_http.specs.Removed.{is_removed, is_removed_from_request, kept_in_request, kept_in_response}
use Rattle.bg_http.specs.Texts.{field_line, request_line, status_line, via_line}
use Rattle.bg_http.specs.declared.request.Request.{Request}
use Rattle.bg_http.specs.declared.request.RequestHead.{RequestHead}
use Rattle.bg_http.specs.declared.response.ResponseHead.{ResponseHead}
use Rattle.bg_http_read.specs.ForwardedRequests.{via_field}
use Rattle.bg_http_read.specs.Heads.{request_heads, response_heads}
use Rattle.bg_http_read.specs.PlainHeads.{HasPlainRequestFields, HasPlainResponseFields, IsPlainField, IsReadOnlyAs, IsReadWithFields, IsResponseReadWithFields, request_lines, request_with, response_lines}
use Rattle.bg_http_read.specs.Requests.{ReadsRequest}
use Rattle.bg_upgrade.specs.HeadTexts.{acceptance_text, bare_response, upgrade_fields, upgrade_text}
use Rattle.bg_upgrade.specs.SentHeads.{connection_field, fields_to_client, fields_to_endpoint, head_to_client, head_to_endpoint}
use Rattle.bg_upgrade.specs.Acceptances.{IsAcceptance}
use Rattle.bg_upgrade.specs.Upgrades.{asks_for_upgrade}
use Rattle.bg_upgrade.proofs.LawLemmas.{accepts}

-- ---- the last fields of both heads

plain_last : IsPlainField connection_field → (fields : List Field) → All IsPlainField fields
    → All IsPlainField (upgrade_fields fields ++ connection_field ∷ [])
plain_last last fields h =
    All-append IsPlainField (upgrade_fields fields) _ (All-filter (is_named (codes "upgrade")) IsPlainField fields h)
    (All-cons IsPlainField connection_field [] last (λ k d inside. absurd (omega (arith, inside))))

last_text : (fields : List Field) → flat_map field_line (upgrade_fields fields ++ connection_field ∷ [])
    ≡ flat_map field_line (upgrade_fields fields) ++ codes "Connection: upgrade\r\n"
last_text fields = flat_map-append field_line (upgrade_fields fields) (connection_field ∷ [])

-- ---- a request

plain_fields : (request : Request) → IsPlainField (via_field request) → IsPlainField connection_field
    → All IsPlainField request.fields → All IsPlainField (fields_to_endpoint request)
plain_fields request via last h =
    All-append IsPlainField (kept_in_request request.fields) _
    (All-filter (λ field. not (is_removed_from_request request.fields field)) IsPlainField request.fields h)
    (All-cons IsPlainField (via_field request) _ via (plain_last last request.fields h))

via_text : (request : Request) → field_line (via_field request) ≡ via_line request
via_text request = by_test (request.minor == 0)
  where
    by_test : (t : Bool) → field_line (if t then (codes "Via", codes "1.0 bg-switch") else (codes "Via", codes "1.1 bg-switch"))
        ≡ (if t then codes "Via: 1.0 bg-switch\r\n" else codes "Via: 1.1 bg-switch\r\n")
    by_test true = refl
    by_test false = refl

endpoint_text : (request : Request) → flat_map field_line (fields_to_endpoint request)
    ≡ flat_map field_line (kept_in_request request.fields)
    ++ (via_line request ++ (flat_map field_line (upgrade_fields request.fields) ++ codes "Connection: upgrade\r\n"))
endpoint_text request =
    flat_map-append field_line (kept_in_request request.fields) _
    ∙ ap (λ l. flat_map field_line (kept_in_request request.fields) ++ l)
    (ap₂ (λ a b. a ++ b) (via_text request) (last_text request.fields))

regroup_request : (r f v u d e : List ℕ) → r ++ f ++ v ++ (u ++ (d ++ e)) ≡ r ++ (f ++ (v ++ (u ++ d))) ++ e
regroup_request r f v u d e = simp append_assoc

request_text_is : (request : Request) → upgrade_text request ≡ request_lines (head_to_endpoint request)
request_text_is request =
    regroup_request (request_line request) (flat_map field_line (kept_in_request request.fields)) (via_line request)
    (flat_map field_line (upgrade_fields request.fields)) (codes "Connection: upgrade\r\n") (codes "\r\n")
    ∙ ap (λ l. request_line request ++ l ++ codes "\r\n") (sym (endpoint_text request))

-- what is known of the heads of all requests
abbrev pub PlainRequests : Type 0
PlainRequests = (input : List ℕ) (head : RequestHead) (rest : List ℕ) → HasPlainRequestFields input head rest

abbrev pub WrittenRequests : Type 0
WrittenRequests =
    (input : List ℕ) (head : RequestHead) (rest : List ℕ) (fields : List Field) (more : List ℕ)
    → IsReadWithFields input head rest fields more

pub upgrade_is_read : PlainRequests → WrittenRequests → (request : Request) (more input rest : List ℕ)
    → IsPlainField (via_field request) → IsPlainField connection_field → ReadsRequest input request rest → asks_for_upgrade request ≡ true
    → IsReadOnlyAs request_heads (upgrade_text request ++ more) (head_to_endpoint request) more
upgrade_is_read plain written request more input rest via last r e =
    let fields = fields_to_endpoint request in
    let came = plain_fields request via last
    (subst (All IsPlainField) (sym r.fields_are) (plain input r.head r.after r.begins.reads)) in
    let same : request_with r.head fields ≡ head_to_endpoint request
    = ap₂ (head_with fields) (sym r.method_is) (sym r.target_is) in
    subst (λ l. IsReadOnlyAs request_heads (l ++ more) (head_to_endpoint request) more) (sym (request_text_is request))
    (subst (λ h. IsReadOnlyAs request_heads (request_lines h ++ more) h more) same
    (written input r.head r.after fields more r.begins.reads came))
  where
    head_with : List Field → List ℕ → List ℕ → RequestHead
    head_with fields method target =
        record { method = method; target = target; minor = 1; fields = fields }

-- ---- an acceptance

plain_answers : IsPlainField connection_field → (head : ResponseHead) → All IsPlainField head.fields
    → All IsPlainField (fields_to_client head)
plain_answers last head h =
    All-append IsPlainField (kept_in_response head.fields) _
    (All-filter (λ field. not (is_removed head.fields field)) IsPlainField head.fields h) (plain_last last head.fields h)

client_text : (head : ResponseHead) → flat_map field_line (fields_to_client head)
    ≡ flat_map field_line (kept_in_response head.fields)
    ++ (flat_map field_line (upgrade_fields head.fields) ++ codes "Connection: upgrade\r\n")
client_text head =
    flat_map-append field_line (kept_in_response head.fields) _
    ∙ ap (λ l. flat_map field_line (kept_in_response head.fields) ++ l) (last_text head.fields)

regroup_acceptance : (s k u d e : List ℕ) → s ++ k ++ (u ++ (d ++ e)) ≡ s ++ (k ++ (u ++ d)) ++ e
regroup_acceptance s k u d e = simp append_assoc

acceptance_text_is : (head : ResponseHead) → acceptance_text head ≡ response_lines (head_to_client head)
acceptance_text_is head =
    regroup_acceptance (status_line (bare_response head)) (flat_map field_line (kept_in_response head.fields))
    (flat_map field_line (upgrade_fields head.fields)) (codes "Connection: upgrade\r\n") (codes "\r\n")
    ∙ ap (λ l. status_line (bare_response head) ++ l ++ codes "\r\n") (sym (client_text head))

-- what is known of the heads of all responses
abbrev pub PlainResponses : Type 0
PlainResponses = (input : List ℕ) (head : ResponseHead) (rest : List ℕ) → HasPlainResponseFields input head rest

abbrev pub WrittenResponses : Type 0
WrittenResponses =
    (input : List ℕ) (head : ResponseHead) (rest : List ℕ) (fields : List Field) (more : List ℕ)
    → IsResponseReadWithFields input head rest fields more

pub acceptance_is_read : PlainResponses → WrittenResponses → IsPlainField connection_field
    → (request : Request) (bytes : List ℕ) (head : ResponseHead) (rest more : List ℕ) → IsAcceptance request bytes head rest
    → IsReadOnlyAs response_heads (acceptance_text head ++ more) (head_to_client head) more
acceptance_is_read plain written last request bytes head rest more (reads, takes) =
    let code : head.code ≡ 101 = eqb-true head.code 101 (accepts request head takes).code in
    subst (λ l. IsReadOnlyAs response_heads (l ++ more) (head_to_client head) more) (sym (acceptance_text_is head))
    (written bytes head rest (fields_to_client head) more reads (omega (arith, code))
    (plain_answers last head (plain bytes head rest reads)))
