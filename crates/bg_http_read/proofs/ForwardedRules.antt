-- A forwarded request passes the rules, and its body ends where its text ends.
use Rattle.std.proofs.Common.{◌≡◌, ℕ, ◌+◌, ◌<◌, ◌≤◌, ◌^◌, Bool, true, false, not, ◌&&◌, ◌||◌, ◌==◌, cond, List, [], ◌∷◌, ◌++◌, length, filter, refl, ap, ap₂, sym, ◌∙◌, arith, subst, Option, Some, None, Result, Ok, Err}
use Rattle.std.specs.Prelude.{codes, count_by, nat_lt, nat_le, if◌then◌else◌}
use Rattle.std.specs.Fmt.{decimal}
use Rattle.std.specs.Result.{result_err}
use Rattle.std.specs.Str.{bytes_eq, str_eq_ignore_ascii_case, str_to_ascii_lowercase}
use Rattle.std.specs.Str.Parse.{digits_value}
use Rattle.std.proofs.lemmas.Bool.{and_left, or_from, or_parts}
use Rattle.std.proofs.lemmas.Bool.Decides.{nat_tests}
use Rattle.std.proofs.lemmas.Fmt.{decimal_is_IsNumeral}
use Rattle.std.proofs.lemmas.Grind.{flat_map-append}
use Rattle.std.proofs.lemmas.List.{append-nil}
use Rattle.std.proofs.lemmas.List.Folds.{list_any-append}
use Rattle.std.proofs.lemmas.List.Sums.{sum_by-append, sum_by-cons}
use Rattle.std.proofs.lemmas.Slice.Eq.{bytes_eq-Decides}
use Rattle.bg_http.specs.Codings.{codings as codings_in, ends_in_chunked}
use Rattle.bg_http.specs.Elements.{Field, elements, elements_named, has_field, is_named}
use Rattle.bg_http.specs.Laws.{StaysHere}
use Rattle.bg_http.specs.Lengths.{Length, absent, content_length, is, length_of, wrong}
use Rattle.bg_http.specs.Removed.{is_named_by_connection, is_of_connection, is_removed, is_removed_from_request, kept_in_request}
use Rattle.bg_http.specs.RequestRules.{body_length, body_length_within, coding_fault, connect_fault, expects_continue, first_broken, framing_fault, framing_of, framing_of_length, framing_within, host_fault, length_fault, length_within, or_later, request_framing, request_framing_within, request_rules, rules_within, size_or_too_large, unless_broken}
use Rattle.bg_http.specs.Texts.{bytes_of}
use Rattle.bg_http.specs.declared.request.Request.{Request}
use Rattle.bg_http.specs.declared.request.RequestHead.{RequestHead}
use Rattle.bg_http.specs.declared.request_fault.RequestFault.{RequestFault}
use Rattle.bg_http.specs.declared.request_fault.RequestFault.TheVariants as fault
use Rattle.bg_http.specs.declared.request_rules.Framing.{Framing}
use Rattle.bg_http.specs.declared.request_rules.Framing.TheVariants as framing
use Rattle.bg_http_read.specs.ForwardedRequests.{closing_fields, forwarded_fields, host_fields, size_fields}
use Rattle.bg_http_read.specs.Requests.{ReadsRequest, ReadsRequestBody, most_body}
use Rattle.bg_http_read.proofs.ForwardedHeads.{forwarded_head}
use Rattle.bg_http_read.proofs.GivenLength.{length_within_is, no_lengths, one_element, one_length}

-- no field that gives the end of a body is forwarded
abbrev pub NoneGoesOn : List ℕ → Type 0
NoneGoesOn name = (fields : List Field) → StaysHere fields name

-- ---- what the request's own head passed

pub unbroken : (x : Option RequestFault) (f g : Framing) → unless_broken x f ≡ Ok g → x ≡ None
unbroken None f g e = refl
unbroken (Some fault) f g e = cc

pub or_none : (a b : Option RequestFault) → or_later a b ≡ None → (a ≡ None) × (b ≡ None)
or_none None b e = (refl, e)
or_none (Some x) b e = cc

pub passes : (head : RequestHead) (named : Framing) → request_framing head ≡ Ok named
    → (connect_fault head ≡ None) × (host_fault head ≡ None)
passes head named e =
    let none = unbroken (first_broken request_rules head) (framing_of head) named e in
    let one = or_none (connect_fault head) (or_later (host_fault head) (first_broken (framing_fault ∷ coding_fault ∷ length_fault ∷ []) head)) none in
    let two = or_none (host_fault head) (first_broken (framing_fault ∷ coding_fault ∷ length_fault ∷ []) head) one.1 in
    (one.0, two.0)

-- the body is within its limit
length_is_within : (most : ℕ) (given : Length) (size : ℕ) → length_within most given ≡ Ok (Some size) → size ≤ most
length_is_within most absent size e = cc
length_is_within most (is digits) size e = by_test (nat_le (digits_value 10 digits) most) refl e
  where
    by_test : (t : Bool) → nat_le (digits_value 10 digits) most ≡ t
        → size_or_too_large (if t then Some (digits_value 10 digits) else None) ≡ Ok (Some size) → size ≤ most
    by_test true small e =
        let same : digits_value 10 digits ≡ size = cc in
        let fits : digits_value 10 digits ≤ most = grind (arith, nat_tests) in
        subst (λ n. n ≤ most) same fits
    by_test false small e = cc
length_is_within most wrong size e = cc

size_is_given : (given : Result (Option ℕ) RequestFault) (size : ℕ)
    → framing_of_length given ≡ framing.Length size → given ≡ Ok (Some size)
size_is_given (Ok None) size e = cc
size_is_given (Ok (Some n)) size e = let same : n ≡ size = cc in ap (λ m. Ok (Some m)) same
size_is_given (Err f) size e = cc

named_is : (broken : Option RequestFault) (found named : Framing) → unless_broken broken found ≡ Ok named → found ≡ named
named_is None found named e = cc
named_is (Some f) found named e = cc

pub framed_within : (most : ℕ) (head : RequestHead) (size : ℕ) → request_framing_within most head ≡ Ok (framing.Length size) → size ≤ most
framed_within most head size e =
    by_test (has_field (codes "transfer-encoding") head.fields)
    (named_is (first_broken (rules_within most) head) (framing_within most head) (framing.Length size) e)
  where
    by_test : (t : Bool)
        → (if t then framing.Chunks else framing_of_length (body_length_within most head)) ≡ framing.Length size → size ≤ most
    by_test true e = cc
    by_test false e =
        length_is_within most (content_length head.fields) size (size_is_given (body_length_within most head) size e)

pub body_within : (input : List ℕ) (request : Request) (rest : List ℕ) → ReadsRequest input request rest
    → length (bytes_of request.body) ≤ most_body
body_within input request rest r = by_framing r.framing r.body r.begins.judged
  where
    by_framing : (named : Framing) → ReadsRequestBody named r.after request.body rest
        → request_framing r.head ≡ Ok named → length (bytes_of request.body) ≤ most_body
    by_framing framing.NoBody body judged = subst (λ b. length (bytes_of b) ≤ most_body) (sym body.0) (omega arith)
    by_framing framing.Chunks (bytes, same, reads, fits) judged =
        subst (λ b. length (bytes_of b) ≤ most_body) (sym same) fits
    by_framing (framing.Length size) (bytes, same, long, whole) judged =
        let fits = framed_within most_body r.head size judged in
        subst (λ b. length (bytes_of b) ≤ most_body) (sym same) (omega (arith, long, fits))

-- ---- names

one_name : (a b : List ℕ) → str_eq_ignore_ascii_case a b ≡ true → str_to_ascii_lowercase a ≡ str_to_ascii_lowercase b
one_name a b e = (bytes_eq-Decides (str_to_ascii_lowercase a) (str_to_ascii_lowercase b)).0 e

-- whether a name in lower case is one of those that stay
abbrev pub of_connection : List ℕ → Bool
of_connection name =
    bytes_eq name (codes "connection") || bytes_eq name (codes "keep-alive")
    || bytes_eq name (codes "proxy-connection") || bytes_eq name (codes "te")
    || bytes_eq name (codes "transfer-encoding") || bytes_eq name (codes "upgrade")
    || bytes_eq name (codes "trailer") || bytes_eq name (codes "content-length")

host_is_kept : (fields : List Field) (f : Field) → is_named (codes "host") f ≡ true
    → is_removed_from_request fields f ≡ false
host_is_kept fields f e =
    let low : str_to_ascii_lowercase f.0 ≡ codes "host" = one_name f.0 (codes "host") e in
    let stays : is_of_connection f ≡ false = ap of_connection low in
    let expects : is_named (codes "expect") f ≡ false = ap (λ l. bytes_eq l (codes "expect")) low in
    or_from (is_removed fields f) (expects_continue f)
    (or_from (is_of_connection f) (not (is_named (codes "host") f) && is_named_by_connection fields f.0) stays
    (and_left (not (is_named (codes "host") f)) (is_named_by_connection fields f.0) (ap not e)))
    (and_left (is_named (codes "expect") f) _ expects)

-- ---- how many Hosts there are

abbrev pub hosts : List Field → ℕ
hosts fields = count_by (is_named (codes "host")) fields

hosts-cons : (f : Field) (fields : List Field) → hosts (f ∷ fields) ≡ cond (is_named (codes "host") f) 1 0 + hosts fields
hosts-cons f fields = sum_by-cons (λ x. cond (is_named (codes "host") x) 1 0) f fields

pub hosts-append : (one other : List Field) → hosts (one ++ other) ≡ hosts one + hosts other
hosts-append one other = sum_by-append (λ x. cond (is_named (codes "host") x) 1 0) one other

pub hosts_kept : (all fields : List Field) → hosts (filter (λ f. not (is_removed_from_request all f)) fields) ≡ hosts fields
hosts_kept all [] = refl
hosts_kept all (f ∷ fields) = by_test (is_removed_from_request all f) refl (is_named (codes "host") f) refl (hosts_kept all fields)
  where
    kept : List Field
    kept = filter (λ f. not (is_removed_from_request all f)) fields

    by_test : (r : Bool) → is_removed_from_request all f ≡ r → (t : Bool) → is_named (codes "host") f ≡ t
        → hosts kept ≡ hosts fields
        → hosts (cond (not r) (f ∷ kept) kept) ≡ hosts (f ∷ fields)
    by_test true e true u later = let wrong : true ≡ false = sym e ∙ host_is_kept all f u in cc
    by_test true e false u later = omega (arith, later, hosts-cons f fields, ap {B = ℕ} (λ b. cond b 1 0) u)
    by_test false e t u later = hosts-cons f kept ∙ ap (λ n. cond (is_named (codes "host") f) 1 0 + n) later ∙ sym (hosts-cons f fields)

pub has_none : (fields : List Field) → has_field (codes "host") fields ≡ false → hosts fields ≡ 0
has_none [] h = refl
has_none (f ∷ fields) h =
    let parts = or_parts (is_named (codes "host") f) (has_field (codes "host") fields) h in
    hosts-cons f fields ∙ ap₂ (λ b n. cond b 1 0 + n) parts.0 (has_none fields parts.1)

has_some : (fields : List Field) → has_field (codes "host") fields ≡ true → 1 ≤ hosts fields
has_some [] h = cc
has_some (f ∷ fields) h = by_test (is_named (codes "host") f) refl h (has_some fields)
  where
    by_test : (t : Bool) → is_named (codes "host") f ≡ t → (t || has_field (codes "host") fields) ≡ true
        → (has_field (codes "host") fields ≡ true → 1 ≤ hosts fields) → 1 ≤ hosts (f ∷ fields)
    by_test true e h later = omega (arith, hosts-cons f fields, ap {B = ℕ} (λ b. cond b 1 0) e)
    by_test false e h later = omega (arith, hosts-cons f fields, later h)

pub limits : (n : ℕ) (t : Bool)
    → (if nat_lt 1 n || (n == 0 && not t) then Some fault.Bad else None) ≡ None
    → (n ≤ 1) × (t ≡ false → 1 ≤ n)
limits n t h = by_test (nat_lt 1 n) refl (n == 0) refl t h
  where
    by_test : (many : Bool) → nat_lt 1 n ≡ many → (zero : Bool) → (n == 0) ≡ zero → (t : Bool)
        → (if many || (zero && not t) then Some fault.Bad else None) ≡ None
        → (n ≤ 1) × (t ≡ false → 1 ≤ n)
    by_test true e zero z t h = cc
    by_test false e true z false h = cc
    by_test false e true z true h = (grind (arith, nat_tests), λ wrong. cc)
    by_test false e false z t h = (grind (arith, nat_tests), λ low. grind (arith, nat_tests))

-- the fields behind those that are kept
abbrev pub tail_of : Bool → Bool → Option (List ℕ) → List Field
tail_of keeps t body =
    (if t then (codes "Via", codes "1.0 bg-switch") else (codes "Via", codes "1.1 bg-switch"))
    ∷ (size_fields body ++ closing_fields keeps)

no_host_in_tail : (keeps t : Bool) (body : Option (List ℕ)) → has_field (codes "host") (tail_of keeps t body) ≡ false
no_host_in_tail true true None = refl
no_host_in_tail true true (Some body) = refl
no_host_in_tail true false None = refl
no_host_in_tail true false (Some body) = refl
no_host_in_tail false true None = refl
no_host_in_tail false true (Some body) = refl
no_host_in_tail false false None = refl
no_host_in_tail false false (Some body) = refl

no_coding_in_tail : (keeps t : Bool) (body : Option (List ℕ)) → has_field (codes "transfer-encoding") (tail_of keeps t body) ≡ false
no_coding_in_tail true true None = refl
no_coding_in_tail true true (Some body) = refl
no_coding_in_tail true false None = refl
no_coding_in_tail true false (Some body) = refl
no_coding_in_tail false true None = refl
no_coding_in_tail false true (Some body) = refl
no_coding_in_tail false false None = refl
no_coding_in_tail false false (Some body) = refl

abbrev pub hosts_of : Bool → ℕ → List Field
hosts_of t port = if t then (codes "Host", codes "127.0.0.1:" ++ decimal port) ∷ [] else []

pub no_coding_in_hosts : (t : Bool) (port : ℕ) → has_field (codes "transfer-encoding") (hosts_of t port) ≡ false
no_coding_in_hosts true port = refl
no_coding_in_hosts false port = refl

-- a request is forwarded with one Host
pub sum_of : (request : Request) (port : ℕ) → hosts request.fields ≤ 1
    → ((request.minor == 0) ≡ false → 1 ≤ hosts request.fields)
    → hosts (host_fields request port) + hosts request.fields ≡ 1
sum_of request port few some =
    by_test (request.minor == 0) some (has_field (codes "host") request.fields) (has_none request.fields) (has_some request.fields)
  where
    by_test : (t : Bool) → (t ≡ false → 1 ≤ hosts request.fields) → (u : Bool)
        → (u ≡ false → hosts request.fields ≡ 0) → (u ≡ true → 1 ≤ hosts request.fields)
        → hosts (hosts_of (t && not u) port) + hosts request.fields ≡ 1
    by_test true some true none more = omega (arith, few, more refl)
    by_test true some false none more = omega (arith, none refl)
    by_test false some true none more = omega (arith, few, some refl)
    by_test false some false none more = omega (arith, few, some refl)

one_host : (keeps : Bool) (request : Request) (port : ℕ) → hosts request.fields ≤ 1
    → ((request.minor == 0) ≡ false → 1 ≤ hosts request.fields)
    → hosts (forwarded_fields keeps request port) ≡ 1
one_host keeps request port few some =
    let rest = tail_of keeps (request.minor == 0) request.body in
    let tail = has_none rest (no_host_in_tail keeps (request.minor == 0) request.body) in
    let kept = hosts_kept request.fields request.fields in
    let all = hosts-append (host_fields request port) (kept_in_request request.fields ++ rest) in
    let behind = hosts-append (kept_in_request request.fields) rest in
    let added = sum_of request port few some in
    omega (arith, all, behind, tail, kept, added)

-- ---- no coding, and one length

no_coding : NoneGoesOn (codes "transfer-encoding") → (keeps : Bool) (request : Request) (port : ℕ)
    → has_field (codes "transfer-encoding") (forwarded_fields keeps request port) ≡ false
no_coding codings keeps request port =
    let test = is_named (codes "transfer-encoding") in
    let rest = tail_of keeps (request.minor == 0) request.body in
    let kept = kept_in_request request.fields in
    list_any-append test (host_fields request port) (kept ++ rest)
    ∙ or_from _ _ (no_coding_in_hosts ((request.minor == 0) && not (has_field (codes "host") request.fields)) port)
    (list_any-append test kept rest
    ∙ or_from _ _ (codings request.fields).0 (no_coding_in_tail keeps (request.minor == 0) request.body))

abbrev pub lengths_of : Option (List ℕ) → List (List ℕ)
lengths_of None = []
lengths_of (Some body) = decimal (length body) ∷ []

pub lengths_in_hosts : (t : Bool) (port : ℕ) → elements_named (codes "content-length") (hosts_of t port) ≡ []
lengths_in_hosts true port = refl
lengths_in_hosts false port = refl

one_size : (n : ℕ) → n ≤ most_body → elements (decimal n) ≡ decimal n ∷ []
one_size n fits = one_element (decimal n) (decimal_is_IsNumeral n (omega (arith, fits))).0.1

lengths_in_tail : (keeps t : Bool) (body : Option (List ℕ)) → length (bytes_of body) ≤ most_body
    → elements_named (codes "content-length") (tail_of keeps t body) ≡ lengths_of body
lengths_in_tail true true None fits = refl
lengths_in_tail true true (Some body) fits = append-nil (elements (decimal (length body))) ∙ one_size (length body) fits
lengths_in_tail true false None fits = refl
lengths_in_tail true false (Some body) fits = append-nil (elements (decimal (length body))) ∙ one_size (length body) fits
lengths_in_tail false true None fits = refl
lengths_in_tail false true (Some body) fits = append-nil (elements (decimal (length body))) ∙ one_size (length body) fits
lengths_in_tail false false None fits = refl
lengths_in_tail false false (Some body) fits = append-nil (elements (decimal (length body))) ∙ one_size (length body) fits

forwarded_lengths : NoneGoesOn (codes "content-length") → (keeps : Bool) (request : Request) (port : ℕ)
    → length (bytes_of request.body) ≤ most_body
    → elements_named (codes "content-length") (forwarded_fields keeps request port) ≡ lengths_of request.body
forwarded_lengths lengths keeps request port fits =
    let g = λ (field : Field). if is_named (codes "content-length") field then elements field.1 else [] in
    let rest = tail_of keeps (request.minor == 0) request.body in
    let kept = kept_in_request request.fields in
    flat_map-append g (host_fields request port) (kept ++ rest)
    ∙ ap₂ (λ a b. a ++ b) (lengths_in_hosts ((request.minor == 0) && not (has_field (codes "host") request.fields)) port)
    (flat_map-append g kept rest
    ∙ ap₂ (λ a b. a ++ b) (no_lengths kept (lengths request.fields).0)
    (lengths_in_tail keeps (request.minor == 0) request.body fits))

abbrev pub size_of : Option (List ℕ) → Option ℕ
size_of None = None
size_of (Some body) = Some (length body)

-- the framing of a forwarded request
abbrev pub forwarded_framing : Option (List ℕ) → Framing
forwarded_framing None = framing.NoBody
forwarded_framing (Some body) = framing.Length (length body)

framing_named : (body : Option (List ℕ)) → framing_of_length (Ok (size_of body)) ≡ forwarded_framing body
framing_named None = refl
framing_named (Some body) = refl

length_read : (body : Option (List ℕ)) → length (bytes_of body) ≤ most_body
    → length_within most_body (length_of (lengths_of body)) ≡ Ok (size_of body)
length_read None fits = refl
length_read (Some body) fits =
    let n = length body in
    let small : n < 2 ^ 64 = omega (arith, fits) in
    let numeral = (decimal_is_IsNumeral n small).0 in
    ap (length_within most_body) (one_length (decimal n) numeral.0 numeral.1)
    ∙ ap size_or_too_large (length_within_is most_body n small fits)

-- ---- the rules

pub forwarded_passes : NoneGoesOn (codes "transfer-encoding") → NoneGoesOn (codes "content-length") → (keeps : Bool)
    (input rest : List ℕ) (request : Request) (port : ℕ) → ReadsRequest input request rest
    → length (bytes_of request.body) ≤ most_body
    → request_framing (forwarded_head keeps request port) ≡ Ok (forwarded_framing request.body)
forwarded_passes codings lengths keeps input rest request port r fits =
    let own = passes r.head r.framing r.begins.judged in
    let head = forwarded_head keeps request port in
    let connect : connect_fault head ≡ None =
    ap (λ m. if bytes_eq m (codes "CONNECT") then Some fault.NotDone else None) r.method_is ∙ own.0 in
    let hosted = subst (λ f. (if nat_lt 1 (hosts f) || (hosts f == 0 && not (r.head.minor == 0)) then Some fault.Bad else None) ≡ None) (sym r.fields_are) own.1 in
    let bounds = limits (hosts request.fields) (request.minor == 0)
    (subst (λ m. (if nat_lt 1 (hosts request.fields) || (hosts request.fields == 0 && not (m == 0)) then Some fault.Bad else None) ≡ None) (sym r.minor_is) hosted) in
    let one = one_host keeps request port bounds.0 bounds.1 in
    let host : host_fault head ≡ None =
    ap (λ n. if nat_lt 1 n || (n == 0 && not (head.minor == 0)) then Some fault.Bad else None) one in
    let none = no_coding codings keeps request port in
    let framed : framing_fault head ≡ None =
    ap (λ t. if t && (has_field (codes "content-length") head.fields || (head.minor == 0)) then Some fault.Bad else None) none in
    let coded : coding_fault head ≡ None =
    ap (λ t. if not t then None else (if not (ends_in_chunked (codings_in head.fields)) then Some fault.Bad
    else (if nat_lt 1 (length (codings_in head.fields)) then Some fault.NotDone else None))) none in
    let sized : body_length head ≡ Ok (size_of request.body) =
    ap (λ l. length_within most_body (length_of l)) (forwarded_lengths lengths keeps request port fits) ∙ length_read request.body fits in
    let short : length_fault head ≡ None = ap result_err sized in
    let broken : first_broken request_rules head ≡ None =
    ap (λ x. or_later x (first_broken (host_fault ∷ framing_fault ∷ coding_fault ∷ length_fault ∷ []) head)) connect
    ∙ ap (λ x. or_later x (first_broken (framing_fault ∷ coding_fault ∷ length_fault ∷ []) head)) host
    ∙ ap (λ x. or_later x (first_broken (coding_fault ∷ length_fault ∷ []) head)) framed
    ∙ ap (λ x. or_later x (first_broken (length_fault ∷ []) head)) coded
    ∙ ap (λ x. or_later x None) short in
    let named : framing_of head ≡ forwarded_framing request.body =
    ap (λ t. if t then framing.Chunks else framing_of_length (body_length head)) none
    ∙ ap framing_of_length sized ∙ framing_named request.body in
    ap (λ x. unless_broken x (framing_of head)) broken ∙ ap Ok named
