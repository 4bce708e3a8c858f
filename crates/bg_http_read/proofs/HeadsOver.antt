-- A head is complete only after an empty line.
use Rattle.std.proofs.Common.{◌≡◌, ◌<◌, add-one, drop, drop-cons, get_or, ◌+◌, codes, ℕ, true, false, Bool, ◌==◌, ◌||◌, if◌then◌else◌, List, [], ◌∷◌, ◌++◌, length, refl, ap, sym, ◌∙◌, subst, append_assoc, arith}
use Rattle.httparse.specs.Grammar.{LineEnd, crlf, lf, print_end, Field, print_field, print_section, print_blank, print_version, RequestHead, print_request, ReadsRequest, HasNoRequest, ResponseHead, print_response, print_reason, ReadsResponse, HasNoResponse, is_token_byte}
use Rattle.std.specs.List.{All, flat_map}
use Rattle.std.proofs.lemmas.Bool.{eqb-true}
use Rattle.bg_http_read.specs.HeadEnds.{after_byte, after_bytes, is_over}
use Rattle.bg_http_read.specs.declared.head_end.HeadEnd.{HeadEnd}
use Rattle.bg_http_read.specs.declared.head_end.HeadEnd.TheVariants as end

pub after_bytes-append : (e : HeadEnd) (xs ys : List ℕ)
    → after_bytes e (xs ++ ys) ≡ after_bytes (after_bytes e xs) ys
after_bytes-append e [] ys = refl
after_bytes-append e (x ∷ xs) ys = after_bytes-append (after_byte e x) xs ys

-- a byte has come that isn't one of a line end
abbrev pub has_begun : HeadEnd → Bool
has_begun end.Blank = false
has_begun end.Inside = true
has_begun end.LineStart = true
has_begun end.AfterCr = true
has_begun end.Over = true

-- a line begins here, or an empty line has come
abbrev pub is_at_line : HeadEnd → Bool
is_at_line end.Blank = false
is_at_line end.Inside = false
is_at_line end.LineStart = true
is_at_line end.AfterCr = false
is_at_line end.Over = true

begun_byte : (e : HeadEnd) (b : ℕ) → has_begun e ≡ true → has_begun (after_byte e b) ≡ true
begun_byte end.Blank b h = cc
begun_byte end.Inside b h = either (b == 10)
  where
    either : (t : Bool) → has_begun (if t then end.LineStart else end.Inside) ≡ true
    either true = refl
    either false = refl
begun_byte end.LineStart b h = either (b == 10) (b == 13)
  where
    either : (s t : Bool)
        → has_begun (if s then end.Over else (if t then end.AfterCr else end.Inside)) ≡ true
    either true t = refl
    either false true = refl
    either false false = refl
begun_byte end.AfterCr b h = either (b == 10)
  where
    either : (t : Bool) → has_begun (if t then end.Over else end.Inside) ≡ true
    either true = refl
    either false = refl
begun_byte end.Over b h = refl

begun : (e : HeadEnd) (xs : List ℕ) → has_begun e ≡ true → has_begun (after_bytes e xs) ≡ true
begun e [] h = h
begun e (x ∷ xs) h = begun (after_byte e x) xs (begun_byte e x h)

-- a line begins after a line end
at_line : (e : HeadEnd) (n : LineEnd) → has_begun e ≡ true
    → is_at_line (after_bytes e (print_end n)) ≡ true
at_line end.Blank n h = cc
at_line end.Inside crlf h = refl
at_line end.Inside lf h = refl
at_line end.LineStart crlf h = refl
at_line end.LineStart lf h = refl
at_line end.AfterCr crlf h = refl
at_line end.AfterCr lf h = refl
at_line end.Over crlf h = refl
at_line end.Over lf h = refl

line_begun : (e : HeadEnd) → is_at_line e ≡ true → has_begun e ≡ true
line_begun end.Blank h = cc
line_begun end.Inside h = cc
line_begun end.LineStart h = refl
line_begun end.AfterCr h = cc
line_begun end.Over h = refl

-- an empty line ends the head if a line begins here
ends_there : (e : HeadEnd) (n : LineEnd) → is_at_line e ≡ true
    → after_bytes e (print_end n) ≡ end.Over
ends_there end.Blank n h = cc
ends_there end.Inside n h = cc
ends_there end.LineStart crlf h = refl
ends_there end.LineStart lf h = refl
ends_there end.AfterCr n h = cc
ends_there end.Over crlf h = refl
ends_there end.Over lf h = refl

over_stays : (xs : List ℕ) → after_bytes end.Over xs ≡ end.Over
over_stays [] = refl
over_stays (x ∷ xs) = over_stays xs

blank_stays : (es : List LineEnd) → after_bytes end.Blank (print_blank es) ≡ end.Blank
blank_stays [] = refl
blank_stays (crlf ∷ es) = blank_stays es
blank_stays (lf ∷ es) = blank_stays es

-- a line begins after the text and the end of a line
after_line : (e : HeadEnd) (text : List ℕ) (n : LineEnd) → has_begun e ≡ true
    → is_at_line (after_bytes e (text ++ print_end n)) ≡ true
after_line e text n h =
    subst (λ s. is_at_line s ≡ true) (sym (after_bytes-append e text (print_end n)))
    (at_line (after_bytes e text) n (begun e text h))

after_fields : (e : HeadEnd) (fields : List Field) → is_at_line e ≡ true
    → is_at_line (after_bytes e (flat_map print_field fields)) ≡ true
after_fields e [] h = h
after_fields e (f ∷ fields) h =
    let whole : (f.name ++ 58 ∷ f.raw) ++ print_end f.end ≡ print_field f = simp append_assoc in
    let first = subst (λ l. is_at_line (after_bytes e l) ≡ true) whole
    (after_line e (f.name ++ 58 ∷ f.raw) f.end (line_begun e h)) in
    subst (λ s. is_at_line s ≡ true)
    (sym (after_bytes-append e (print_field f) (flat_map print_field fields)))
    (after_fields (after_bytes e (print_field f)) fields first)

after_section : (e : HeadEnd) (fields : List Field) (last : LineEnd) → is_at_line e ≡ true
    → after_bytes e (print_section fields last) ≡ end.Over
after_section e fields last h =
    after_bytes-append e (flat_map print_field fields) (print_end last)
    ∙ ends_there (after_bytes e (flat_map print_field fields)) last (after_fields e fields h)

-- empty lines, a first line with a byte, and a section end with an empty line
over : (blank : List LineEnd) (first : ℕ) (text : List ℕ) (n : LineEnd) (fields : List Field)
    (last : LineEnd) (rest : List ℕ) → ((first == 10) || (first == 13)) ≡ false
    → after_bytes end.Blank
    ((print_blank blank ++ ((first ∷ text) ++ print_end n) ++ print_section fields last) ++ rest)
    ≡ end.Over
over blank first text n fields last rest other =
    let line = (first ∷ text) ++ print_end n in
    let section = print_section fields last in
    let start : after_byte end.Blank first ≡ end.Inside =
    ap (λ t. if t then end.Blank else end.Inside) other in
    let lined : is_at_line (after_bytes end.Blank line) ≡ true =
    subst (λ s. is_at_line (after_bytes s (text ++ print_end n)) ≡ true) (sym start)
    (after_line end.Inside text n refl) in
    let front : after_bytes end.Blank (print_blank blank ++ line) ≡ after_bytes end.Blank line =
    after_bytes-append end.Blank (print_blank blank) line
    ∙ ap (λ s. after_bytes s line) (blank_stays blank) in
    after_bytes-append end.Blank ((print_blank blank ++ line) ++ section) rest
    ∙ ap (λ s. after_bytes s rest) (after_bytes-append end.Blank (print_blank blank ++ line) section
    ∙ ap (λ s. after_bytes s section) front
    ∙ after_section (after_bytes end.Blank line) fields last lined)
    ∙ over_stays rest

-- an empty line ends the head of a response, which begins with a letter
pub response_over : (buf : List ℕ) (h : ResponseHead) (rest : List ℕ) → ReadsResponse buf h rest
    → after_bytes end.Blank buf ≡ end.Over
unfolding print_response
response_over buf h rest reads =
    let text : List ℕ = codes "TTP/1." ++ (48 + h.minor) ∷ 32 ∷ h.digits ++ print_reason h.reason in
    let same : (print_blank h.blank ++ ((72 ∷ text) ++ print_end h.line_end) ++ print_section h.fields h.last) ++ rest ≡ print_response h ++ rest
    = simp append_assoc in
    let whole : (print_blank h.blank ++ ((72 ∷ text) ++ print_end h.line_end) ++ print_section h.fields h.last) ++ rest ≡ buf
    = same ∙ sym reads.1 in
    subst (λ l. after_bytes end.Blank l ≡ end.Over) whole
    (over h.blank 72 text h.line_end h.fields h.last rest refl)

-- one more byte
pub after_next : (e all : HeadEnd) (bytes : List ℕ) (i : ℕ) → i < length bytes
    → after_bytes e (drop i bytes) ≡ all
    → after_bytes (after_byte e (get_or bytes i 0)) (drop (i + 1) bytes) ≡ all
after_next e all bytes i fits h =
    rw add-one (ap (after_bytes e) (sym (drop-cons bytes i 0 fits)) ∙ h)

-- if no empty line has come, there is no complete head
pub no_response_yet : (buf : List ℕ) → is_over (after_bytes end.Blank buf) ≡ false
    → HasNoResponse buf
no_response_yet buf h head rest reads =
    let over = ap is_over (response_over buf head rest reads) in absurd (differ (sym over ∙ h))
  where
    differ : true ≡ false → ⊥
    differ e = cc

-- a token doesn't begin with a byte of a line end
token_begins : (b : ℕ) → is_token_byte b ≡ true → ((b == 10) || (b == 13)) ≡ false
unfolding is_token_byte
token_begins b h = either (b == 10) (b == 13) refl refl
  where
    either : (s t : Bool) → (b == 10) ≡ s → (b == 13) ≡ t → (s || t) ≡ false
    either true t e f =
        let none : is_token_byte 10 ≡ true = subst (λ x. is_token_byte x ≡ true) (eqb-true b 10 e) h in
        cc
    either false true e f =
        let none : is_token_byte 13 ≡ true = subst (λ x. is_token_byte x ≡ true) (eqb-true b 13 f) h in
        cc
    either false false e f = refl

-- the parts of a request's first line as one line
regroup : (blank m a b e s : List ℕ)
    → blank ++ m ++ a ++ b ++ e ++ s ≡ (blank ++ ((m ++ (a ++ b)) ++ e)) ++ s
regroup blank m a b e s = simp append_assoc

-- a request's text after its empty lines begins with its method
request_text : (h : RequestHead) (first : ℕ) (more : List ℕ) → h.method ≡ first ∷ more
    → print_request h
    ≡ (print_blank h.blank ++ (((first ∷ more) ++ (32 ∷ (h.target ++ (32 ∷ print_version h.minor))))
    ++ print_end h.line_end)) ++ print_section h.fields h.last
unfolding print_request
request_text h first more e =
    regroup (print_blank h.blank) h.method (32 ∷ h.target) (32 ∷ print_version h.minor) (print_end h.line_end)
    (print_section h.fields h.last)
    ∙ ap (λ m. (print_blank h.blank ++ ((m ++ (32 ∷ (h.target ++ (32 ∷ print_version h.minor))))
    ++ print_end h.line_end)) ++ print_section h.fields h.last) e

pub request_over : (buf : List ℕ) (h : RequestHead) (rest : List ℕ) → ReadsRequest buf h rest
    → after_bytes end.Blank buf ≡ end.Over
request_over buf h rest reads = by_method h.method refl reads.0.method.0 reads.0.method.1
  where
    by_method : (m : List ℕ) → h.method ≡ m → 0 < length m → All (λ x. is_token_byte x ≡ true) m
        → after_bytes end.Blank buf ≡ end.Over
    by_method [] e some tokens = absurd (omega arith)
    by_method (first ∷ more) e some tokens =
        let text = more ++ (32 ∷ (h.target ++ (32 ∷ print_version h.minor))) in
        subst (λ l. after_bytes end.Blank l ≡ end.Over)
        (ap (λ l. l ++ rest) (sym (request_text h first more e)) ∙ sym reads.1)
        (over h.blank first text h.line_end h.fields h.last rest (token_begins first (tokens 0 0 (omega arith))))

-- if no empty line has come, there is no complete head
pub no_request_yet : (buf : List ℕ) → is_over (after_bytes end.Blank buf) ≡ false
    → HasNoRequest buf
no_request_yet buf h head rest reads =
    let over = ap is_over (request_over buf head rest reads) in absurd (differ (sym over ∙ h))
  where
    differ : true ≡ false → ⊥
    differ e = cc
