-- A refusal with a page is read as it is written.
use Rattle.std.proofs.Common.{◌≡◌, ℕ, ◌<◌, ◌≤◌, ◌^◌, Bool, true, false, ◌||◌, ◌==◌, IsTrue, List, [], ◌∷◌, ◌++◌, length, get_or, refl, ap, sym, ◌∙◌, arith, subst, append_assoc, Some}
use Rattle.std.specs.Prelude.{codes, if◌then◌else◌, nat_le, nat_lt}
use Rattle.std.specs.Fmt.{decimal, digits}
use Rattle.std.proofs.lemmas.Bool.{eqb-true, leb-true, ltb-true}
use Rattle.std.proofs.lemmas.Fmt.{decimal_is_IsNumeral, first_decimal}
use Rattle.std.proofs.lemmas.List.{append-nil}
use Rattle.httparse.specs.Grammar.{is_token_byte}
use Rattle.bg_http.specs.ErrorPages.{error_page_text, media_type, page_body, page_sent}
use Rattle.bg_http.specs.Lengths.{without_zeros}
use Rattle.bg_http.specs.ResponseRules.{asks_for_head, digits_or_zero, has_no_body}
use Rattle.bg_http.specs.Statuses.{is_refusal}
use Rattle.bg_http.specs.Texts.{reason_of, response_text}
use Rattle.bg_http.specs.declared.error_page.ErrorPage.{ErrorPage}
use Rattle.bg_http.specs.declared.error_page.ErrorPage.TheVariants as page
use Rattle.bg_http.specs.declared.request.Request.{Request}
use Rattle.bg_http_read.specs.AnsweredRequests.{page_refusal}
use Rattle.bg_http_read.specs.Responses.{most_response_body}
use Rattle.bg_http_read.proofs.AnsweredHeads.{IsWritable}
use Rattle.bg_http_read.specs.PlainHeads.{IsPlainField}
use Rattle.bg_http_read.proofs.FieldTexts.{good_text, one_good}
use Rattle.bg_http_read.proofs.WrittenResponses.{by_status, refusal_is_writable}

-- the media type is a field's value
good_type : (kind : ErrorPage) → IsPlainField (codes "Content-Type", media_type kind)
unfolding is_token_byte
good_type page.Text =
    good_text (codes "Content-Type") (codes "text/plain; charset=utf-8") (omega arith) refl refl refl refl
good_type page.Html =
    good_text (codes "Content-Type") (codes "text/html; charset=utf-8") (omega arith) refl refl refl refl

-- a page has some bytes, and not many
abbrev IsShort : ErrorPage → ℕ → Type 0
IsShort kind status = (0 < length (page_body kind status)) × (length (page_body kind status) ≤ 200)

short : (kind : ErrorPage) (status : ℕ) → nat_lt 0 (length (page_body kind status)) ≡ true
    → nat_le (length (page_body kind status)) 200 ≡ true → IsShort kind status
short kind status some few =
    (ltb-true 0 (length (page_body kind status)) some, leb-true (length (page_body kind status)) 200 few)

short_page : (kind : ErrorPage) (status : ℕ) → IsTrue (is_refusal status) → IsShort kind status
unfolding digits
short_page page.Text =
    by_status (IsShort page.Text) (short page.Text 400 refl refl) (short page.Text 413 refl refl)
    (short page.Text 431 refl refl) (short page.Text 501 refl refl) (short page.Text 502 refl refl)
    (short page.Text 503 refl refl)
short_page page.Html =
    by_status (IsShort page.Html) (short page.Html 400 refl refl) (short page.Html 413 refl refl)
    (short page.Html 431 refl refl) (short page.Html 501 refl refl) (short page.Html 502 refl refl)
    (short page.Html 503 refl refl)

-- a number above zero is written without leading zeros
told_as_is : (digits : List ℕ) → 48 < get_or digits 0 0 → digits_or_zero (without_zeros digits) ≡ digits
told_as_is [] high = absurd (omega (arith, high))
told_as_is (digit ∷ more) high = by_test (digit == 48) refl
  where
    by_test : (t : Bool) → (digit == 48) ≡ t → digits_or_zero (without_zeros (digit ∷ more)) ≡ digit ∷ more
    by_test true e = let zero = eqb-true digit 48 e in absurd (omega (arith, high, zero))
    by_test false e = rw e refl

-- of the answers with a status of a refusal, only those to HEAD have no body
without_body : (request : Request) (status : ℕ) → IsTrue (is_refusal status)
    → has_no_body request status ≡ asks_for_head request
without_body request =
    let same = only (asks_for_head request) in
    by_status (λ status. has_no_body request status ≡ asks_for_head request) same same same same same same
  where
    only : (b : Bool) → (b || false || false) ≡ b
    only true = refl
    only false = refl

not_sent : (to_head : Bool) (kind : ErrorPage) (status : ℕ) → to_head ≡ true → page_sent to_head kind status ≡ []
not_sent true kind status e = refl
not_sent false kind status e = cc

pub page_is_writable : (kind : ErrorPage) (request : Request) (status : ℕ) → IsTrue (is_refusal status)
    → IsWritable request (page_refusal kind request status)
page_is_writable kind request status refuses =
    let plain = refusal_is_writable request status refuses in
    let same = without_body request status refuses in
    let size = short_page kind status refuses in
    let small : length (page_body kind status) < 2 ^ 64 = omega (arith, size.1) in
    record {
      digits = plain.digits;
      value = plain.value;
      reason = plain.reason;
      fields = one_good (codes "Content-Type", media_type kind) (good_type kind);
      sound = plain.sound;
      final = plain.final;
      number = (decimal_is_IsNumeral (length (page_body kind status)) small).0;
      empty = λ none. not_sent (asks_for_head request) kind status (sym same ∙ none);
      told = λ none. told_as_is (decimal (length (page_body kind status)))
          (first_decimal (length (page_body kind status)) size.0 small);
      untold = λ content. let wrong = plain.untold content in cc;
      sized = λ some.
          let body : asks_for_head request ≡ false = sym same ∙ some in
          let within : length (page_body kind status) ≤ most_response_body = omega (arith, size.1) in (
            ap (λ t. Some (decimal (length (page_sent t kind status)))) (sym body),
            subst (λ t. length (page_sent t kind status) ≤ most_response_body) (sym body) within,
          );
    }

-- a refusal with a page is written as the response that it is
pub page_is : (kind : ErrorPage) (request : Request) (status : ℕ) → IsTrue (is_refusal status)
    → error_page_text (asks_for_head request) kind status
    ≡ response_text false request (page_refusal kind request status)
page_is kind request status refuses =
    parts (codes "HTTP/1.1 ") (decimal status) (codes " ") (reason_of status) (codes "\r\n") (codes "Content-Type: ")
    (media_type kind) (codes "Content-Length: ") (decimal (length (page_body kind status)))
    (codes "Connection: close\r\n\r\n") (page_sent (asks_for_head request) kind status)
    ∙ ap (λ b. (codes "HTTP/1.1 " ++ decimal status ++ codes " " ++ reason_of status ++ codes "\r\n")
    ++ ((codes "Content-Type: " ++ media_type kind ++ codes "\r\n") ++ [])
    ++ (codes "Content-Length: " ++ decimal (length (page_body kind status)) ++ codes "\r\n")
    ++ codes "Connection: close\r\n\r\n" ++ b)
    (sym (ap (λ t. if t then [] else page_sent (asks_for_head request) kind status) (without_body request status refuses)
    ∙ sent_once (asks_for_head request)))
  where
    parts : (a d s r e t m l n c b : List ℕ)
        → (a ++ (d ++ (s ++ (r ++ ((e ++ t) ++ (m ++ ((e ++ l) ++ (n ++ (e ++ c))))))))) ++ b
        ≡ (a ++ d ++ s ++ r ++ e) ++ ((t ++ m ++ e) ++ []) ++ (l ++ n ++ e) ++ c ++ b
    parts a d s r e t m l n c b = simp (append_assoc, append-nil)

    sent_once : (t : Bool) → if◌then◌else◌ {A = List ℕ} t [] (page_sent t kind status) ≡ page_sent t kind status
    sent_once true = refl
    sent_once false = refl
