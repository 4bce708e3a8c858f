-- Pages that were worked out by hand. Evaluation alone proves each.
use Rattle.std.proofs.Common.{◌≡◌, ℕ, Bool, true, false, List, [], ◌∷◌, map, refl}
use Rattle.std.specs.Fmt.{digits}
use Rattle.std.specs.Prelude.{codes}
use Rattle.bg_http.specs.Accepts.{accepts_html}
use Rattle.bg_http.specs.ErrorPages.{error_page_text, page_for}
use Rattle.bg_http.specs.declared.error_page.ErrorPage.TheVariants as page

-- whether a client that sends Accept fields with these values accepts HTML
abbrev accepting : List (List ℕ) → Bool
accepting values = accepts_html (map (λ value. (codes "Accept", value)) values)

-- browsers name HTML, and other programs don't
browser : accepting (codes "text/html,application/xhtml+xml,application/xml;q=0.9,*/*;q=0.8" ∷ []) ≡ true
browser = refl

no_accept : accepting [] ≡ false
no_accept = refl

anything : accepting (codes "*/*" ∷ codes "text/*" ∷ []) ≡ false
anything = refl

another_type : accepting (codes "application/json, text/htmlx" ∷ []) ≡ false
another_type = refl

no_element : accepting (codes ", ;q=1," ∷ []) ≡ false
no_element = refl

-- in any case of the letters, in each element, and in each field
in_any_case : accepts_html ((codes "aCCept", codes "Text/HTML") ∷ []) ≡ true
in_any_case = refl

second_element : accepting (codes "application/json ,\ttext/html ;level=1" ∷ []) ≡ true
second_element = refl

second_field : accepting (codes "application/json" ∷ codes "text/html" ∷ []) ≡ true
second_field = refl

another_field : accepts_html ((codes "X-Accept", codes "text/html") ∷ []) ≡ false
another_field = refl

-- a weight of zero has at most three digits after its point, and each other weight is above zero
weight_zero : accepting (codes "text/html;q=0" ∷ codes "text/html;q=0." ∷ codes "text/html;q=0.0" ∷ []) ≡ false
weight_zero = refl

more_zeros : accepting (codes "text/html ; Q=0.00 , text/html;level=1; q=0.000" ∷ []) ≡ false
more_zeros = refl

least_weight : accepting (codes "text/html;q=0.001" ∷ []) ≡ true
least_weight = refl

not_a_weight : accepting (codes "text/html;xq=0" ∷ []) ≡ true
not_a_weight = refl

weight_zero_beside_another : accepting (codes "text/html;q=0, text/html;level=1" ∷ []) ≡ true
weight_zero_beside_another = refl

-- the page for a request's fields
html_for_browsers : page_for ((codes "Host", codes "x") ∷ (codes "Accept", codes "text/html") ∷ []) ≡ page.Html
html_for_browsers = refl

text_for_others : page_for ((codes "Host", codes "x") ∷ []) ≡ page.Text
text_for_others = refl

-- a page as it is written, with its length
text_goes_back : error_page_text false page.Text 503
    ≡ codes "HTTP/1.1 503 Service Unavailable\r\nContent-Type: text/plain; charset=utf-8\r\nContent-Length: 24\r\nConnection: close\r\n\r\n503 Service Unavailable\n"
unfolding digits
text_goes_back = refl

html_goes_back : error_page_text false page.Html 502
    ≡ codes "HTTP/1.1 502 Bad Gateway\r\nContent-Type: text/html; charset=utf-8\r\nContent-Length: 72\r\nConnection: close\r\n\r\n<!DOCTYPE html>\n<title>502 Bad Gateway</title>\n<h1>502 Bad Gateway</h1>\n"
unfolding digits
html_goes_back = refl

-- to HEAD, the head alone, with the length of the page
only_a_head_goes_back : error_page_text true page.Html 502
    ≡ codes "HTTP/1.1 502 Bad Gateway\r\nContent-Type: text/html; charset=utf-8\r\nContent-Length: 72\r\nConnection: close\r\n\r\n"
unfolding digits
only_a_head_goes_back = refl
