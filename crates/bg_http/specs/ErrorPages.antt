-- The pages that refusals may have as their bodies.
use Rattle.std.specs.Prelude.{ℕ, Bool, if◌then◌else◌, List, [], ◌++◌, length, codes}
use Rattle.std.specs.Fmt.{decimal}
use Rattle.bg_http.specs.Accepts.{accepts_html}
use Rattle.bg_http.specs.Elements.{Field}
use Rattle.bg_http.specs.Texts.{reason_of}
use Rattle.bg_http.specs.declared.error_page.ErrorPage.{ErrorPage}
use Rattle.bg_http.specs.declared.error_page.ErrorPage.TheVariants as page

-- the page for a request with these fields: HTML only if the client asks for it
abbrev pub page_for : List Field → ErrorPage
page_for fields = if accepts_html fields then page.Html else page.Text

-- the media type of a page (RFC 9110 section 8.3.1)
abbrev pub media_type : ErrorPage → List ℕ
media_type page.Text = codes "text/plain; charset=utf-8"
media_type page.Html = codes "text/html; charset=utf-8"

-- the status code and its reason
abbrev pub title_of : ℕ → List ℕ
title_of status = decimal status ++ (codes " " ++ reason_of status)

-- the page itself
abbrev pub page_body : ErrorPage → ℕ → List ℕ
page_body page.Text status = title_of status ++ codes "\n"
page_body page.Html status =
    codes "<!DOCTYPE html>\n<title>" ++ (title_of status ++ (codes "</title>\n<h1>"
    ++ (title_of status ++ codes "</h1>\n")))

-- the page as it is sent: not at all to HEAD (RFC 9110 section 9.3.2)
abbrev pub page_sent : Bool → ErrorPage → ℕ → List ℕ
page_sent to_head page status = if to_head then [] else page_body page status

-- the head of a refusal with a page; the length is that of the page, also to HEAD
abbrev pub page_head : ErrorPage → ℕ → List ℕ
page_head page status =
    codes "HTTP/1.1 " ++ (decimal status ++ (codes " " ++ (reason_of status
    ++ (codes "\r\nContent-Type: " ++ (media_type page ++ (codes "\r\nContent-Length: "
    ++ (decimal (length (page_body page status)) ++ codes "\r\nConnection: close\r\n\r\n")))))))

-- a refusal with a page
abbrev pub error_page_text : Bool → ErrorPage → ℕ → List ℕ
error_page_text to_head page status = page_head page status ++ page_sent to_head page status
