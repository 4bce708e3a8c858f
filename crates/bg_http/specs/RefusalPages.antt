-- The page that a refusal has, and the text of the refusal.
use Rattle.std.specs.Prelude.{ℕ, Bool, true, false, List, Option, Some, None, Result, Ok, Err}
use Rattle.bg_http.specs.ErrorPages.{error_page_text, page_for}
use Rattle.bg_http.specs.ResponseRules.{asks_for_head}
use Rattle.bg_http.specs.Texts.{refusal_text}
use Rattle.bg_http.specs.declared.error_page.ErrorPage.TheVariants as page
use Rattle.bg_http.specs.declared.request.Request.{Request}
use Rattle.bg_http.specs.declared.request_fault.RequestFault.{RequestFault}
use Rattle.bg_http.specs.declared.refusal.RefusalBody.{RefusalBody}
use Rattle.bg_http.specs.declared.refusal.RefusalBody.TheVariants as body
use Rattle.bg_http.specs.declared.refusal.RefusalPage.{RefusalPage}

-- whether pages are asked for
abbrev pub body_of : Bool → RefusalBody
body_of false = body.Empty
body_of true = body.Page

-- the page by what was read: that for the request's fields, or a text if there is no request. There is
-- none without pages
abbrev pub refusal_page : RefusalBody → Result Request RequestFault → Option RefusalPage
refusal_page body.Empty read = None
refusal_page body.Page (Ok request) =
    Some (record { page = page_for request.fields; to_head = asks_for_head request })
refusal_page body.Page (Err fault) = Some (record { page = page.Text; to_head = false })

-- a refusal with this page, or the fixed one
abbrev pub refused_text : Option RefusalPage → ℕ → List ℕ
refused_text None status = refusal_text status
refused_text (Some sent) status = error_page_text sent.to_head sent.page status
