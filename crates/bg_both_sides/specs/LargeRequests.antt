-- A client's connection while its large request is passed on by the caller, before, and after that.
use Rattle.std.specs.Prelude.{◌≡◌, ◌⊎◌, ℕ, false, Option, Some, None, Ok, Err}
use Rattle.bg_http.specs.RefusalPages.{refusal_page, refused_text}
use Rattle.bg_http.specs.declared.refusal.RefusalBody.{RefusalBody}
use Rattle.bg_http.specs.declared.refusal.RefusalPage.{RefusalPage}
use Rattle.bg_http.specs.declared.request.Request.{Request}
use Rattle.bg_http.specs.declared.request_fault.RequestFault.TheVariants as fault
use Rattle.bg_client_side.specs.Clients.{Client, with_last_answer, without_any}
use Rattle.bg_client_side.specs.declared.facts.ClientSettings.{ClientSettings}
use Rattle.bg_both_sides.specs.Answers.{unwritten}
use Rattle.bg_both_sides.specs.Sides.{Sides}
use Rattle.bg_both_sides.specs.declared.endpoint_side.EndpointSide.TheVariants as side

-- no request is at an endpoint
abbrev pub without_request : Client → Sides
without_request client = record { client = client; endpoint = side.NoRequest }

-- the page of a refusal of this request, or of what is no request
abbrev pub page_of : RefusalBody → Option Request → Option RefusalPage
page_of body (Some request) = refusal_page body (Ok request)
page_of body None = refusal_page body (Err fault.Bad)

-- the connection ends after a refusal with this page and this status, or has left
abbrev pub IsLastRefusal : ClientSettings → Option RefusalPage → ℕ → ℕ → Sides → Type 0
IsLastRefusal settings page status now sides =
    ((weight : ℕ) × (sides
    ≡ without_request (with_last_answer settings (unwritten (refused_text page status) weight) false now)))
    ⊎ (sides ≡ without_request (without_any settings))
