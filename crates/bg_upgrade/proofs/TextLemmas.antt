-- The end of a head that is taken off.
use Rattle.std.proofs.Common.{◌≡◌, ℕ, true, false, not, if◌then◌else◌, ◌==◌, ◌&&◌, ◌-◌, List, [], ◌++◌, length, take, flat_map, codes, refl, ap, ap₂, ◌∙◌, arith, Option, Some, None}
use Rattle.std.specs.Fmt.{decimal}
use Rattle.std.specs.Prelude.{OnOk, Result, Ok, Err, is_err, is_none}
use Rattle.std.proofs.lemmas.List.{append-nil, length-append}
use Rattle.std.proofs.Math.Seq.{take-append_seam}
use Rattle.bg_http.specs.Elements.{has_field}
use Rattle.bg_http.specs.Removed.{kept_in_request, kept_in_response}
use Rattle.bg_http.specs.Texts.{field_line, host_line, request_head_text, request_line, response_head_text, size_line, status_line, via_line}
use Rattle.bg_http.specs.declared.body_end.BodyEnd.TheVariants as end
use Rattle.bg_http.specs.declared.request.Request.{Request}
use Rattle.bg_http.specs.declared.response.Response.{Response}
use Rattle.bg_http.specs.declared.response.ResponseHead.{ResponseHead}
use Rattle.bg_upgrade.specs.HeadTexts.{acceptance_text, bare_response, upgrade_lines}
use Rattle.bg_upgrade.specs.Upgrades.{asks_for_upgrade}
use Rattle.bg_upgrade.proofs.LawLemmas.{asks, is_not}

-- what holds on success of what did not fail
pub on_success : {T E : Type 0} (r : Result T E) (P : Type 0) → is_err r ≡ false → OnOk r P → P
on_success (Ok v) P e h = h
on_success (Err x) P e h = cc

-- a head without its empty line
reopened : (front : List ℕ) → take (length (front ++ codes "\r\n") - 2) (front ++ codes "\r\n") ≡ front
reopened front =
    let short : length (front ++ codes "\r\n") - 2 ≡ length front = omega (arith, length-append front (codes "\r\n")) in
    ap (λ n. take n (front ++ codes "\r\n")) short ∙ take-append_seam front (codes "\r\n")

-- a request of version 1.1 gets no Host of its own, and one without a body no length
no_host : (request : Request) (port : ℕ) → (request.minor == 0) ≡ false → host_line request port ≡ []
no_host request port e =
    ap (λ t. if t && not (has_field (codes "host") request.fields)
    then codes "Host: 127.0.0.1:" ++ decimal port ++ codes "\r\n" else []) e

no_size : (body : Option (List ℕ)) → is_none body ≡ true → size_line body ≡ []
no_size None e = refl
no_size (Some body) e = cc

plain : (r f v e : List ℕ) → r ++ [] ++ f ++ v ++ [] ++ e ≡ (r ++ f ++ v) ++ e
plain r f v e = simp append-nil

-- the head of a request up to its end
abbrev pub request_front : Request → List ℕ
request_front request =
    request_line request ++ flat_map field_line (kept_in_request request.fields) ++ via_line request

pub front_of_upgrade : (request : Request) (port : ℕ) → asks_for_upgrade request ≡ true
    → request_head_text true request port ≡ request_front request ++ codes "\r\n"
front_of_upgrade request port e =
    let was = asks request e in
    ap₂ (λ h s. request_line request ++ h ++ flat_map field_line (kept_in_request request.fields) ++ via_line request
    ++ s ++ codes "\r\n")
    (no_host request port (is_not (request.minor == 0) was.minor)) (no_size request.body was.body)
    ∙ plain (request_line request) (flat_map field_line (kept_in_request request.fields)) (via_line request)
    (codes "\r\n")

-- the head of a response, with other lines in the place of its empty line
pub accepted : (head : ResponseHead) (response : Response) (written : List ℕ) → response ≡ bare_response head
    → written ≡ response_head_text true end.Length response
    → take (length written - 2) written ++ upgrade_lines response.fields ≡ acceptance_text head
accepted head response written is text =
    let front : List ℕ = status_line (bare_response head) ++ flat_map field_line (kept_in_response head.fields) in
    let whole : written ≡ front ++ codes "\r\n"
    = text ∙ ap (response_head_text true end.Length) is ∙ ap (λ l. l ++ codes "\r\n") (append-nil front) in
    ap (λ l. take (length l - 2) l ++ upgrade_lines response.fields) whole
    ∙ ap (λ l. l ++ upgrade_lines response.fields) (reopened front)
    ∙ ap (λ (r : Response). front ++ upgrade_lines r.fields) is
