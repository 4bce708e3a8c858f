-- The head that is written before chunks is judged as one before chunks.
use Rattle.std.proofs.Common.{◌≡◌, Bool, true, false, not, ◌||◌, List, [], ◌∷◌, ◌++◌, refl, ap, ap₂, ◌∙◌, Ok, Err}
use Rattle.std.specs.Prelude.{codes, filter, if◌then◌else◌}
use Rattle.std.proofs.lemmas.Grind.{flat_map-append}
use Rattle.std.proofs.lemmas.List.Folds.{list_any-append}
use Rattle.bg_http.specs.Codings.{is_empty}
use Rattle.bg_http.specs.Elements.{Field, elements, elements_named, has_field, is_named}
use Rattle.bg_http.specs.Lengths.{content_length}
use Rattle.bg_http.specs.Removed.{kept_in_response}
use Rattle.bg_http.specs.ResponseRules.{framing_by_codings, framing_by_length, has_no_body, is_bad_code, is_chunked_only, is_interim, response_framing}
use Rattle.bg_http.specs.declared.body_end.BodyEnd.TheVariants as ends
use Rattle.bg_http.specs.declared.request.Request.{Request}
use Rattle.bg_http.specs.declared.response.Response.{Response}
use Rattle.bg_http.specs.declared.response.ResponseHead.{ResponseHead}
use Rattle.bg_http.specs.declared.response_fault.ResponseFault.TheVariants as fault
use Rattle.bg_http.specs.declared.response_rules.ResponseFraming.TheVariants as framing
use Rattle.bg_http_read.specs.ForwardedRequests.{closing_fields}
use Rattle.bg_http_read.specs.WrittenHeads.{IsJudgedInChunks, written_head}
use Rattle.bg_http_read.proofs.AnsweredRules.{framing_behind}
use Rattle.bg_http_read.proofs.ForwardedRules.{NoneGoesOn}
use Rattle.bg_http_read.proofs.GivenLength.{no_elements}
use Rattle.bg_http_read.proofs.WrittenResponses.{judged_code}

-- the fields behind those that are kept
abbrev tail_of : Bool → List Field
tail_of keeps = (codes "Transfer-Encoding", codes "chunked") ∷ closing_fields keeps

named_in_tail : (keeps : Bool) → has_field (codes "transfer-encoding") (tail_of keeps) ≡ true
named_in_tail true = refl
named_in_tail false = refl

coded_in_tail : (keeps : Bool) → elements_named (codes "transfer-encoding") (tail_of keeps) ≡ codes "chunked" ∷ []
coded_in_tail true = refl
coded_in_tail false = refl

chunks_passes : NoneGoesOn (codes "transfer-encoding") → (keeps : Bool) (request : Request) (response : Response)
    → is_bad_code response.code ≡ false → is_interim response.code ≡ false → has_no_body request response.code ≡ false
    → response_framing request (written_head keeps ends.Chunks response) ≡ Ok framing.Chunks
chunks_passes codings keeps request response sound final some =
    ap (λ t. if t then Err fault.Bad else (if is_interim response.code then Ok framing.Interim else framing_behind head (has_no_body request response.code))) sound
    ∙ ap (λ t. if t then Ok framing.Interim else framing_behind head (has_no_body request response.code)) final
    ∙ ap (framing_behind head) some
    ∙ ap (λ t. if t then framing_by_codings head else framing_by_length (content_length head.fields)) named
    ∙ ap (λ l. if is_chunked_only (filter (λ element. not (is_empty element)) l) then Ok framing.Chunks else Err fault.Bad) coded
  where
    head : ResponseHead
    head = written_head keeps ends.Chunks response

    kept : List Field
    kept = kept_in_response response.fields

    named : has_field (codes "transfer-encoding") head.fields ≡ true
    named =
        list_any-append (is_named (codes "transfer-encoding")) kept (tail_of keeps)
        ∙ ap₂ (λ a b. a || b) (codings response.fields).1 (named_in_tail keeps)

    coded : elements_named (codes "transfer-encoding") head.fields ≡ codes "chunked" ∷ []
    coded =
        let g = λ (field : Field). if is_named (codes "transfer-encoding") field then elements field.1 else [] in
        flat_map-append g kept (tail_of keeps)
        ∙ ap₂ (λ a b. a ++ b) (no_elements (codes "transfer-encoding") kept (codings response.fields).1) (coded_in_tail keeps)

pub judged_in_chunks : NoneGoesOn (codes "transfer-encoding") → (keeps : Bool) (request : Request) (response : Response)
    → IsJudgedInChunks keeps request response
judged_in_chunks codings keeps request response h some =
    let judged = judged_code h.most request h.head h.named h.came.holds.0.judged h.came.holds.1 in
    chunks_passes codings keeps request response (ap is_bad_code h.code_is ∙ judged.0) (ap is_interim h.code_is ∙ judged.1) some
