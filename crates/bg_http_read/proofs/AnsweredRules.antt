-- An answer passes the rules, and its body ends where its text ends.
use Rattle.std.proofs.Common.{◌≡◌, ℕ, ◌<◌, ◌≤◌, ◌^◌, Bool, true, false, ◌||◌, ◌==◌, List, [], ◌∷◌, ◌++◌, length, refl, ap, ap₂, sym, ◌∙◌, arith, Option, Some, None, Result, Ok, Err}
use Rattle.std.specs.Prelude.{codes, if◌then◌else◌}
use Rattle.std.specs.Fmt.{decimal}
use Rattle.std.proofs.lemmas.Bool.{or_from}
use Rattle.std.proofs.lemmas.Fmt.{decimal_is_IsNumeral}
use Rattle.std.proofs.lemmas.Grind.{flat_map-append}
use Rattle.std.proofs.lemmas.List.{append-nil}
use Rattle.std.proofs.lemmas.List.Folds.{list_any-append}
use Rattle.bg_http.specs.Elements.{Field, elements, elements_named, has_field, is_named}
use Rattle.bg_http.specs.Lengths.{content_length, length_of}
use Rattle.bg_http.specs.Removed.{kept_in_response}
use Rattle.bg_http.specs.ResponseRules.{framing_by_codings, framing_by_length, framing_by_length_within, has_no_body, is_interim, length_told, or_too_large, response_framing, valid_length}
use Rattle.bg_http.specs.Texts.{body_sent}
use Rattle.bg_http.specs.declared.request.Request.{Request}
use Rattle.bg_http.specs.declared.response.Response.{Response}
use Rattle.bg_http.specs.declared.response.ResponseHead.{ResponseHead}
use Rattle.bg_http.specs.declared.response_fault.ResponseFault.{ResponseFault}
use Rattle.bg_http.specs.declared.response_fault.ResponseFault.TheVariants as fault
use Rattle.bg_http.specs.declared.response_rules.ResponseFraming.{ResponseFraming}
use Rattle.bg_http.specs.declared.response_rules.ResponseFraming.TheVariants as framing
use Rattle.bg_http_read.specs.AnsweredRequests.{forwarded_response, length_fields}
use Rattle.bg_http_read.specs.ForwardedRequests.{closing_fields}
use Rattle.bg_http_read.specs.Responses.{IsResponse, ReadsResponseBody, length_of_response, most_response_body}
use Rattle.bg_http_read.proofs.AnsweredHeads.{IsNumber, IsTold, IsWritable, answered_head, fields_of}
use Rattle.bg_http_read.proofs.ForwardedRules.{NoneGoesOn}
use Rattle.bg_http_read.proofs.GivenLength.{length_within_is, no_lengths, one_element, one_length}

-- ---- no coding, and the given length

no_coding_in_tail : (keeps : Bool) (given : Option (List ℕ))
    → has_field (codes "transfer-encoding") (length_fields given ++ closing_fields keeps) ≡ false
no_coding_in_tail true None = refl
no_coding_in_tail true (Some digits) = refl
no_coding_in_tail false None = refl
no_coding_in_tail false (Some digits) = refl

no_coding : NoneGoesOn (codes "transfer-encoding") → (keeps : Bool) (response : Response)
    → has_field (codes "transfer-encoding") (fields_of keeps response) ≡ false
no_coding codings keeps response =
    list_any-append (is_named (codes "transfer-encoding")) (kept_in_response response.fields) _
    ∙ or_from _ _ (codings response.fields).1 (no_coding_in_tail keeps response.length)

abbrev pub given_of : Option (List ℕ) → List (List ℕ)
given_of None = []
given_of (Some digits) = digits ∷ []

given_in_tail : (keeps : Bool) (given : Option (List ℕ)) → IsNumber given
    → elements_named (codes "content-length") (length_fields given ++ closing_fields keeps) ≡ given_of given
given_in_tail true None h = refl
given_in_tail true (Some digits) h = append-nil (elements digits) ∙ one_element digits h.1
given_in_tail false None h = refl
given_in_tail false (Some digits) h = append-nil (elements digits) ∙ one_element digits h.1

given_lengths : NoneGoesOn (codes "content-length") → (keeps : Bool) (response : Response)
    → IsNumber response.length
    → elements_named (codes "content-length") (fields_of keeps response) ≡ given_of response.length
given_lengths lengths keeps response number =
    let g = λ (field : Field). if is_named (codes "content-length") field then elements field.1 else [] in
    let kept = kept_in_response response.fields in
    flat_map-append g kept (length_fields response.length ++ closing_fields keeps)
    ∙ ap₂ (λ a b. a ++ b) (no_lengths kept (lengths response.fields).1) (given_in_tail keeps response.length number)

-- ---- the framing

-- the framing of an answer
abbrev pub answered_framing : Bool → Response → ResponseFraming
answered_framing empty response = if empty then framing.NoBody else framing.Length (length response.body)

length_read : (body : List ℕ) → length body ≤ most_response_body
    → framing_by_length (length_of (given_of (Some (decimal (length body))))) ≡ Ok (framing.Length (length body))
length_read body fits =
    let n = length body in
    let small : n < 2 ^ 64 = omega (arith, fits) in
    let numeral = (decimal_is_IsNumeral n small).0 in
    ap framing_by_length (one_length (decimal n) numeral.0 numeral.1)
    ∙ ap or_too_large (length_within_is most_response_body n small fits)

-- the framing of a head whose code is sound and final
abbrev pub framing_behind_within : ℕ → ResponseHead → Bool → Result ResponseFraming ResponseFault
framing_behind_within most head empty =
    if empty then Ok framing.NoBody
    else (if has_field (codes "transfer-encoding") head.fields then framing_by_codings head
    else framing_by_length_within most (content_length head.fields))

abbrev pub framing_behind : ResponseHead → Bool → Result ResponseFraming ResponseFault
framing_behind head empty = framing_behind_within most_response_body head empty

pub answer_passes : NoneGoesOn (codes "transfer-encoding") → NoneGoesOn (codes "content-length") → (keeps : Bool)
    (request : Request) (response : Response) → IsWritable request response
    → response_framing request (answered_head keeps response)
    ≡ Ok (answered_framing (has_no_body request response.code) response)
answer_passes codings lengths keeps request response w =
    ap (λ t. if t then Err fault.Bad else (if is_interim response.code then Ok framing.Interim else framing_behind (answered_head keeps response) (has_no_body request response.code))) w.sound
    ∙ ap (λ t. if t then Ok framing.Interim else framing_behind (answered_head keeps response) (has_no_body request response.code)) w.final
    ∙ by_test (has_no_body request response.code) w.sized
  where
    head : ResponseHead
    head = answered_head keeps response

    by_test : (empty : Bool)
        → (empty ≡ false → (response.length ≡ Some (decimal (length response.body)))
        × (length response.body ≤ most_response_body))
        → framing_behind head empty ≡ Ok (answered_framing empty response)
    by_test true sized = refl
    by_test false sized =
        let size = sized refl in
        ap (λ t. if t then framing_by_codings head else framing_by_length (content_length head.fields)) (no_coding codings keeps response)
        ∙ ap (λ l. framing_by_length (length_of l)) (given_lengths lengths keeps response w.number)
        ∙ ap (λ l. framing_by_length (length_of (given_of l))) size.0
        ∙ length_read response.body size.1

-- ---- the length that is told of a body that isn't there

told_again : (given : Option (List ℕ)) → IsNumber given → IsTold given → valid_length (length_of (given_of given)) ≡ given
told_again None number told = refl
told_again (Some digits) number told =
    ap valid_length (one_length digits number.0 number.1) ∙ ap Some told

length_told_again : NoneGoesOn (codes "transfer-encoding") → NoneGoesOn (codes "content-length") → (keeps : Bool)
    (request : Request) (response : Response) → IsWritable request response → IsTold response.length
    → length_told (answered_head keeps response) ≡ response.length
length_told_again codings lengths keeps request response w told =
    ap (λ t. if (response.code == 204) || t then None else valid_length (content_length (fields_of keeps response))) (no_coding codings keeps response)
    ∙ by_test (response.code == 204) w.untold
  where
    by_test : (none : Bool) → (none ≡ true → response.length ≡ None)
        → (if none || false then None else valid_length (content_length (fields_of keeps response))) ≡ response.length
    by_test true untold = sym (untold refl)
    by_test false untold =
        ap (λ l. valid_length (length_of l)) (given_lengths lengths keeps response w.number)
        ∙ told_again response.length w.number told

-- ---- the answer

pub answer_is : NoneGoesOn (codes "transfer-encoding") → NoneGoesOn (codes "content-length") → (keeps : Bool)
    (request : Request) (response : Response) (more : List ℕ) → IsWritable request response
    → IsResponse (forwarded_response keeps response) (answered_head keeps response)
    (answered_framing (has_no_body request response.code) response) (body_sent request response ++ more) more
answer_is codings lengths keeps request response more w = record {
  body = body (has_no_body request response.code) w.empty;
  code_is = refl;
  reason_is = refl;
  fields_are = refl;
  length_is = given (has_no_body request response.code) w.told w.sized;
}
  where
    body : (none : Bool) → (none ≡ true → response.body ≡ [])
        → ReadsResponseBody (answered_framing none response) ((if none then [] else response.body) ++ more) response.body more
    body true empty = (empty refl, refl)
    body false empty = (refl, refl)

    given : (none : Bool) → (none ≡ true → IsTold response.length)
        → (none ≡ false → (response.length ≡ Some (decimal (length response.body)))
        × (length response.body ≤ most_response_body))
        → response.length ≡ length_of_response (answered_framing none response) (answered_head keeps response) response.body
    given true told sized = sym (length_told_again codings lengths keeps request response w (told refl))
    given false told sized = (sized refl).0
