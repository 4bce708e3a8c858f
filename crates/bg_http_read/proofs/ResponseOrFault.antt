-- An input that begins with a response has no fault of the input.
use Rattle.std.proofs.Common.{◌≡◌, ◌⊎◌, ℕ, true, List, refl, ap, sym, ◌∙◌, arith, subst, Ok, Err, inl, inr}
use Rattle.bg_http.specs.ResponseRules.{response_framing}
use Rattle.bg_http.specs.declared.request.Request.{Request}
use Rattle.bg_http.specs.declared.response.Response.{Response}
use Rattle.bg_http.specs.declared.response.ResponseHead.{ResponseHead}
use Rattle.bg_http.specs.declared.response_rules.ResponseFraming.{ResponseFraming}
use Rattle.bg_http.specs.declared.response_rules.ResponseFraming.TheVariants as framing
use Rattle.bg_http.specs.declared.response_fault.ResponseFault.{ResponseFault}
use Rattle.bg_http.specs.declared.response_fault.ResponseFault.TheVariants as wrong
use Rattle.bg_http_read.specs.BodyFaults.{Failure, malformed, large, cut}
use Rattle.bg_http_read.specs.HeadFaults.{ResponseHeadFails}
use Rattle.bg_http_read.specs.Laws.{is_of_reading}
use Rattle.bg_http_read.specs.Heads.{ReadsResponseHead, response_heads}
use Rattle.bg_http_read.specs.Responses.{ReadsResponseBody, FramedResponseBodyFails, ResponseBodyFails, BreaksResponseRule, FinalHeadThen, ReadsResponse, ResponseFails, body_of_response, breaks_rule, no_head, no_heads, many_interim, no_body}
use Rattle.bg_http_read.proofs.FramedBodies.{framed_or_fault}
use Rattle.bg_http_read.proofs.HeadsFound.{not_cut, not_large, not_malformed, one_head, response_laws}
use Rattle.bg_http_read.proofs.OneResponse.{named_body}
use Rattle.bg_http_read.proofs.InterimOrder.{IsInterim, in_order, interim_earlier, final_or_interim}

pub head_or_fault : (input : List ℕ) (head : ResponseHead) (after : List ℕ) (e : ResponseFault)
    → ReadsResponseHead input head after → ResponseHeadFails input e → is_of_reading e ≡ true
head_or_fault input head after wrong.ReadFailed h f = refl
head_or_fault input head after wrong.HeadTooLarge h f =
    absurd (not_large response_heads response_laws input head after h f)
head_or_fault input head after wrong.Bad h f =
    absurd (not_malformed response_heads response_laws input head after h f)
head_or_fault input head after wrong.TooLarge h f = absurd f
head_or_fault input head after wrong.Closed h f =
    absurd (not_cut response_heads input head after h f)
head_or_fault input head after wrong.OutOfMemory h f = refl

body_or_failure : (named : ResponseFraming) (failure : Failure) (input body rest : List ℕ)
    → ReadsResponseBody named input body rest → FramedResponseBodyFails failure named input → ⊥
body_or_failure named failure input body rest h f =
    framed_or_fault (body_of_response named) failure input body rest (named_body named input body rest h) f

response_body_or_fault : (named : ResponseFraming) (input body rest : List ℕ) (e : ResponseFault)
    → ReadsResponseBody named input body rest → ResponseBodyFails named input e
    → is_of_reading e ≡ true
response_body_or_fault named input body rest wrong.ReadFailed h f = refl
response_body_or_fault named input body rest wrong.HeadTooLarge h f = absurd f
response_body_or_fault named input body rest wrong.Bad h f =
    absurd (body_or_failure named malformed input body rest h f)
response_body_or_fault named input body rest wrong.TooLarge h f =
    absurd (body_or_failure named large input body rest h f)
response_body_or_fault named input body rest wrong.Closed h f =
    absurd (body_or_failure named cut input body rest h f)
response_body_or_fault named input body rest wrong.OutOfMemory h f = refl

pub response_or_fault : (request : Request) (input : List ℕ) (response : Response)
    (e : ResponseFault) → ReadsResponse request response input → ResponseFails request input e
    → is_of_reading e ≡ true
response_or_fault request input response e (end, h) fails = by_fault fails
  where
    a : List ℕ
    a = h.after

    head : ResponseHead
    head = h.holds.0

    named : ResponseFraming
    named = h.holds.1

    after : List ℕ
    after = h.holds.2

    not_interim : IsInterim request a → ⊥
    not_interim = final_or_interim request a head named after h.holds.3.0 h.holds.3.1

    breaks : (b : List ℕ) → BreaksResponseRule request e b
        → (a ≡ b) ⊎ (IsInterim request a ⊎ IsInterim request b) → is_of_reading e ≡ true
    breaks b (other, rest, reads, broken) (inl same) =
        let heads = one_head response_heads response_laws a head other after rest h.holds.3.0.reads
        (subst (λ l. ReadsResponseHead l other rest) (sym same) reads) in
        let both : Ok named ≡ Err e =
        sym h.holds.3.0.judged ∙ ap (response_framing request) heads.0 ∙ broken in
        cc
    breaks b found (inr (inl interim)) = absurd (not_interim interim)
    breaks b (other, rest, reads, broken) (inr (inr (second, next, judged))) =
        let heads = one_head response_heads response_laws b other second rest next reads judged.reads in
        let both : Err e ≡ Ok framing.Interim =
        sym broken ∙ ap (response_framing request) heads.0 ∙ judged.judged in
        cc

    lacks : (b : List ℕ) → ResponseHeadFails b e
        → (a ≡ b) ⊎ (IsInterim request a ⊎ IsInterim request b) → is_of_reading e ≡ true
    lacks b found (inl same) =
        head_or_fault a head after e h.holds.3.0.reads
        (subst (λ l. ResponseHeadFails l e) (sym same) found)
    lacks b found (inr (inl interim)) = absurd (not_interim interim)
    lacks b found (inr (inr (second, next, judged))) =
        head_or_fault b second next e judged.reads found

    body : (b : List ℕ) → FinalHeadThen request (λ framing after. ResponseBodyFails framing after e) b
        → (a ≡ b) ⊎ (IsInterim request a ⊎ IsInterim request b) → is_of_reading e ≡ true
    body b (other, second, rest, final, found) (inl same) =
        let heads = one_head response_heads response_laws a head other after rest h.holds.3.0.reads
        (subst (λ l. ReadsResponseHead l other rest) (sym same) final.0.reads) in
        let both : Ok named ≡ Ok second =
        sym h.holds.3.0.judged ∙ ap (response_framing request) heads.0 ∙ final.0.judged in
        let framings : named ≡ second = cc in
        response_body_or_fault named after response.body end e h.holds.4.body
        (subst (λ n. ResponseBodyFails n after e) (sym framings)
        (subst (λ l. ResponseBodyFails second l e) (sym heads.1) found))
    body b found (inr (inl interim)) = absurd (not_interim interim)
    body b (other, second, rest, final, found) (inr (inr interim)) =
        absurd (final_or_interim request b other second rest final.0 final.1 interim)

    by_fault : ResponseFails request input e → is_of_reading e ≡ true
    by_fault (no_heads (breaks_rule f)) =
        breaks f.after f.holds (in_order request h.count f.count input a f.after h.skips f.skips)
    by_fault (no_heads (no_head f)) =
        lacks f.after f.holds (in_order request h.count f.count input a f.after h.skips f.skips)
    by_fault (no_heads (many_interim is (next, skips))) =
        absurd (not_interim (interim_earlier request h.count 17 input a next (omega (arith, h.few)) h.skips skips))
    by_fault (no_body f) =
        body f.after f.holds (in_order request h.count f.count input a f.after h.skips f.skips)
