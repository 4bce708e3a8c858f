-- An input that begins with a request has no fault of the input.
use Rattle.std.proofs.Common.{◌≡◌, ℕ, true, List, refl, ap, sym, ◌∙◌, subst, Option, Ok, Err, inl, inr}
use Rattle.bg_http.specs.RequestRules.{request_framing}
use Rattle.bg_http.specs.declared.request.Request.{Request}
use Rattle.bg_http.specs.declared.request.RequestHead.{RequestHead}
use Rattle.bg_http.specs.declared.request_rules.Framing.{Framing}
use Rattle.bg_http.specs.declared.request_fault.RequestFault.{RequestFault}
use Rattle.bg_http.specs.declared.request_fault.RequestFault.TheVariants as fault
use Rattle.bg_http_read.specs.BodyFaults.{Failure, malformed, large, cut}
use Rattle.bg_http_read.specs.HeadFaults.{RequestHeadFails}
use Rattle.bg_http_read.specs.Laws.{is_of_machine}
use Rattle.bg_http_read.specs.Heads.{ReadsRequestHead, request_heads}
use Rattle.bg_http_read.specs.Requests.{ReadsRequest, ReadsRequestBody, FramedBodyFails, RequestBodyFails, RequestFails, body_of_request}
use Rattle.bg_http_read.proofs.FramedBodies.{framed_or_fault}
use Rattle.bg_http_read.proofs.HeadsFound.{not_cut, not_large, not_malformed, one_head, request_laws}
use Rattle.bg_http_read.proofs.OneRequest.{named_bytes}

pub head_or_fault : (input : List ℕ) (head : RequestHead) (after : List ℕ) (e : RequestFault)
    → ReadsRequestHead input head after → RequestHeadFails input e
    → is_of_machine e ≡ true
head_or_fault input head after fault.ReadFailed h f = refl
head_or_fault input head after fault.WriteFailed h f = absurd f
head_or_fault input head after fault.HeadTooLarge h f =
    absurd (not_large request_heads request_laws input head after h f)
head_or_fault input head after fault.Bad h f =
    absurd (not_malformed request_heads request_laws input head after h f)
head_or_fault input head after fault.Closed h f =
    absurd (not_cut request_heads input head after h f)
head_or_fault input head after fault.NotDone h f = absurd f
head_or_fault input head after fault.TooLarge h f = absurd f
head_or_fault input head after fault.OutOfMemory h f = refl

body_or_failure : (named : Framing) (failure : Failure) (input : List ℕ) (body : Option (List ℕ))
    (rest : List ℕ) → ReadsRequestBody named input body rest → FramedBodyFails failure named input
    → ⊥
body_or_failure named failure input body rest h f =
    let bytes = named_bytes named input body rest h in
    framed_or_fault (body_of_request named) failure input bytes.0 rest bytes.2 f

request_body_or_fault : (named : Framing) (input : List ℕ) (body : Option (List ℕ)) (rest : List ℕ)
    (e : RequestFault) → ReadsRequestBody named input body rest → RequestBodyFails named input e
    → is_of_machine e ≡ true
request_body_or_fault named input body rest fault.ReadFailed h f = refl
request_body_or_fault named input body rest fault.WriteFailed h f = absurd f
request_body_or_fault named input body rest fault.HeadTooLarge h f = absurd f
request_body_or_fault named input body rest fault.Bad h f =
    absurd (body_or_failure named malformed input body rest h f)
request_body_or_fault named input body rest fault.Closed h f =
    absurd (body_or_failure named cut input body rest h f)
request_body_or_fault named input body rest fault.NotDone h f = absurd f
request_body_or_fault named input body rest fault.TooLarge h f =
    absurd (body_or_failure named large input body rest h f)
request_body_or_fault named input body rest fault.OutOfMemory h f = refl

pub request_or_fault : (input rest : List ℕ) (request : Request) (e : RequestFault)
    → ReadsRequest input request rest → RequestFails input e → is_of_machine e ≡ true
request_or_fault input rest request e h (inl (inl broken)) =
    let same = one_head request_heads request_laws input h.head broken.head h.after broken.after h.begins.reads broken.reads in
    let both : Ok h.framing ≡ Err e =
    sym h.begins.judged ∙ ap request_framing same.0 ∙ broken.judged in
    cc
request_or_fault input rest request e h (inl (inr fails)) =
    head_or_fault input h.head h.after e h.begins.reads fails
request_or_fault input rest request e h (inr (inl f)) =
    let same = one_head request_heads request_laws input h.head f.head h.after f.after h.begins.reads f.begins.reads in
    let both : Ok h.framing ≡ Ok f.framing =
    sym h.begins.judged ∙ ap request_framing same.0 ∙ f.begins.judged in
    let framings : h.framing ≡ f.framing = cc in
    request_body_or_fault h.framing h.after request.body rest e h.body
    (subst (λ n. RequestBodyFails n h.after e) (sym framings)
    (subst (λ l. RequestBodyFails f.framing l e) (sym same.1) f.holds))
request_or_fault input rest request e h (inr (inr f)) = ap is_of_machine f.0
