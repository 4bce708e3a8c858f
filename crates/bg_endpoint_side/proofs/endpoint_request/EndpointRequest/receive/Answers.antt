use Rattle.std.proofs.Common.{◌&&◌, ◌||◌, ◌∙◌, ap, codes, not, refl}
use Rattle.bg_http.specs.Codings.{is_empty}
use Rattle.bg_http.specs.Persistences.{keeps}
use Rattle.bg_http.specs.Removed.{says_close}
use Rattle.bg_endpoint_side.proofs.ArrivedLemmas.{kept_more}
use Rattle.bg_endpoint_side.proofs.ReceivingLemmas.{answered_now, come_more, still_sound}
use Rattle.bg_endpoint_side.proofs.VersionLemmas.{awaited_more}
use Rattle.bg_endpoint_side.specs.EndpointRequests.{forwarded_of}
use Rattle.bg_endpoint_side.specs.Outcomes.{told}
use Rattle.bg_endpoint_side.specs.Versions.{awaited_on, is_whole}
use Rattle.bg_endpoint_side.proofs.endpoint_request.EndpointRequest.receive.Goals as goal

pub returns-in-Ok-None-clause-sound : goal.returns-in-Ok-None-clause-sound
returns-in-Ok-None-clause-sound c =
    let bytes = c.args.bytes.now in
    let seen = c.args.self.now.parser.seen in
    let step = rw c.in-Ok-None.field-0-is at c.in-Ok-None.ensures in
    let come = c.has_come_with-self.ensures ∙ ap (λ b. b || not (is_empty bytes)) c.requires.1 ∙ come_more seen bytes in
    let version = c.after-self.ensures ∙ ap (λ left. awaited_on left bytes) c.requires.2
    ∙ awaited_more (codes "HTTP/1.1") seen bytes in
    let kept = kept_more _ _ _ seen bytes c.add.ensures c.requires.5 in
    still_sound _ _ c.has_bytes.result c.args.now c.renew_if.ensures
    (rw step.none_yet.0 (c.requires.0, come, version, c.requires.3, c.requires.4, kept))

pub returns-in-Ok-Some-clause-over : goal.returns-in-Ok-Some-clause-over
returns-in-Ok-Some-clause-over c =
    let bytes = c.args.bytes.now in
    let before = c.args.self.now in
    let step = rw c.in-Ok-Some.field-0-is at c.in-Ok-Some.ensures in
    let received = c.in-Ok-Some.received in
    let come = c.has_come_with-self.ensures ∙ ap (λ b. b || not (is_empty bytes)) c.requires.1
    ∙ come_more before.parser.seen bytes in
    let version = c.after-self.ensures ∙ ap (λ left. awaited_on left bytes) c.requires.2
    ∙ awaited_more (codes "HTTP/1.1") before.parser.seen bytes in
    let may = c.may_stay-may_stay.ensures
    ∙ ap (λ left. is_empty before.text.rest && keeps before.state.terms.persistence && not before.state.is_ending
    && is_whole left && not (says_close received.response.fields)) version in
    answered_now before.parser.request before.text before.parser.seen before.state (forwarded_of before) bytes received
    c.may_stay-may_stay.result c.health_of.result c.answered.result refl step.response may
    (c.health_of.ensures ∙ ap told come) c.answered.ensures
