use Rattle.std.proofs.Common.{◌||◌, ◌∙◌, ◌++◌, ap, codes, not}
use Rattle.bg_http.specs.Codings.{is_empty}
use Rattle.bg_endpoint_side.proofs.ArrivedLemmas.{kept_more}
use Rattle.bg_endpoint_side.proofs.ReceivingLemmas.{bytes_value, come_more, still_sound_with}
use Rattle.bg_endpoint_side.proofs.VersionLemmas.{awaited_more}
use Rattle.bg_endpoint_side.specs.Versions.{awaited_on}
use Rattle.bg_endpoint_side.proofs.endpoint_request.EndpointRequest.note_bytes.Goals as goal

pub returns-clause-sound : goal.returns-clause-sound
returns-clause-sound c came sound =
    let bytes = c.args.bytes.now in
    let come = c.has_come_with-self.ensures ∙ ap (λ b. b || not (is_empty bytes)) sound.1 ∙ come_more came bytes in
    let version = c.after-self.ensures ∙ ap (λ left. awaited_on left bytes) sound.2 ∙ awaited_more (codes "HTTP/1.1") came bytes in
    still_sound_with _ _ (came ++ bytes) c.has_bytes.result c.args.now c.renew_if.ensures
    (sound.0, come, version, sound.3, sound.4, kept_more _ _ _ came bytes c.add.ensures sound.5)

pub returns-clause-value : goal.returns-clause-value
returns-clause-value c came =
    bytes_value _ _ came c.args.bytes.now c.has_bytes.result c.args.now c.has_bytes.ensures c.renew_if.ensures
