use Rattle.std.proofs.Common.{◌++◌}
use Rattle.bg_upload.proofs.OutgoingLemmas.{is_sent}
use Rattle.bg_upload.proofs.laws.a_whole_request_has_its_body.Goals as goal

pub returns : goal.returns
returns c = λ whole.
    let o = c.args.request.now in
    let s = c.is_sound.ensures in
    let bodies = c.a_whole_body_is_passed_on.ensures o.relay s.input s.output s.stands whole in
    (s.input, s.output ++ o.relay.rest, bodies.0, is_sent o s, bodies.1, bodies.2)
