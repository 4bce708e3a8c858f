use Rattle.std.proofs.Common.{◌++◌}
use Rattle.bg_upload.proofs.OutgoingLemmas.{if_it_ends, is_sent}
use Rattle.bg_upload.proofs.laws.a_cut_request_has_no_end.Goals as goal

pub returns : goal.returns
returns c = λ part.
    let o = c.args.request.now in
    let s = c.is_sound.ensures in
    let none = c.a_part_is_no_body.ensures o.relay s.input s.output s.stands part in (
      s.input,
      s.output ++ o.relay.rest,
      is_sent o s,
      if_it_ends o.relay.incoming _ s.incoming_ends none.0,
      if_it_ends o.relay.outgoing _ s.outgoing_ends none.1,
    )
