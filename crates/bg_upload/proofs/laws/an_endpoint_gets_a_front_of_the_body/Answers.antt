use Rattle.std.proofs.Common.{◌++◌}
use Rattle.bg_upload.proofs.OutgoingLemmas.{is_sent}
use Rattle.bg_upload.proofs.laws.an_endpoint_gets_a_front_of_the_body.Goals as goal

pub returns : goal.returns
returns c =
    let o = c.args.request.now in
    let s = c.is_sound.ensures in
    let output = s.output ++ o.relay.rest in
    record {
      taken = s.input;
      output = output;
      body = s.stands.0;
      is_sent = is_sent o s;
      passes = s.stands.1;
      begins = c.what_was_passed_on_begins_the_body.ensures o.relay s.input output s.stands.0;
    }
