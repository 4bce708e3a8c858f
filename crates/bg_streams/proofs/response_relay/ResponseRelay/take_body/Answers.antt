use Rattle.bg_streams.proofs.ResponseLemmas.{breaks_off, open_at, taken_passes}
use Rattle.bg_streams.proofs.response_relay.ResponseRelay.take_body.Goals as goal

pub returns-in-Some-clause-stands : goal.returns-in-Some-clause-stands
returns-in-Some-clause-stands c =
    taken_passes c.feed.result c.args.self.now c.in-Some.passing c.feed.new.self c.args.bytes.now c.in-Some.is c.feed.ensures.same
    c.feed.ensures.stands

pub returns-in-Some-clause-refused : goal.returns-in-Some-clause-refused
returns-in-Some-clause-refused c =
    breaks_off c.what_is_refused_is_malformed.ensures c.feed.result c.args.self.now c.in-Some.passing c.feed.new.self
    c.args.bytes.now c.in-Some.is (open_at c.args.self.now c.in-Some.passing c.in-Some.is c.requires) c.feed.ensures.same
    c.feed.ensures.refused
