use Rattle.bg_streams.proofs.StreamLemmas.{receives_behind, receives_no_more}
use Rattle.bg_streams.proofs.response_stream.ResponseStream.receive.Goals as goal

pub returns-in_err-keep : goal.returns-in_err-keep
returns-in_err-keep c =
    receives_no_more c.from_residual.result c.args.self.now c.keep.new.self c.args.bytes.now c.in_err-keep.field-0.0
    c.from_residual.ensures.1 c.in_err-keep.ensures.relay c.in_err-keep.ensures.begun c.in_err-keep.ensures.fault

pub returns : goal.returns
returns c =
    receives_behind c.feed_waiting.result c.args.self.now c.keep.new.self c.feed_waiting.new.self c.args.bytes.now
    c.in_ok-keep.ensures.added c.in_ok-keep.ensures.relay c.in_ok-keep.ensures.begun c.feed_waiting.ensures.stands
    c.feed_waiting.ensures.fails c.feed_waiting.ensures.few c.feed_waiting.ensures.begun c.feed_waiting.ensures.terms
