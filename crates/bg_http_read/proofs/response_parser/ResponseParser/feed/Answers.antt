use Rattle.std.proofs.Common.{◌++◌}
use Rattle.bg_http_read.proofs.ResponseSteps.{read_to_end}
use Rattle.bg_http_read.proofs.response_parser.ResponseParser.feed.Goals as goal

pub returns-in-Some-clause-response : goal.returns-in-Some-clause-response
returns-in-Some-clause-response c =
    let received = rw c.in-Some.is at c.in_ok-received.ensures.response in
    read_to_end c.args.self.now.request c.in-Some.received.response (c.args.self.now.seen ++ c.args.bytes.now) received.0 received.1
