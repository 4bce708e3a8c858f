use Rattle.std.proofs.Common.{IfSome, IsTrue, subst}
use Rattle.bg_http_read.specs.ArrivingHeads.{BeginsWith}
use Rattle.bg_http_read.specs.Streams.{waiting}
use Rattle.bg_http_read.proofs.ArrivingHeads.{begins_if_known}
use Rattle.bg_http_read.proofs.request_stream.RequestStream.arriving_head.Goals as goal

pub returns-clause-begins : goal.returns-clause-begins
returns-clause-begins c =
    let inside = c.self.inside in
    let is_open : IsTrue inside.is_open = cc in
    subst (λ s. IfSome c.known_head.result (λ head. BeginsWith s.since head.now)) c.self.view_is
    (begins_if_known inside.feed.progress.stage (waiting inside.feed.intake) inside.seen.bytes c.known_head.result
    (c.self.invariant is_open) c.known_head.ensures)
