use Rattle.std.proofs.Common.{◌&&◌, ap, sym, ◌∙◌}
use Rattle.bg_http_read.specs.RequestsFed.{is_head}
use Rattle.bg_http_read.specs.Streams.{waiting}
use Rattle.bg_http_read.proofs.FedRequests.{blank_at}
use Rattle.bg_http_read.proofs.request_feed.RequestFeed.is_blank.Goals as goal

pub returns-then-is_empty : goal.returns-then-is_empty
returns-then-is_empty c seen fed =
    let feed = c.args.self.now in
    let at = feed.progress.stage in
    c.awaits_head.ensures ∙ sym (ap (λ t. t && is_head at) (sym c.is_empty.ensures.told ∙ c.if-is_empty.true))
    ∙ blank_at at (waiting feed.intake) seen fed.fed

pub returns-else-is_empty : goal.returns-else-is_empty
returns-else-is_empty c seen fed =
    let feed = c.args.self.now in
    let at = feed.progress.stage in
    c.if-is_empty.false
    ∙ sym (ap (λ t. t && is_head at) (sym c.is_empty.ensures.told ∙ c.if-is_empty.false))
    ∙ blank_at at (waiting feed.intake) seen fed.fed
