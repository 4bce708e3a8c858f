use Rattle.std.proofs.Common.{◌++◌}
use Rattle.bg_http_read.specs.Streams.{waiting}
use Rattle.bg_http_read.proofs.FedRequests.{fed_added, fed_behind, memory_refused}
use Rattle.bg_http_read.proofs.RefusedHeads.{tells_without_memory}
use Rattle.bg_http_read.proofs.request_feed.RequestFeed.feed.Goals as goal

pub returns-in-Ok-clause-answer : goal.returns-in-Ok-clause-answer
returns-in-Ok-clause-answer c seen fed =
    let old = c.args.self.now in
    let bytes = c.args.bytes.now in
    c.look.ensures.answer c.args.keeps_rest (waiting old.intake) (seen ++ bytes) fed.sees c.in-Ok.ensures.added
    (fed_added old.progress.stage (waiting old.intake) (waiting c.add.new.self) seen bytes fed.fed c.in-Ok.ensures.added)

pub returns-in-Err-clause-answer : goal.returns-in-Err-clause-answer
returns-in-Err-clause-answer c seen fed =
    let old = c.args.self.now in
    let bytes = c.args.bytes.now in
    memory_refused old.progress.stage (waiting old.intake ++ bytes) (seen ++ bytes)
    (fed_behind old.progress.stage (waiting old.intake) seen bytes fed.fed)

pub returns-in-Ok-clause-head : goal.returns-in-Ok-clause-head
returns-in-Ok-clause-head c seen fed =
    let old = c.args.self.now in
    let bytes = c.args.bytes.now in
    c.look.ensures.head (seen ++ bytes)
    (fed_added old.progress.stage (waiting old.intake) (waiting c.add.new.self) seen bytes fed.fed c.in-Ok.ensures.added)

pub returns-in-Err-clause-head : goal.returns-in-Err-clause-head
returns-in-Err-clause-head c seen fed =
    let old = c.args.self.now in
    let bytes = c.args.bytes.now in
    tells_without_memory old.progress.stage (waiting old.intake ++ bytes) (seen ++ bytes)
    (fed_behind old.progress.stage (waiting old.intake) seen bytes fed.fed)
