use Rattle.std.proofs.Common.{◌++◌}
use Rattle.bg_http_read.specs.Streams.{waiting}
use Rattle.bg_http_read.proofs.FedResponses.{fed_added}
use Rattle.bg_http_read.proofs.response_feed.ResponseFeed.feed.Goals as goal

pub look-requires-clause-seen : goal.look-requires-clause-seen
look-requires-clause-seen c =
    (waiting c.args.self.now.intake, c.requires.1, c.in-Ok.ensures.added)

pub returns-in-Ok-clause-response : goal.returns-in-Ok-clause-response
returns-in-Ok-clause-response c request seen fed =
    let old = c.args.self.now in
    let bytes = c.args.bytes.now in
    let added = fed_added request old.progress.stage (waiting old.intake) (waiting c.add.new.self) seen bytes fed.stage_is c.in-Ok.ensures.added in
    c.look.ensures.response request (seen ++ bytes) (record { to_head_is = fed.to_head_is; stage_is = added })

pub returns-in-Ok-clause-none_yet : goal.returns-in-Ok-clause-none_yet
returns-in-Ok-clause-none_yet c request seen fed =
    let old = c.args.self.now in
    let bytes = c.args.bytes.now in
    let added = fed_added request old.progress.stage (waiting old.intake) (waiting c.add.new.self) seen bytes fed.stage_is c.in-Ok.ensures.added in
    c.look.ensures.none_yet request (seen ++ bytes) (record { to_head_is = fed.to_head_is; stage_is = added })

pub returns-in-Ok-clause-refused : goal.returns-in-Ok-clause-refused
returns-in-Ok-clause-refused c request seen fed =
    let old = c.args.self.now in
    let bytes = c.args.bytes.now in
    let added = fed_added request old.progress.stage (waiting old.intake) (waiting c.add.new.self) seen bytes fed.stage_is c.in-Ok.ensures.added in
    c.look.ensures.refused request (seen ++ bytes) (record { to_head_is = fed.to_head_is; stage_is = added })
