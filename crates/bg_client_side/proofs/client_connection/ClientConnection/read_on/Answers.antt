use Rattle.bg_client_side.proofs.ReadingLemmas.{more_came, whole_came}
use Rattle.bg_client_side.proofs.client_connection.ClientConnection.read_on.Goals as goal

pub returns-in-Ok-More : goal.returns-in-Ok-More
returns-in-Ok-More c =
    let step = rw c.in-Ok-More.field-0-is at c.in-Ok-More.ensures in
    let inside = c.self.inside in
    more_came inside.stream c.feed.new.self inside.stage inside.facts c.args.self.now c.rest_now.new.self c.args.bytes.now
    c.self.view_is step.none_yet.0 c.rest_now.ensures step.none_yet.1

pub returns-in-Ok-Whole : goal.returns-in-Ok-Whole
returns-in-Ok-Whole c =
    let step = rw c.in-Ok-Whole.field-0-is at c.in-Ok-Whole.ensures in
    let inside = c.self.inside in
    let request = c.in-Ok-Whole.request in
    let stays = c.asks_to_keep-self-inside.result in
    let came = whole_came inside.stream c.feed.new.self inside.stage inside.facts c.args.self.now request c.args.bytes.now stays
    c.self.view_is c.asks_to_keep-self-inside.ensures step.next step.no_head step.whole in
    (request, came.0, came.1)
