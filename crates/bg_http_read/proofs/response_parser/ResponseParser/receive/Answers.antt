use Rattle.std.proofs.Common.{◌≡◌, ◌++◌, IfNone, IfOk, IsTrue, ap, subst, ◌∙◌}
use Rattle.bg_http_read.specs.ResponseStates.{NeedsMore}
use Rattle.bg_http_read.specs.ResponsesFed.{IsFed}
use Rattle.bg_http_read.proofs.ResponseSteps.{fed_more}
use Rattle.bg_http_read.proofs.response_parser.ResponseParser.receive.Goals as goal

pub returns-clause-none_yet : goal.returns-clause-none_yet
returns-clause-none_yet c =
    let before = c.self.inside in
    let bytes = c.args.bytes.now in
    let is_open : IsTrue before.is_open = ap (λ s. s.is_open) c.self.view_is ∙ c.requires in
    let answer = c.feed-answer.ensures.none_yet before.request.value before.seen.bytes (c.self.invariant is_open).0 in
    fed_more c.args.self.now before.request.value (c.args.self.now.seen ++ bytes) c.add.new.self.bytes c.feed-answer.result c.feed-answer.new.self c.asks_more-self-inside.result
    (ap (λ s. s.request) c.self.view_is)
    (subst (λ s. c.add.new.self.bytes ≡ s.seen ++ bytes) c.self.view_is c.add.ensures)
    c.asks_more-self-inside.ensures c.requires
    (subst (λ s. IfOk c.feed-answer.result (λ found. IfNone found (IsFed c.feed-answer.new.self s.request (s.seen ++ bytes) × NeedsMore s.request (s.seen ++ bytes)))) c.self.view_is answer)
