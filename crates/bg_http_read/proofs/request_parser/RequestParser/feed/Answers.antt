use Rattle.std.proofs.Common.{◌≡◌, ◌++◌, false, IfErr, IfOk, IsTrue, ap, subst, sym, ◌∙◌}
use Rattle.bg_http_read.specs.RefusedHeads.{TellsHead}
use Rattle.bg_http_read.specs.RequestStates.{IfWhole, IsReadAsked}
use Rattle.bg_http_read.specs.RequestsFed.{FedTo, head_after, was_asked}
use Rattle.bg_http_read.proofs.RefusedHeads.{tells_closed, tells_none}
use Rattle.bg_http_read.proofs.RequestSteps.{fed_more, fed_whole}
use Rattle.bg_http_read.proofs.request_parser.RequestParser.feed.Goals as goal

pub returns-clause-whole : goal.returns-clause-whole
returns-clause-whole c =
    let before = c.self.inside in
    let bytes = c.args.bytes.now in
    let is_open : IsTrue before.is_open = ap (λ s. s.is_open) c.self.view_is ∙ c.requires in
    let answer = c.feed-answer.ensures.answer before.seen.bytes (c.self.invariant is_open).0 in
    subst (λ s. IfOk c.feed-answer.result (λ step. IfWhole step (λ request. IsReadAsked s.asked request (s.seen ++ bytes)))) c.self.view_is
    (fed_whole false (was_asked before.feed.progress.stage) (before.seen.bytes ++ bytes) c.feed-answer.result c.feed-answer.new.self answer)

pub returns-clause-none_yet : goal.returns-clause-none_yet
returns-clause-none_yet c =
    let before = c.self.inside in
    let bytes = c.args.bytes.now in
    let is_open : IsTrue before.is_open = ap (λ s. s.is_open) c.self.view_is ∙ c.requires in
    let none = sym (ap (λ s. s.refused) c.self.view_is) ∙ ap (λ o. head_after o before.feed.progress.stage) is_open in
    let answer = c.feed-answer.ensures.answer before.seen.bytes (c.self.invariant is_open).0 in
    fed_more false c.args.self.now (c.args.self.now.seen ++ bytes) c.add.new.self.bytes c.feed-answer.result c.feed-answer.new.self c.goes_on-self-inside.result
    (subst (λ s. c.add.new.self.bytes ≡ s.seen ++ bytes) c.self.view_is c.add.ensures)
    c.goes_on-self-inside.ensures c.requires none
    (subst (λ s. FedTo false s.asked (s.seen ++ bytes) c.feed-answer.result c.feed-answer.new.self) c.self.view_is answer)

pub returns-clause-head : goal.returns-clause-head
returns-clause-head c =
    let before = c.self.inside in
    let bytes = c.args.bytes.now in
    let is_open : IsTrue before.is_open = ap (λ s. s.is_open) c.self.view_is ∙ c.requires in
    let at = c.feed-answer.new.self.progress.stage in
    subst (λ s. IfErr c.feed-answer.result (λ e. TellsHead (s.seen ++ bytes) e (head_after c.goes_on-self-inside.result at))) c.self.view_is
    (tells_closed (before.seen.bytes ++ bytes) c.feed-answer.result c.goes_on-self-inside.result at
    c.goes_on-self-inside.ensures (c.feed-answer.ensures.head before.seen.bytes (c.self.invariant is_open).0))

pub returns-clause-no_head : goal.returns-clause-no_head
returns-clause-no_head c =
    tells_none c.feed-answer.result c.goes_on-self-inside.result c.feed-answer.new.self.progress.stage
    c.goes_on-self-inside.ensures c.feed-answer.ensures.whole
