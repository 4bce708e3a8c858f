use Rattle.std.proofs.Common.{IfErr, IfOk, IsTrue, ap, subst, ◌∙◌}
use Rattle.bg_http_read.specs.RequestStates.{FailsAsked, ReadsAsked}
use Rattle.bg_http_read.specs.RefusedHeads.{TellsHead}
use Rattle.bg_http_read.specs.RequestsFed.{known_head, was_asked}
use Rattle.bg_http_read.proofs.RequestSteps.{ends_read, ends_refused}
use Rattle.bg_http_read.proofs.request_parser.RequestParser.finish.Goals as goal

pub returns-clause-request : goal.returns-clause-request
returns-clause-request c =
    let before = c.self.inside in
    let is_open : IsTrue before.is_open = ap (λ s. s.is_open) c.self.view_is ∙ c.requires in
    subst (λ s. IfOk c.end.result (λ request. ReadsAsked s.asked request s.seen)) c.self.view_is
    (ends_read (was_asked before.feed.progress.stage) before.seen.bytes c.end.result
    (c.end.ensures.answer before.seen.bytes (c.self.invariant is_open).0 (c.self.invariant is_open).1))

pub returns-clause-refused : goal.returns-clause-refused
returns-clause-refused c =
    let before = c.self.inside in
    let is_open : IsTrue before.is_open = ap (λ s. s.is_open) c.self.view_is ∙ c.requires in
    subst (λ s. IfErr c.end.result (FailsAsked s.asked s.seen)) c.self.view_is
    (ends_refused (was_asked before.feed.progress.stage) before.seen.bytes c.end.result
    (c.end.ensures.answer before.seen.bytes (c.self.invariant is_open).0 (c.self.invariant is_open).1))

pub returns-clause-head : goal.returns-clause-head
returns-clause-head c =
    let before = c.self.inside in
    let is_open : IsTrue before.is_open = ap (λ s. s.is_open) c.self.view_is ∙ c.requires in
    subst (λ s. IfErr c.end.result (λ e. TellsHead s.seen e (known_head c.end.new.self.progress.stage))) c.self.view_is
    (c.end.ensures.head before.seen.bytes (c.self.invariant is_open).0)
