use Rattle.std.proofs.Common.{◌++◌, drop, ap, sym, ◌∙◌}
use Rattle.bg_http_read.specs.RequestsFed.{known_head}
use Rattle.bg_http_read.specs.Streams.{waiting}
use Rattle.bg_http_read.proofs.FedRequests.{fed_behind, fed_first, memory_refused}
use Rattle.bg_http_read.proofs.RefusedHeads.{tells_after_step, tells_err}
use Rattle.bg_http_read.proofs.RequestSteps.{advanced, advanced_whole, fed_err}
use Rattle.bg_http_read.proofs.request_feed.RequestFeed.feed_first.Goals as goal

pub returns-in_err-step-clause-answer : goal.returns-in_err-step-clause-answer
returns-in_err-step-clause-answer c seen fed =
    let old = c.args.self.now in
    let bytes = c.args.bytes.now in
    fed_err _ _ (seen ++ bytes) _ _ c.in_err-step.field-0.0 c.from_residual.ensures.1
    (c.in_err-step.ensures.answer (seen ++ bytes)
    (fed_first old.progress.stage (waiting old.intake) seen bytes fed.fed c.requires.empty))

pub returns-then-not-keeps_rest-clause-answer : goal.returns-then-not-keeps_rest-clause-answer
returns-then-not-keeps_rest-clause-answer c seen fed =
    let old = c.args.self.now in
    let bytes = c.args.bytes.now in
    advanced_whole c.args.keeps_rest old.progress.stage (seen ++ bytes) (drop c.in_ok-step.field-0.taken bytes) c.in_ok-step.field-0.step
    (record { intake = old.intake; progress = c.advance.new.self }) c.advance.new.self.stage
    (sym c.is_whole.ensures ∙ c.if-is_whole.true) c.if-not-keeps_rest.true
    (c.in_ok-step.ensures.answer (seen ++ bytes)
    (fed_first old.progress.stage (waiting old.intake) seen bytes fed.fed c.requires.empty))

pub returns-in-Ok-clause-answer : goal.returns-in-Ok-clause-answer
returns-in-Ok-clause-answer c seen fed =
    let old = c.args.self.now in
    let bytes = c.args.bytes.now in
    advanced c.args.keeps_rest old.progress.stage (seen ++ bytes) (drop c.in_ok-step.field-0.taken bytes) c.in_ok-step.field-0.step
    (record { intake = c.add.new.self; progress = c.advance.new.self })
    (c.in-Ok.ensures.added ∙ ap (λ l. l ++ c.behind.result.now) c.requires.empty ∙ c.behind.ensures)
    (c.in_ok-step.ensures.answer (seen ++ bytes)
    (fed_first old.progress.stage (waiting old.intake) seen bytes fed.fed c.requires.empty))

pub returns-in-Err-clause-answer : goal.returns-in-Err-clause-answer
returns-in-Err-clause-answer c seen fed =
    let old = c.args.self.now in
    let bytes = c.args.bytes.now in
    memory_refused old.progress.stage (waiting old.intake ++ bytes) (seen ++ bytes)
    (fed_behind old.progress.stage (waiting old.intake) seen bytes fed.fed)

pub returns-in_err-step-clause-head : goal.returns-in_err-step-clause-head
returns-in_err-step-clause-head c seen fed =
    let old = c.args.self.now in
    let bytes = c.args.bytes.now in
    tells_err _ _ (seen ++ bytes) c.in_err-step.field-0.0 (known_head c.advance.new.self.stage) c.from_residual.ensures.1
    (c.in_err-step.ensures.head (seen ++ bytes)
    (fed_first old.progress.stage (waiting old.intake) seen bytes fed.fed c.requires.empty))

pub returns-in-Err-clause-head : goal.returns-in-Err-clause-head
returns-in-Err-clause-head c seen fed =
    let old = c.args.self.now in
    let bytes = c.args.bytes.now in
    tells_after_step old.progress.stage c.advance.new.self.stage (seen ++ bytes) (drop c.in_ok-step.field-0.taken bytes)
    c.in_ok-step.field-0.step
    (c.in_ok-step.ensures.answer (seen ++ bytes)
    (fed_first old.progress.stage (waiting old.intake) seen bytes fed.fed c.requires.empty))
    c.in_ok-step.ensures.whole
