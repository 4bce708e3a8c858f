use Rattle.std.proofs.Common.{Ok, drop, ap, subst, sym, ◌∙◌}
use Rattle.bg_http_read.specs.RequestsFed.{IsFedStage, IsOpenStage, IsSeen, known_head, was_asked}
use Rattle.bg_http_read.specs.Streams.{waiting}
use Rattle.bg_http_read.specs.declared.request_feed.RequestFeed.{RequestFeed}
use Rattle.bg_http_read.proofs.FedRequests.{asked_seen, awaits_more, fed_seen, open_seen, seen_behind}
use Rattle.bg_http_read.proofs.RefusedHeads.{tells_err}
use Rattle.bg_http_read.proofs.RequestSteps.{advanced, fed_asked, fed_err}
use Rattle.bg_http_read.proofs.request_feed.RequestFeed.look.Goals as goal

pub advance-requires : goal.advance-requires
advance-requires c =
    let old = c.args.self.now.progress.stage in
    subst IsOpenStage (sym c.see.ensures) (open_seen old c.args.bytes.now c.requires)

pub returns-then-not-is_due-clause-answer : goal.returns-then-not-is_due-clause-answer
returns-then-not-is_due-clause-answer c keeps before seen sees is fed =
    let old = c.args.self.now.progress.stage in
    let bytes = c.args.bytes.now in
    let waits = waiting c.args.self.now.intake in
    let now = c.see.new.self.stage in
    let stage = subst (λ s. IsFedStage s waits seen) (sym c.see.ensures) (fed_seen old waits seen bytes fed) in
    let behind = subst (λ s. IsSeen s waits) (sym c.see.ensures) (seen_behind old before waits bytes sees is) in
    let more = awaits_more now waits seen stage behind (c.is_due.ensures c.if-not-is_due.true) in (
      more.0,
      record {
        fed = stage;
        ready = subst IsOpenStage (sym c.see.ensures) (open_seen old bytes c.requires);
        sees = behind;
      },
      more.1,
      ap was_asked c.see.ensures ∙ asked_seen old bytes,
    )

pub returns-in_err-step-clause-answer : goal.returns-in_err-step-clause-answer
returns-in_err-step-clause-answer c keeps before seen sees is fed =
    let old = c.args.self.now.progress.stage in
    let waits = waiting c.args.self.now.intake in
    let stage = subst (λ s. IsFedStage s waits seen) (sym c.see.ensures) (fed_seen old waits seen c.args.bytes.now fed) in
    fed_asked keeps _ _ seen _ _ (ap was_asked c.see.ensures ∙ asked_seen old c.args.bytes.now)
    (fed_err keeps (was_asked c.see.new.self.stage) seen _ _ c.in_err-step.field-0.0 c.from_residual.ensures.1
    (c.in_err-step.ensures.answer seen (subst (λ w. IsFedStage c.see.new.self.stage w seen) (sym c.get-2.ensures) stage)))

pub returns-clause-answer : goal.returns-clause-answer
returns-clause-answer c keeps before seen sees is fed =
    let old = c.args.self.now.progress.stage in
    let waits = waiting c.args.self.now.intake in
    let stage = subst (λ s. IsFedStage s waits seen) (sym c.see.ensures) (fed_seen old waits seen c.args.bytes.now fed) in
    let now : RequestFeed = record { intake = c.skip.new.self; progress = c.advance.new.self } in
    let at = c.in_ok-step.field-0.step in
    fed_asked keeps _ _ seen (Ok at) now (ap was_asked c.see.ensures ∙ asked_seen old c.args.bytes.now)
    (advanced keeps c.see.new.self.stage seen (drop c.in_ok-step.field-0.taken c.get-2.result.now) at now
    (c.skip.ensures ∙ ap (drop c.in_ok-step.field-0.taken) (sym c.get-2.ensures))
    (c.in_ok-step.ensures.answer seen (subst (λ w. IsFedStage c.see.new.self.stage w seen) (sym c.get-2.ensures) stage)))

pub returns-in_err-step-clause-head : goal.returns-in_err-step-clause-head
returns-in_err-step-clause-head c seen fed =
    let old = c.args.self.now.progress.stage in
    let waits = waiting c.args.self.now.intake in
    let stage = subst (λ s. IsFedStage s waits seen) (sym c.see.ensures) (fed_seen old waits seen c.args.bytes.now fed) in
    tells_err _ _ seen c.in_err-step.field-0.0 (known_head c.advance.new.self.stage) c.from_residual.ensures.1
    (c.in_err-step.ensures.head seen (subst (λ w. IsFedStage c.see.new.self.stage w seen) (sym c.get-2.ensures) stage))
