use Rattle.std.proofs.Common.{drop, ap, subst, sym, ◌∙◌}
use Rattle.bg_http.specs.Codings.{is_empty}
use Rattle.bg_http_read.specs.ResponsesFed.{AwaitsHead, IsFedStage, IsOpenStage, IsSeen, stage_seen}
use Rattle.bg_http_read.specs.ResponseStates.{IsRefused}
use Rattle.bg_http_read.specs.Streams.{waiting}
use Rattle.bg_http_read.proofs.FedResponses.{awaits_more, fed_seen, open_seen, seen_behind}
use Rattle.bg_http_read.proofs.ResponseSteps.{advanced_none_at, advanced_open}
use Rattle.bg_http_read.proofs.StreamFaults.{if_err_is}
use Rattle.bg_http_read.proofs.response_feed.ResponseFeed.look.Goals as goal

pub advance-requires : goal.advance-requires
advance-requires c =
    let old = c.args.self.now.progress.stage in
    subst IsOpenStage (sym c.see.ensures.stage) (open_seen old c.args.bytes.now c.requires.goes_on)

pub returns-then-not-is_due-clause-none_yet : goal.returns-then-not-is_due-clause-none_yet
returns-then-not-is_due-clause-none_yet c request seen fed =
    let old = c.args.self.now.progress.stage in
    let bytes = c.args.bytes.now in
    let waits = waiting c.args.self.now.intake in
    let s = stage_seen old bytes in
    let stage = fed_seen request old waits seen bytes fed.stage_is in
    let awaits = subst AwaitsHead c.see.ensures.stage (c.is_due.ensures c.if-not-is_due.true) in
    let sees = seen_behind old c.requires.seen.0 waits bytes c.requires.seen.1 c.requires.seen.2 in (
      record {
        to_head_is = c.see.ensures.to_head ∙ fed.to_head_is;
        stage_is = subst (λ t. IsFedStage request t waits seen) (sym c.see.ensures.stage) stage;
      },
      awaits_more request s waits seen stage sees awaits,
    )

pub returns-then-not-is_due-clause-goes_on : goal.returns-then-not-is_due-clause-goes_on
returns-then-not-is_due-clause-goes_on c =
    let old = c.args.self.now.progress.stage in
    let bytes = c.args.bytes.now in
    let waits = waiting c.args.self.now.intake in
    let sees = seen_behind old c.requires.seen.0 waits bytes c.requires.seen.1 c.requires.seen.2 in (
      subst IsOpenStage (sym c.see.ensures.stage) (open_seen old bytes c.requires.goes_on),
      subst (λ t. IsSeen t waits) (sym c.see.ensures.stage) sees,
    )

pub returns-in_err-response-clause-refused : goal.returns-in_err-response-clause-refused
returns-in_err-response-clause-refused c request seen fed =
    let old = c.args.self.now.progress.stage in
    let waits = waiting c.args.self.now.intake in
    let stage = subst (λ t. IsFedStage request t waits seen) (sym c.see.ensures.stage)
    (fed_seen request old waits seen c.args.bytes.now fed.stage_is) in
    let e = c.in_err-response.field-0.0 in
    if_err_is (λ fault. IsRefused request fault seen) c.from_residual.result e c.from_residual.ensures.1
    (c.in_err-response.ensures.answer request seen (c.see.ensures.to_head ∙ fed.to_head_is)
    (subst (λ w. IsFedStage request c.see.new.self.stage w seen) (sym c.get-2.ensures) stage))

pub returns-in-Some-clause-response : goal.returns-in-Some-clause-response
returns-in-Some-clause-response c request seen fed =
    let old = c.args.self.now.progress.stage in
    let waits = waiting c.args.self.now.intake in
    let stage = subst (λ t. IsFedStage request t waits seen) (sym c.see.ensures.stage)
    (fed_seen request old waits seen c.args.bytes.now fed.stage_is) in
    let taken = c.in_ok-response.field-0.taken in
    let left = c.skip.ensures ∙ ap (drop taken) (sym c.get-2.ensures) in (
      drop taken c.get-2.result.now,
      rw c.in-Some.is at c.in_ok-response.ensures.answer request seen (c.see.ensures.to_head ∙ fed.to_head_is)
          (subst (λ w. IsFedStage request c.see.new.self.stage w seen) (sym c.get-2.ensures) stage),
      c.is_empty.ensures.told ∙ ap is_empty left,
    )

pub returns-in-None-clause-none_yet : goal.returns-in-None-clause-none_yet
returns-in-None-clause-none_yet c request seen fed =
    let old = c.args.self.now.progress.stage in
    let waits = waiting c.args.self.now.intake in
    let stage = subst (λ t. IsFedStage request t waits seen) (sym c.see.ensures.stage)
    (fed_seen request old waits seen c.args.bytes.now fed.stage_is) in
    let left = c.skip.ensures ∙ ap (drop c.in_ok-response.field-0.taken) (sym c.get-2.ensures) in
    let none_yet = advanced_none_at request seen (drop c.in_ok-response.field-0.taken c.get-2.result.now)
    (record { intake = c.skip.new.self; progress = c.advance.new.self }) c.in_ok-response.field-0.response
    (c.advance.ensures.to_head ∙ c.see.ensures.to_head ∙ fed.to_head_is)
    (c.in_ok-response.ensures.answer request seen (c.see.ensures.to_head ∙ fed.to_head_is)
    (subst (λ w. IsFedStage request c.see.new.self.stage w seen) (sym c.get-2.ensures) stage))
    c.in_ok-response.ensures.goes_on left in
    rw c.in-None.is at none_yet

pub returns-in-None-clause-goes_on : goal.returns-in-None-clause-goes_on
returns-in-None-clause-goes_on c =
    let left = c.skip.ensures ∙ ap (drop c.in_ok-response.field-0.taken) (sym c.get-2.ensures) in
    let goes_on = advanced_open (drop c.in_ok-response.field-0.taken c.get-2.result.now)
    (record { intake = c.skip.new.self; progress = c.advance.new.self }) c.in_ok-response.field-0.response
    c.in_ok-response.ensures.goes_on c.in_ok-response.ensures.sees left in
    rw c.in-None.is at goes_on
