use Rattle.std.proofs.Common.{◌++◌, drop, ap, subst, sym, ◌∙◌}
use Rattle.bg_http_read.specs.ResponsesFed.{IsFedStage, IsSeen}
use Rattle.bg_http_read.specs.ResponseStates.{IsRefused}
use Rattle.bg_http_read.specs.Streams.{waiting}
use Rattle.bg_http_read.proofs.FedResponses.{fed_first, fed_needs_more}
use Rattle.bg_http_read.proofs.ResponseSteps.{drained}
use Rattle.bg_http_read.proofs.StreamFaults.{if_err_is}
use Rattle.bg_http_read.proofs.InterimTaken.{memory_refuses}
use Rattle.bg_http_read.proofs.response_feed.ResponseFeed.feed_first.Goals as goal

pub returns-in_err-response-clause-refused : goal.returns-in_err-response-clause-refused
returns-in_err-response-clause-refused c request seen fed =
    let old = c.args.self.now in
    let bytes = c.args.bytes.now in
    let e = c.in_err-response.field-0.0 in
    if_err_is (λ fault. IsRefused request fault (seen ++ bytes)) c.from_residual.result e c.from_residual.ensures.1
    (c.in_err-response.ensures.answer request (seen ++ bytes) fed.to_head_is
    (fed_first request old.progress.stage (waiting old.intake) seen bytes fed.stage_is c.requires.empty))

pub returns-in-Some-clause-response : goal.returns-in-Some-clause-response
returns-in-Some-clause-response c request seen fed =
    let old = c.args.self.now in
    let bytes = c.args.bytes.now in
    let taken = c.in_ok-response.field-0.taken in (
      drop taken bytes,
      rw c.in-Some.is at c.in_ok-response.ensures.answer request (seen ++ bytes) fed.to_head_is
          (fed_first request old.progress.stage (waiting old.intake) seen bytes fed.stage_is c.requires.empty),
      drained taken bytes c.in_ok-response.ensures.fits,
    )

pub returns-in-Ok-clause-none_yet : goal.returns-in-Ok-clause-none_yet
returns-in-Ok-clause-none_yet c request seen fed =
    let old = c.args.self.now in
    let bytes = c.args.bytes.now in
    let stage = c.advance.new.self.stage in
    let left = drop c.in_ok-response.field-0.taken bytes in
    let answer = rw c.in-None.is at c.in_ok-response.ensures.answer request (seen ++ bytes) fed.to_head_is
    (fed_first request old.progress.stage (waiting old.intake) seen bytes fed.stage_is c.requires.empty) in
    let goes_on = rw c.in-None.is at c.in_ok-response.ensures.goes_on in
    let waits = c.in-Ok.ensures.added ∙ ap (λ l. l ++ c.behind.result.now) c.requires.empty ∙ c.behind.ensures in (
      record {
        to_head_is = c.advance.ensures.to_head ∙ fed.to_head_is;
        stage_is = subst (λ w. IsFedStage request stage w (seen ++ bytes)) (sym waits) answer.0;
      },
      fed_needs_more request stage left (seen ++ bytes) answer.0 goes_on answer.1,
    )

pub returns-in-Ok-clause-goes_on : goal.returns-in-Ok-clause-goes_on
returns-in-Ok-clause-goes_on c =
    let waits = c.in-Ok.ensures.added ∙ ap (λ l. l ++ c.behind.result.now) c.requires.empty ∙ c.behind.ensures in (
      rw c.in-None.is at c.in_ok-response.ensures.goes_on,
      subst (IsSeen c.advance.new.self.stage) (sym waits) (rw c.in-None.is at c.in_ok-response.ensures.sees),
    )

pub returns-in-Err-clause-refused : goal.returns-in-Err-clause-refused
returns-in-Err-clause-refused c request seen fed = memory_refuses request (seen ++ c.args.bytes.now)
