use Rattle.std.proofs.Common.{drop, subst, sym, ◌∙◌}
use Rattle.std.proofs.lemmas.List.{drop-drop}
use Rattle.bg_http_read.specs.MessageFaults.{as_response}
use Rattle.bg_http_read.specs.ResponseStates.{IsReadThen}
use Rattle.bg_http_read.specs.BodyFramings.{FedBody}
use Rattle.bg_http_read.specs.ResponsesFed.{responses}
use Rattle.bg_http_read.proofs.FedResponses.{fed_cut_off, fed_refused, fed_whole}
use Rattle.bg_http_read.proofs.FedBodies.{fed_taken}
use Rattle.bg_http_read.proofs.ResponseSteps.{advances_err}
use Rattle.bg_http_read.proofs.InterimTaken.{memory_refuses}
use Rattle.bg_http_read.proofs.response_progress.ResponseProgress.advance_body.Goals as goal

pub returns-in_err-taken-clause-answer : goal.returns-in_err-taken-clause-answer
returns-in_err-taken-clause-answer c request seen same fed =
    let e = c.in_err-taken.field-0.0 in
    let bytes = c.args.bytes.now in
    advances_err request seen bytes _ _ (as_response e) c.from_residual.ensures.1
    (fed_refused request c.args.part (drop c.args.at bytes) seen e fed
    (rw c.behind.ensures at c.in_err-taken.ensures.refused))

pub returns-then-not-is_whole-clause-answer : goal.returns-then-not-is_whole-clause-answer
returns-then-not-is_whole-clause-answer c request seen same fed =
    let bytes = c.args.bytes.now in
    let waits = drop c.args.at bytes in
    let count = c.in_ok-taken.field-0 in
    let left = drop-drop count c.args.at bytes in
    let part = record c.args.part { body = c.take_from.new.self } in
    let next = fed_taken (responses request) c.args.part c.take_from.new.self waits (drop count waits) seen fed
    (rw c.behind.ensures at c.in_ok-taken.ensures.taken) c.take_from.ensures.limit in
    let wants = rw c.behind.ensures at c.in_ok-taken.ensures.wants in
    let empty = rw c.behind.ensures at c.in_ok-taken.ensures.empty in (
      subst (λ l. FedBody (responses request) part l seen) left next,
      record {
        missing = sym c.is_whole.ensures ∙ c.if-not-is_whole.true;
        cut_off = λ open_end. fed_cut_off request c.args.part waits seen fed (wants open_end);
        empty = λ e. sym left ∙ empty e;
      },
    )

pub returns-in-Ok-clause-answer : goal.returns-in-Ok-clause-answer
returns-in-Ok-clause-answer c request seen same fed =
    let waits = drop c.args.at c.args.bytes.now in
    let count = c.in_ok-taken.field-0 in
    let next = fed_taken (responses request) c.args.part c.take_from.new.self waits (drop count waits) seen fed
    (rw c.behind.ensures at c.in_ok-taken.ensures.taken) c.take_from.ensures.limit in
    subst (IsReadThen request c.in-Ok.response seen) (drop-drop count c.args.at c.args.bytes.now)
    (fed_whole request (record c.args.part { body = c.take_from.new.self }) (drop count waits) seen c.in-Ok.response
    next c.take_from.ensures.within c.in-Ok.ensures (sym c.is_whole.ensures ∙ c.if-not-is_whole.false))

pub returns-in-Err-clause-answer : goal.returns-in-Err-clause-answer
returns-in-Err-clause-answer c request seen same fed = memory_refuses request seen
