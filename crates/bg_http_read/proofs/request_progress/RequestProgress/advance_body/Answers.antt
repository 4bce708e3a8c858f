use Rattle.std.proofs.Common.{drop, subst, sym, ◌∙◌}
use Rattle.std.proofs.lemmas.List.{drop-drop}
use Rattle.bg_http_read.specs.RequestStates.{IsReadThen, IsRefusedAsked}
use Rattle.bg_http_read.specs.BodyFramings.{FedBody}
use Rattle.bg_http_read.specs.RequestsFed.{requests, was_asked}
use Rattle.bg_http_read.proofs.FedRequests.{fed_cannot_end, fed_cut_off, fed_refused, fed_whole}
use Rattle.bg_http_read.proofs.FedBodies.{fed_taken}
use Rattle.bg_http_read.proofs.request_progress.RequestProgress.advance_body.Goals as goal

pub returns-in-Err-clause-answer : goal.returns-in-Err-clause-answer
returns-in-Err-clause-answer c old seen owes fed =
    subst (λ e. IsRefusedAsked (was_asked old) e seen) (sym c.from.ensures)
    (fed_refused c.args.part (drop c.args.at c.args.bytes.now) seen c.in-Err.fault (was_asked old) fed owes
    (rw c.behind.ensures at c.in-Err.ensures.refused))

pub returns-then-is_whole-clause-answer : goal.returns-then-is_whole-clause-answer
returns-then-is_whole-clause-answer c old seen owes fed =
    let waits = drop c.args.at c.args.bytes.now in
    let count = c.in-Ok.count in
    let next = fed_taken requests c.args.part c.take_from.new.self waits (drop count waits) seen fed
    (rw c.behind.ensures at c.in-Ok.ensures.taken) c.take_from.ensures.limit in
    subst (IsReadThen (was_asked old) c.into_request.result seen) (drop-drop count c.args.at c.args.bytes.now)
    (fed_whole (record c.args.part { body = c.take_from.new.self }) (drop count waits) seen c.into_request.result (was_asked old)
    next c.take_from.ensures.within c.into_request.ensures (sym c.is_whole.ensures ∙ c.if-is_whole.true) owes)

pub returns-clause-answer : goal.returns-clause-answer
returns-clause-answer c old seen owes fed =
    let waits = drop c.args.at c.args.bytes.now in
    let count = c.in-Ok.count in
    let left = drop-drop count c.args.at c.args.bytes.now in
    let part = record c.args.part { body = c.take_from.new.self } in
    let next = fed_taken requests c.args.part c.take_from.new.self waits (drop count waits) seen fed
    (rw c.behind.ensures at c.in-Ok.ensures.taken) c.take_from.ensures.limit in
    let wants = rw c.behind.ensures at c.in-Ok.ensures.wants in
    let missing = sym c.is_whole.ensures ∙ c.if-is_whole.false in (
      fed_cut_off c.args.part waits seen (was_asked old) fed owes
          (wants (fed_cannot_end part (drop count waits) seen next missing)),
      record {
        fed = subst (λ l. FedBody requests part l seen) left next;
        ready = c.take_from.ensures.within;
        sees = tt;
      },
      tt,
      owes,
    )
