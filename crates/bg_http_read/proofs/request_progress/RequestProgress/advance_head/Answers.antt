use Rattle.std.proofs.Common.{drop, refl, subst, sym, ◌∙◌}
use Rattle.bg_http_read.specs.MessageFaults.{as_request}
use Rattle.bg_http_read.specs.RefusedHeads.{TellsHead}
use Rattle.bg_http_read.specs.Requests.{body_of_request}
use Rattle.bg_http_read.specs.RequestsFed.{known_head, requests}
use Rattle.bg_http_read.specs.declared.head_end.HeadEnd.TheVariants as end
use Rattle.bg_http_read.specs.declared.request_progress.RequestStage.TheVariants as part
use Rattle.bg_http_read.proofs.FedRequests.{advances_err, head_refused, judged, owes, rule_refused}
use Rattle.bg_http_read.proofs.FedBodies.{fed_head}
use Rattle.bg_http_read.proofs.FramedBodies.{body_starts}
use Rattle.bg_http_read.proofs.HeadsFound.{request_head_fails}
use Rattle.bg_http_read.proofs.RefusedHeads.{tells_body, tells_broken, tells_err, tells_judged}
use Rattle.bg_http_read.proofs.RuleFaults.{judged_request_of_bytes}
use Rattle.bg_http_read.proofs.request_progress.RequestProgress.advance_head.Goals as goal

pub returns-in_err-head-clause-answer : goal.returns-in_err-head-clause-answer
returns-in_err-head-clause-answer c =
    let e = c.in_err-head.field-0.0 in
    let bytes = c.args.bytes.now in
    advances_err (part.Head end.Blank) bytes bytes _ _ (as_request e) c.from_residual.ensures.1
    (head_refused bytes e c.in_err-head.ensures)

pub returns-in_err-head-clause-head : goal.returns-in_err-head-clause-head
returns-in_err-head-clause-head c none =
    let e = c.in_err-head.field-0.0 in
    let bytes = c.args.bytes.now in
    tells_err _ _ bytes (as_request e) (known_head c.args.self.now.stage) c.from_residual.ensures.1
    (subst (TellsHead bytes (as_request e)) (sym none) (request_head_fails bytes e c.in_err-head.ensures))

pub returns-in-Err-clause-answer : goal.returns-in-Err-clause-answer
returns-in-Err-clause-answer c =
    let bytes = c.args.bytes.now in
    let found = rw c.in-Some.is at c.in_ok-head.ensures in
    rule_refused bytes (drop c.in-Some.taken bytes) c.in-Some.head c.in-Err.fault found.1 (sym c.in-Err.ensures)

pub returns-in-Err-clause-head : goal.returns-in-Err-clause-head
returns-in-Err-clause-head c none =
    let bytes = c.args.bytes.now in
    let found = rw c.in-Some.is at c.in_ok-head.ensures in
    tells_broken c.in-Some.head (drop c.in-Some.taken bytes) bytes c.in-Err.fault found.1 (sym c.in-Err.ensures)

pub returns-in-Err-clause-fault : goal.returns-in-Err-clause-fault
returns-in-Err-clause-fault c =
    judged_request_of_bytes c.in-Some.head c.in-Err.fault (sym c.in-Err.ensures)

pub returns-in-Err-new-clause-head : goal.returns-in-Err-new-clause-head
returns-in-Err-new-clause-head c none =
    let bytes = c.args.bytes.now in
    let left = drop c.in-Some.taken bytes in
    let found = judged bytes left c.in-Some.head c.in-Ok.framing (rw c.in-Some.is at c.in_ok-head.ensures).1 (sym c.in-Ok.ensures) in
    tells_judged c.in-Some.head c.in-Err-new.head c.in-Ok.framing left bytes found c.in-Err-new.ensures.back

pub returns-then-owes_continue-clause-answer : goal.returns-then-owes_continue-clause-answer
returns-then-owes_continue-clause-answer c =
    let bytes = c.args.bytes.now in
    let left = drop c.in-Some.taken bytes in
    let found = judged bytes left c.in-Some.head c.in-Ok.framing (rw c.in-Some.is at c.in_ok-head.ensures).1 (sym c.in-Ok.ensures) in
    let starts = rw c.body_of_request-ends.ensures at c.in-Ok-new.ensures.body in
    let fed = fed_head requests c.in-Some.head c.in-Ok.framing c.in-Ok-new.part left bytes found c.in-Ok-new.ensures.head c.in-Ok-new.ensures.framing starts in
    let owed = sym c.owes_continue.ensures ∙ c.if-owes_continue.true in (
      refl,
      owes bytes fed.after c.in-Ok-new.part.head c.in-Ok-new.part.framing fed.found owed,
      record {
        fed = fed;
        ready = body_starts (body_of_request c.in-Ok.framing) c.in-Ok-new.part.body starts;
        sees = tt;
      },
      tt,
      owed,
    )

pub returns-clause-answer : goal.returns-clause-answer
returns-clause-answer c =
    let bytes = c.args.bytes.now in
    let left = drop c.in-Some.taken bytes in
    let found = judged bytes left c.in-Some.head c.in-Ok.framing (rw c.in-Some.is at c.in_ok-head.ensures).1 (sym c.in-Ok.ensures) in
    let starts = rw c.body_of_request-ends.ensures at c.in-Ok-new.ensures.body in
    let fed = fed_head requests c.in-Some.head c.in-Ok.framing c.in-Ok-new.part left bytes found c.in-Ok-new.ensures.head c.in-Ok-new.ensures.framing starts in
    c.advance_body.ensures.answer (part.Head end.Blank) bytes (sym c.owes_continue.ensures ∙ c.if-owes_continue.false) fed

pub returns-clause-head : goal.returns-clause-head
returns-clause-head c none =
    let bytes = c.args.bytes.now in
    let left = drop c.in-Some.taken bytes in
    let found = judged bytes left c.in-Some.head c.in-Ok.framing (rw c.in-Some.is at c.in_ok-head.ensures).1 (sym c.in-Ok.ensures) in
    let starts = rw c.body_of_request-ends.ensures at c.in-Ok-new.ensures.body in
    let fed = fed_head requests c.in-Some.head c.in-Ok.framing c.in-Ok-new.part left bytes found c.in-Ok-new.ensures.head c.in-Ok-new.ensures.framing starts in
    tells_body _ c.advance_body.result c.in-Ok-new.part left bytes (known_head c.advance_body.new.self.stage) fed c.advance_body.ensures.head
