use Rattle.std.proofs.Common.{Ok}
use Rattle.bg_forward.proofs.Connected.{kept_before}
use Rattle.bg_forward.proofs.forwarding.forward_and_answer.Goals as goal

pub returns-in-Ok-clause-wrote : goal.returns-in-Ok-clause-wrote
returns-in-Ok-clause-wrote g c =
    let body = c.args.asked.now.refusal_body in
    kept_before body _ _ _ (Ok c.args.asked.now.request.now) _ c.forward.ensures.client (c.answer.ensures.wrote body)

pub returns-in-Err-clause-wrote : goal.returns-in-Err-clause-wrote
returns-in-Err-clause-wrote g c =
    let body = c.args.asked.now.refusal_body in
    let read = Ok c.args.asked.now.request.now in
    kept_before body _ _ _ read _ c.forward.ensures.client (c.refuse.ensures.wrote body read c.page_for.ensures)
