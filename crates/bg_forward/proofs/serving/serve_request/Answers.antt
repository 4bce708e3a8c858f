use Rattle.std.proofs.Common.{Ok}
use Rattle.bg_forward.proofs.serving.serve_request.Goals as goal

pub returns-in-Err-clause-wrote : goal.returns-in-Err-clause-wrote
returns-in-Err-clause-wrote g c = c.refuse.ensures.wrote c.args.asked.now.refusal_body (Ok c.args.asked.now.request.now) c.page_for.ensures
