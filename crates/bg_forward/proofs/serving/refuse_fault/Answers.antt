use Rattle.std.proofs.Common.{Err}
use Rattle.bg_forward.proofs.serving.refuse_fault.Goals as goal

pub returns-in-Some-clause-wrote : goal.returns-in-Some-clause-wrote
returns-in-Some-clause-wrote g c = c.refuse.ensures.wrote c.args.refusal_body (Err c.args.fault) (c.page_for_fault.ensures c.args.fault)
