use Rattle.bg_endpoint_side.proofs.ArrivedLemmas.{lends_all, lends_none}
use Rattle.bg_endpoint_side.proofs.endpoint_request.EndpointRequest.arrived.Goals as goal

pub returns-clause-came : goal.returns-clause-came
returns-clause-came c came sound = lends_all _ _ _ came c.get.ensures.value sound.5

pub returns-clause-none : goal.returns-clause-none
returns-clause-none c came sound = lends_none _ _ _ came c.get.ensures.value sound.5
