use Rattle.bg_rollout.proofs.OpenRequests.Leaving.{alone, one_left}
use Rattle.bg_rollout.proofs.laws.has_request.Goals as goal

pub returns-clause-one_less : goal.returns-clause-one_less
returns-clause-one_less c = one_left

pub returns-clause-alone : goal.returns-clause-alone
returns-clause-alone c = alone
