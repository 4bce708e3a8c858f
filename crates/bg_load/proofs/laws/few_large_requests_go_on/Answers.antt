use Rattle.bg_load.proofs.GoingOn.{few_go_on}
use Rattle.bg_load.proofs.laws.few_large_requests_go_on.Goals as goal

pub returns : goal.returns
returns c = few_go_on
