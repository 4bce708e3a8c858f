use Rattle.bg_load.proofs.Running.{small_go_on}
use Rattle.bg_load.proofs.laws.small_requests_go_on.Goals as goal

pub returns : goal.returns
returns c = small_go_on
