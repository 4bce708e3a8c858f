use Rattle.bg_tunnel.proofs.EndLemmas.{stays_over}
use Rattle.bg_tunnel.proofs.laws.an_end_stays.Goals as goal

pub returns : goal.returns
returns c peer calls old new = stays_over peer calls old new
