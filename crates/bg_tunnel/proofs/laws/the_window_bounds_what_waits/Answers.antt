use Rattle.bg_tunnel.proofs.RunLemmas.{holds_few}
use Rattle.bg_tunnel.proofs.laws.the_window_bounds_what_waits.Goals as goal

pub returns : goal.returns
returns c most peer calls old new = holds_few most peer calls old new
