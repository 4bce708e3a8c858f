use Rattle.bg_tunnel.proofs.StallLemmas.{never_stalls}
use Rattle.bg_tunnel.proofs.laws.a_tunnel_never_stalls.Goals as goal

pub returns : goal.returns
returns c calls old new = never_stalls calls old new
