use Rattle.bg_tunnel.proofs.TimeoutLemmas.{ends_in_time}
use Rattle.bg_tunnel.proofs.laws.a_tunnel_times_out_after_its_last_byte.Goals as goal

pub returns : goal.returns
returns c calls old new now = ends_in_time calls old new now
