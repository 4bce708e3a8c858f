use Rattle.bg_tunnel.proofs.RunLemmas.{passes_in_order}
use Rattle.bg_tunnel.proofs.laws.bytes_pass_in_order.Goals as goal

pub returns : goal.returns
returns c peer calls old new = passes_in_order peer calls old new
