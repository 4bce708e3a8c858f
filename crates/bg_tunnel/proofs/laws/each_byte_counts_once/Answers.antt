use Rattle.bg_tunnel.proofs.RunLemmas.{counts_bytes}
use Rattle.bg_tunnel.proofs.laws.each_byte_counts_once.Goals as goal

pub returns : goal.returns
returns c peer calls old new = counts_bytes peer calls old new
