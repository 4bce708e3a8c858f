use Rattle.bg_tunnel.proofs.RunLemmas.{ends_after_all}
use Rattle.bg_tunnel.proofs.laws.an_end_follows_all_bytes.Goals as goal

pub returns : goal.returns
returns c peer calls old new = ends_after_all peer calls old new
