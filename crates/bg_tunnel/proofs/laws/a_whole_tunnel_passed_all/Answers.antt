use Rattle.bg_tunnel.proofs.EndLemmas.{whole_if_shut, whole_is_all}
use Rattle.bg_tunnel.proofs.laws.a_whole_tunnel_passed_all.Goals as goal

pub returns-clause-exactly : goal.returns-clause-exactly
returns-clause-exactly c calls old new = whole_if_shut calls old new

pub returns-clause-all : goal.returns-clause-all
returns-clause-all c peer calls old new = whole_is_all peer calls old new
