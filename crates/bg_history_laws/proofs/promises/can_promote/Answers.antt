use Rattle.bg_history_laws.proofs.Promised.Promoting.{can-promote}
use Rattle.bg_history_laws.proofs.promises.can_promote.Goals as goal

pub returns : goal.returns
returns c s o closed past legal runs = can-promote c.reachable.ensures s o past legal.allowed runs
