use Rattle.bg_history_laws.proofs.Promised.Draining.{last-leave}
use Rattle.bg_history_laws.proofs.promises.drained_is_scaled_down.Goals as goal

pub returns : goal.returns
returns c s o closed past seat number r outcomes new legal = last-leave s o past seat number r outcomes new legal.allowed
